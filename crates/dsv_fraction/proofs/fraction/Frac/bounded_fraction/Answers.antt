use Rattle.std.proofs.Common.{◌∙◌, ap, sym}
use Rattle.dsv_fraction.specs.Arithmetic.{bounded_ratio}
use Rattle.dsv_fraction.proofs.Lowest.{is_lowest}
use Rattle.dsv_fraction.proofs.fraction.Frac.bounded_fraction.Goals as goal

pub exact_fraction-requires : goal.exact_fraction-requires
exact_fraction-requires c = let f = c.cancel-parts.ensures.parts in record { positive = f.positive; coprime = f.coprime }

pub returns : goal.returns
returns c =
    let f = c.cancel-parts.ensures.parts in
    c.exact_fraction.ensures ∙ ap bounded_ratio (sym (is_lowest c.args.negative _ _ _ _ c.requires f.coprime f.same))
