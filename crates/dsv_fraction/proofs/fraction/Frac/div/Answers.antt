use Rattle.std.proofs.Common.{◌∙◌, ap, sym}
use Rattle.dsv_fraction.specs.Arithmetic.{bounded_ratio}
use Rattle.dsv_fraction.proofs.Quotients.{quotient_parts, size_positive}
use Rattle.dsv_fraction.proofs.Values.{quotient_value}
use Rattle.dsv_fraction.proofs.fraction.Frac.div.Goals as goal

pub returns-clause-exact : goal.returns-clause-exact
returns-clause-exact c = c.product_of.ensures ∙ ap bounded_ratio (sym (quotient_parts c.parts.ensures c.parts-divisor.ensures (size_positive c.parts-divisor.ensures c.requires)))

pub returns-clause-value : goal.returns-clause-value
returns-clause-value c =
    let f = c.parts.ensures in
    let g = c.parts-divisor.ensures in
    rw (c.product_of.ensures ∙ ap bounded_ratio (sym (quotient_parts f g (size_positive g c.requires))))
    (quotient_value c.args.self.now c.args.other.now (rw f.same_den f.lowest.positive) c.requires)
