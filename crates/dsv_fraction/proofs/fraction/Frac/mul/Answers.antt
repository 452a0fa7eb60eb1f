use Rattle.std.proofs.Common.{◌∙◌, ap, sym}
use Rattle.dsv_fraction.specs.Arithmetic.{bounded_ratio}
use Rattle.dsv_fraction.proofs.Products.{times_parts}
use Rattle.dsv_fraction.proofs.Values.{times_value}
use Rattle.dsv_fraction.proofs.fraction.Frac.mul.Goals as goal

pub returns-clause-exact : goal.returns-clause-exact
returns-clause-exact c = c.product_of.ensures ∙ ap bounded_ratio (sym (times_parts c.parts.ensures c.parts-2.ensures))

pub returns-clause-value : goal.returns-clause-value
returns-clause-value c =
    let f = c.parts.ensures in
    let g = c.parts-2.ensures in
    rw (c.product_of.ensures ∙ ap bounded_ratio (sym (times_parts f g)))
    (times_value c.args.self.now c.args.other.now (rw f.same_den f.lowest.positive) (rw g.same_den g.lowest.positive))
