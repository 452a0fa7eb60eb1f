use Rattle.std.proofs.Common.{arith, ap, ◌∙◌, Ok}
use Rattle.dsv_cascade.proofs.PolynomialSizes.{few_coefficients}
use Rattle.dsv_cascade.proofs.stability.section_poly.Goals as goal

pub returns-clause-few : goal.returns-clause-few
returns-clause-few c =
    let few = few_coefficients c.args.section.now c.in-Poly.poly (c.in_ok-poly.ensures.exact ∙ ap Ok c.in-Poly.is) in
    omega (arith, few, c.requires)
