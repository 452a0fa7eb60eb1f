use Rattle.std.proofs.Common.{rules, ◌≡◌, Ok}
use Rattle.dsv_tested.specs.Tested.{tested_of}
use Rattle.dsv_tested.specs.declared.side.Tested.TheVariants as tested
use Rattle.dsv_generator.proofs.Polynomials.{closed_of, never_wide}
use Rattle.dsv_generator.proofs.finding.root_finding.Goals as goal

pub form_finding-requires : goal.form_finding-requires
form_finding-requires c =
    let e : tested_of c.args.quantised.now c.args.side ≡ Ok (tested.Poly c.in-Ok-Poly.poly) = search rules in
    closed_of c.args.quantised.now c.args.side c.in-Ok-Poly.poly c.requires e

pub unreachable-requires : goal.unreachable-requires
unreachable-requires c = never_wide c.args.quantised.now c.args.side c.in-Err.field-0 c.requires c.in-Err.ensures.exact
