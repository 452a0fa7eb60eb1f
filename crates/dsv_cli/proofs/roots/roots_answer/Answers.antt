use Rattle.std.proofs.Common.{◌≡◌, true, rules}
use Rattle.std.specs.Prelude.{Ok}
use Rattle.dsv_tested.specs.Tested.{side_of, tested_of}
use Rattle.dsv_tested.specs.declared.side.Tested.TheVariants as tested
use Rattle.dsv_report.specs.declared.answers.Answer.TheVariants as answer
use Rattle.dsv_cli.proofs.Causes.{property_of}
use Rattle.dsv_cli.proofs.Unasked.{unasked}
use Rattle.dsv_cli.proofs.roots.roots_answer.Goals as goal

pub returns-in-Ok-Poly-clause-property : goal.returns-in-Ok-Poly-clause-property
returns-in-Ok-Poly-clause-property g c =
    let is : tested_of c.args.quantised.now (side_of c.args.question.now.property) ≡ Ok (tested.Poly c.in-Ok-Poly.poly) = search rules in
    property_of c.args.question.now.property c.args.question.now.schur_cohn c.args.quantised.now c.in-Ok-Poly.poly c.polynomial_answer.result is c.polynomial_answer.ensures.decision

pub returns-in-Ok-NoZeros-clause-proposers : goal.returns-in-Ok-NoZeros-clause-proposers
returns-in-Ok-NoZeros-clause-proposers g c =
    unasked (λ b. b.ptr) (λ b. (goal.FormProposer-dyn g (b.vtable, b.value)).last b.value) (λ b cs. (goal.FormProposer-dyn g (b.vtable, b.value)).sure b.value cs) (λ b cs. (goal.FormProposer-dyn g (b.vtable, b.value)).to_come b.value cs) (c.args.question.now.schur_cohn ≡ true)
    c.args.forms.now.items (Ok answer.NoZeros) tt

pub returns-in-Err-clause-proposers : goal.returns-in-Err-clause-proposers
returns-in-Err-clause-proposers g c =
    unasked (λ b. b.ptr) (λ b. (goal.FormProposer-dyn g (b.vtable, b.value)).last b.value) (λ b cs. (goal.FormProposer-dyn g (b.vtable, b.value)).sure b.value cs) (λ b cs. (goal.FormProposer-dyn g (b.vtable, b.value)).to_come b.value cs) (c.args.question.now.schur_cohn ≡ true)
    c.args.forms.now.items (Ok (answer.Wide c.in-Err.field-0.index)) tt
