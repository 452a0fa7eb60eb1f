use Rattle.std.proofs.Common.{◌≡◌, ℕ, List, sym, subst}
use Rattle.dsv_cnf.specs.Formula.{assignment_of}
use Rattle.dsv_term.specs.Terms.{AreValues, word_of}
use Rattle.dsv_bounded.proofs.Accepted.{accepted_refutes}
use Rattle.dsv_bounded.proofs.decision.decide.Goals as goal

pub returns-in-Happens-clause-happens : goal.returns-in-Happens-clause-happens
returns-in-Happens-clause-happens c =
    let g = c.args.goal in
    let e = c.in_ok-blasted.ensures in
    let model = c.in-Happens.model in
    let is_model = rw c.in-Happens.is at c.in_ok-model.ensures.model in
    subst (λ (values : List ℕ). AreValues g.terms.inputs values × ((word_of g.terms values g.root).number ≡ 1)) (sym c.in_ok-values_of-in-Happens.ensures)
    (e.values (assignment_of model), e.decisive.found model is_model)

pub returns-in-Never-clause-never : goal.returns-in-Never-clause-never
returns-in-Never-clause-never c =
    let b = c.in_ok-blasted.blasted in
    let refuted = rw c.in-Never.is at c.in_ok-model.ensures.refuted in
    c.in_ok-blasted.ensures.decisive.none (accepted_refutes b.formula c.in-Never.log refuted.accepted)
