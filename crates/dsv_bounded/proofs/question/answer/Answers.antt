use Rattle.std.proofs.Common.{ℕ, List, sym, subst}
use Rattle.dsv_term.specs.Terms.{AreValues}
use Rattle.dsv_bounded.proofs.Questions.{never_by}
use Rattle.dsv_bounded.proofs.question.answer.Goals as goal

pub replay-requires-clause-fit : goal.replay-requires-clause-fit
replay-requires-clause-fit g c =
    let values = c.in-Happens.values in
    let h = rw c.in-Happens.is at c.in_ok-log.ensures.happens in
    let widths = g.Q.Question.widths c.args.question.now in
    subst (AreValues widths) (sym c.as_slice.ensures) (subst (λ (is : List ℕ). AreValues is values) c.in_ok-goal.ensures.asks.inputs h.0)

pub replay-requires-clause-are : goal.replay-requires-clause-are
replay-requires-clause-are g c =
    let values = c.in-Happens.values in
    let h = rw c.in-Happens.is at c.in_ok-log.ensures.happens in
    let asks = c.in_ok-goal.ensures.asks in
    let fit = subst (λ (is : List ℕ). AreValues is values) asks.inputs h.0 in
    subst (g.Q.Question.asked c.args.question.now) (sym c.as_slice.ensures) (asks.holds values fit h.1)

pub returns-in-Never-clause-never : goal.returns-in-Never-clause-never
returns-in-Never-clause-never g c =
    let t = c.in_ok-goal.goal in
    never_by t.terms t.root _ _ c.in_ok-goal.ensures.asks (rw c.in-Never.is at c.in_ok-log.ensures.never)
