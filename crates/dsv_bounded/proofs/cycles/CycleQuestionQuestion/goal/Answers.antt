use Rattle.std.proofs.Common.{ℕ, List}
use Rattle.dsv_bounded.specs.Questions.{DoCycle, free_registers, input_widths}
use Rattle.dsv_bounded.proofs.Questions.{asks_from}
use Rattle.dsv_bounded.proofs.cycles.CycleQuestionQuestion.goal.Goals as goal

pub returns-clause-asks : goal.returns-clause-asks
returns-clause-asks c =
    let net = c.args.self.now.subject.now.net.now in
    let P : List ℕ → Type 0 = DoCycle net c.args.self.now.periods in
    let g = c.in_ok-goal.goal in
    let e = c.in_ok-goal.ensures in
    asks_from g.terms g.root (input_widths net (free_registers net)) P P c.len-count.ensures.terms g.stands g.one_bit e.inputs e.exact (λ values b. b) (λ values b. b)
