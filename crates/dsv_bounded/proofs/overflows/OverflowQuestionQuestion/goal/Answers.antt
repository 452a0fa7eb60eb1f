use Rattle.std.proofs.Common.{ℕ, List, SFits, rules}
use Rattle.std.specs.Int.{w64}
use Rattle.std.proofs.lemmas.Int.{to_z-of_z}
use Rattle.dsv_bounded.specs.Questions.{DoBreak, input_widths}
use Rattle.dsv_bounded.proofs.Questions.{asks_from}
use Rattle.dsv_bounded.proofs.overflows.OverflowQuestionQuestion.goal.Goals as goal

pub returns-clause-asks : goal.returns-clause-asks
returns-clause-asks c =
    let s = c.args.self.now.subject.now in
    let P : List ℕ → Type 0 = DoBreak s.net.now s.low s.high in
    let g = c.in_ok-goal.goal in
    let e = c.in_ok-goal.ensures in
    let low : SFits w64 s.low = search rules in
    let high : SFits w64 s.high = search rules in
    let exact = rw (to_z-of_z w64 s.low low, to_z-of_z w64 s.high high) at e.exact in
    asks_from g.terms g.root (input_widths s.net.now c.args.self.now.samples) P P c.len-count.ensures.terms g.stands g.one_bit e.inputs exact (λ values b. b) (λ values b. b)
