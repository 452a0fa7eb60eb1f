use Rattle.dsv_invariant.proofs.Sentences.{never_holds}
use Rattle.dsv_invariant.proofs.check.Check.part_log.Goals as goal

pub returns-in-Never-clause-holds : goal.returns-in-Never-clause-holds
returns-in-Never-clause-holds c =
    let g = c.in_ok-goal.goal in
    let net = c.args.self.now.realises in
    never_holds c.args.self.now.quantised.now c.args.self.now.net.now c.args.self.now.candidate.now c.args.part g.terms g.root net.runs net.quantised c.in_ok-goal.ensures.asks (rw c.in-Never.is at c.in_ok-log.ensures.never)
