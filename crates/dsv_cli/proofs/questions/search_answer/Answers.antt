use Rattle.dsv_cli.proofs.Answering.{overflow_searched, overflow_plain, cycle_searched, cycle_plain}
use Rattle.dsv_cli.proofs.questions.search_answer.Goals as goal

pub returns-in-Overflow-clause-search : goal.returns-in-Overflow-clause-search
returns-in-Overflow-clause-search g c =
    let f = c.overflow_within in
    let e = f.ensures in
    rw (c.in-Overflow.is, c.overflow_found.ensures) (overflow_searched c.args.question.now.samples c.args.budget.now.conflicts (g.S.Subject.view c.args.asking.now.subject.now) f.result e.sized e.never e.refuted e.trace e.spent)

pub returns-in-Overflow-clause-plain : goal.returns-in-Overflow-clause-plain
returns-in-Overflow-clause-plain g c = rw c.overflow_found.ensures (overflow_plain c.overflow_within.result)

pub returns-in-LimitCycle-clause-search : goal.returns-in-LimitCycle-clause-search
returns-in-LimitCycle-clause-search g c =
    let f = c.cycle_within in
    let e = f.ensures in
    rw (c.in-LimitCycle.is, c.cycle_found.ensures) (cycle_searched c.args.question.now.samples c.args.budget.now.conflicts (g.S.Subject.view c.args.asking.now.subject.now) f.result e.sized e.never e.refuted e.cycle e.spent)

pub returns-in-LimitCycle-clause-plain : goal.returns-in-LimitCycle-clause-plain
returns-in-LimitCycle-clause-plain g c = rw c.cycle_found.ensures (cycle_plain c.cycle_within.result)
