use Rattle.dsv_trail.proofs.MarkLemmas.{few-open, marks-inside}
use Rattle.dsv_trail.proofs.marks.MarkList.len.Goals as goal

pub returns-clause-whole : goal.returns-clause-whole
returns-clause-whole c = rw (← c.self.view_is) (marks-inside c.self.inside c.self.invariant)

pub returns-clause-room : goal.returns-clause-room
returns-clause-room c = rw (← c.self.view_is) (λ v lt o. few-open c.self.inside.marks.items c.self.inside.vars v (marks-inside c.self.inside c.self.invariant) lt o)
