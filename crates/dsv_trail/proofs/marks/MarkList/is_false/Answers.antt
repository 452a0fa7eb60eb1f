use Rattle.dsv_trail.proofs.MarkLemmas.{marks-inside}
use Rattle.dsv_trail.proofs.marks.MarkList.is_false.Goals as goal

pub returns-clause-whole : goal.returns-clause-whole
returns-clause-whole c = rw (← c.self.view_is) (marks-inside c.self.inside c.self.invariant)
