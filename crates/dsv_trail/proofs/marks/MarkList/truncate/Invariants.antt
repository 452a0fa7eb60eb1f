use Rattle.std.proofs.Common.{◌≡◌, ◌≤◌, length, take}
use Rattle.dsv_trail.proofs.marks.MarkList.truncate.Given as goal

abbrev pub invariant-loop-self : goal.invariant-loop-self
invariant-loop-self l =
    record {
      some : l.len ≤ length l.self.marks;
      most : length l.self.marks ≤ length l.fn.self.marks;
      kept : l.self ≡ record l.fn.self { marks = take (length l.self.marks) l.fn.self.marks };
    }

abbrev pub decreases-loop-self : goal.decreases-loop-self
decreases-loop-self l = length l.self.marks
