use Rattle.std.proofs.Common.{◌≡◌, drop, false}
use Rattle.dsv_cnf.specs.Reading.{comments_end}
use Rattle.dsv_cnf.proofs.reader.comments_end.Given as goal

abbrev pub invariant-loop-i : goal.invariant-loop-i
invariant-loop-i l = comments_end l.inside (drop l.i l.bytes) l.i ≡ comments_end false l.bytes 0
