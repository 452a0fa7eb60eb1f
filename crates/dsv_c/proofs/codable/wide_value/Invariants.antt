use Rattle.dsv_c.proofs.CodableLemmas.{ScannedTo}
use Rattle.dsv_c.proofs.codable.wide_value.Given as goal

abbrev pub invariant-loop-i : goal.invariant-loop-i
invariant-loop-i l = ScannedTo l.net l.i l.count
