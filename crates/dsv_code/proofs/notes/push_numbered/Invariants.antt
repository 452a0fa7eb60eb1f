use Rattle.std.proofs.Common.{◌≡◌, ◌++◌}
use Rattle.dsv_code.specs.Members.{numbered}
use Rattle.dsv_code.proofs.notes.push_numbered.Given as goal

abbrev pub invariant-loop-k : goal.invariant-loop-k
invariant-loop-k l = l.list ≡ l.fn.list ++ numbered l.section l.letter l.k
