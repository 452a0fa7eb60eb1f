use Rattle.dsv_invariant.proofs.BrokenRuns.{IsOnWay}
use Rattle.dsv_invariant.proofs.exits.first_leaving.Given as goal

abbrev pub invariant-loop-i : goal.invariant-loop-i
invariant-loop-i l = IsOnWay l.net l.candidate l.fn.registers l.inputs l.i l.registers
