use Rattle.std.proofs.Common.{◌≡◌, ◌++◌, ◌+◌, ◌-◌}
use Rattle.dsv_blast.specs.Blast.{run_from}
use Rattle.dsv_blast.proofs.goal_formula.run.Given as goal

abbrev pub invariant-loop-i : goal.invariant-loop-i
invariant-loop-i l = l.bits ++ run_from (l.first + l.i) (l.width - l.i) ≡ run_from l.first l.width
