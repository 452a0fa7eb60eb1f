use Rattle.std.proofs.Common.{take}
use Rattle.std.specs.List.{All}
use Rattle.dsv_template.specs.Candidates.{Fulfils}
use Rattle.dsv_template.proofs.candidate.are_fulfilled.Given as goal

abbrev pub invariant-loop-inequality : goal.invariant-loop-inequality
invariant-loop-inequality l = All (Fulfils l.registers) (take l.inequality-index l.inequalities)
