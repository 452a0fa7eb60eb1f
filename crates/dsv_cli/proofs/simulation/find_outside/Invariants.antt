use Rattle.std.proofs.Common.{take}
use Rattle.std.specs.List.{All}
use Rattle.dsv_word.specs.Words.{IsWord}
use Rattle.dsv_cli.proofs.simulation.find_outside.Given as goal

abbrev pub invariant-loop-i : goal.invariant-loop-i
invariant-loop-i l = All (IsWord l.format) (take l.i l.inputs)
