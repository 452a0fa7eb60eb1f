use Rattle.std.proofs.Common.{◌≡◌, take}
use Rattle.dsv_meaning.proofs.simulation.loaded_registers.Given as goal

abbrev pub invariant-loop-word : goal.invariant-loop-word
invariant-loop-word l = l.registers.items ≡ take l.word-index l.start
