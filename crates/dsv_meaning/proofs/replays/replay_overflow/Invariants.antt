use Rattle.dsv_system.specs.Systems.{zeros}
use Rattle.dsv_meaning.specs.Systems.{equations_of}
use Rattle.dsv_meaning.proofs.ReplayLemmas.{AreOutputs, IsUnbroken}
use Rattle.dsv_meaning.proofs.replays.replay_overflow.Given as goal

abbrev pub invariant-loop-i : goal.invariant-loop-i
invariant-loop-i l = record {
  unbroken : IsUnbroken l.quantised (zeros (equations_of l.quantised).many) l.inputs l.registers.items l.i;
  written : AreOutputs l.quantised (zeros (equations_of l.quantised).many) l.inputs l.outputs l.i;
}
