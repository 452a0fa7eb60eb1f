use Rattle.std.proofs.Common.{◌+◌}
use Rattle.dsv_system.proofs.QuietRuns.{AreQuietOutputs, IsAway}
use Rattle.dsv_meaning.specs.Equations.{Past}
use Rattle.dsv_meaning.specs.Systems.{equations_of}
use Rattle.dsv_meaning.proofs.replays.replay_cycle.Given as goal

abbrev pub invariant-loop-done : goal.invariant-loop-done
invariant-loop-done l = record {
  away : IsAway Past (equations_of l.quantised) l.fn.start l.registers.items l.done (l.done + 1) l.sounding;
  written : AreQuietOutputs Past (equations_of l.quantised) l.fn.start l.outputs l.done l.limit;
}
