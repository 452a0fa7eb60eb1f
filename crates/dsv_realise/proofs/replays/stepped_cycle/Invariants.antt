use Rattle.std.proofs.Common.{◌+◌, List}
use Rattle.std.specs.List.{All}
use Rattle.std.proofs.Math.IntN.{ℤ}
use Rattle.dsv_word.specs.Words.{IsWord}
use Rattle.dsv_system.proofs.QuietRuns.{AreQuietOutputs, IsAway}
use Rattle.dsv_netlist.specs.Systems.{system_of}
use Rattle.dsv_realise.proofs.replays.stepped_cycle.Given as goal

abbrev pub invariant-loop-done : goal.invariant-loop-done
invariant-loop-done l = record {
  words : All (IsWord l.net.format) l.registers;
  away : IsAway (List ℤ) (system_of l.net) l.fn.start l.registers l.done (l.done + 1) l.sounding;
  written : AreQuietOutputs (List ℤ) (system_of l.net) l.fn.start l.outputs l.done l.limit;
}
