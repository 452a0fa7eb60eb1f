-- Serves private contracts: netlists with the range of their inputs.
use Rattle.std.specs.Prelude.{ℕ}
use Rattle.dsv_meaning.specs.declared.replays.Trace.{Trace}
use Rattle.dsv_realise.specs.declared.ranged_netlist.RangedNetlist.{RangedNetlist}
use Rattle.dsv_netlist.specs.Systems.{runs_of}
use Rattle.dsv_meaning.specs.Traces.{IsTraceBy}

-- The trace replays in the netlist over inputs of its range, with at most so many samples.
abbrev pub IsTraceIn : RangedNetlist → ℕ → Trace → Type 0
IsTraceIn s samples t = IsTraceBy (runs_of s.net.now) s.low s.high samples t
