-- Traces of overflows.
use Rattle.std.specs.Prelude.{ℕ, ◌<◌, ℤ}
use Rattle.dsv_meaning.specs.declared.replays.Trace.{Trace}
use Rattle.dsv_system.specs.Breaks.{Replays}
use Rattle.dsv_system.specs.Systems.{Behaviour}

-- The trace replays by the behaviour, over inputs of this range, with at most so many samples.
pub record IsTraceBy (b : Behaviour) (low high : ℤ) (samples : ℕ) (t : Trace) : Type 0 where
  pub replays : Replays b low high t.inputs t.outputs t.sample t.value t.exact
  pub within : t.sample < samples
