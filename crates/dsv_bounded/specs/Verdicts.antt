-- What bounded verdicts say of what runs in words.
use Rattle.std.specs.Prelude.{◌≡◌, ℕ, ◌≤◌, List, length, map, ℤ}
use Rattle.dsv_meaning.specs.declared.replays.Cycle.{Cycle}
use Rattle.dsv_system.specs.Breaks.{Breaks}
use Rattle.dsv_system.specs.Cycles.{Cycles, IsLeastPeriod}
use Rattle.dsv_system.specs.Runs.{SampleRow}
use Rattle.dsv_system.specs.Systems.{Behaviour, zeros}

-- some list of so many inputs from `low` to `high` breaks
abbrev pub BreaksWithinBy : Behaviour → ℤ → ℤ → ℕ → Type 0
BreaksWithinBy b low high samples = (inputs : List ℤ) × (length inputs ≡ samples)
    × Breaks b low high inputs

-- some start has a limit cycle of a period up to this
abbrev pub CyclesWithinBy : Behaviour → ℕ → Type 0
CyclesWithinBy b periods = (start : List ℤ) × (p : ℕ) × (1 ≤ p) × (p ≤ periods)
    × Cycles b start p

-- The start has a limit cycle of this period, which is its least and at most so many samples, and
-- these are the outputs of one period.
pub record IsCycleBy (b : Behaviour) (periods : ℕ) (z : Cycle) : Type 0 where
  pub cycles : Cycles b z.start z.period
  pub least : IsLeastPeriod b z.start z.period
  pub within : z.period ≤ periods
  pub gives : map (λ (r : SampleRow). r.y) (b.rows z.start (zeros z.period)) ≡ z.outputs
