-- Limit cycles: without input the outputs never stand still at 0.
use Rattle.std.specs.Prelude.{◌≡◌, ◌≢◌, ℕ, ◌<◌, ◌≤◌, List, length, take, ℤ, pos}
use Rattle.std.specs.List.{All, Contains}
use Rattle.dsv_word.specs.Words.{IsWord}
use Rattle.dsv_system.specs.Runs.{SampleRow}
use Rattle.dsv_system.specs.Systems.{Behaviour, zeros}

-- p is positive, and p inputs 0 bring the start back
pub record Returns (b : Behaviour) (start : List ℤ) (p : ℕ) : Type 0 where
  pub some : 1 ≤ p
  pub back : b.registers start (zeros p) ≡ start

-- p is the least positive number of inputs 0 that bring the start back
pub record IsLeastPeriod (b : Behaviour) (start : List ℤ) (p : ℕ) : Type 0 where
  pub returns : Returns b start p
  pub least : (n : ℕ) → n < p → Returns b start n → ⊥

-- one of the outputs at the first p inputs 0 isn't 0
abbrev pub IsSounding : Behaviour → List ℤ → ℕ → Type 0
IsSounding b start p = (r : SampleRow) × Contains (b.rows start (zeros p)) r × (r.y ≢ pos 0)

-- Limit cycle: the start has 0 in the feed-forward registers and words in the others; p inputs 0
-- bring it back, and one of these p outputs isn't 0.
pub record Cycles (b : Behaviour) (start : List ℤ) (p : ℕ) : Type 0 where
  pub many : length start ≡ b.many
  pub quiet : All (λ w. w ≡ pos 0) (take b.forward start)
  pub words : All (IsWord b.format) start
  pub returns : Returns b start p
  pub sounding : IsSounding b start p
