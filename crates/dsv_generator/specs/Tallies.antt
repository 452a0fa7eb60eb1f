-- How findings of generated controllers are counted.
use Rattle.std.specs.Prelude.{◌≡◌, ℕ, suc, ◌+◌, ◌<◌, ◌≤◌, Bool, true, false, not, List, [], ◌∷◌}
use Rattle.std.specs.Prelude.{◌++◌, length}
use Rattle.dsv_hints.specs.declared.search.Searched.{Searched}
use Rattle.dsv_hints.specs.declared.search.Searched.TheVariants as searched
use Rattle.dsv_meaning.specs.declared.replays.Trace.{Trace}
use Rattle.dsv_quantiser.specs.QuantisedView.{QuantisedView}
use Rattle.dsv_generator.specs.Controllers.{IsGenerated}
use Rattle.dsv_generator.specs.Findings.{IsFinding}
use Rattle.dsv_generator.specs.declared.finding.Finding.{Finding}
use Rattle.dsv_generator.specs.declared.finding.RootFinding.{RootFinding}
use Rattle.dsv_generator.specs.declared.finding.RootFinding.TheVariants as root
use Rattle.dsv_tally.specs.declared.tally.Generated.{Generated}
use Rattle.dsv_tally.specs.declared.tally.SpentLog.{SpentLog}
use Rattle.dsv_tally.specs.declared.tally.Tally.{Tally}

-- nothing is counted yet
abbrev pub empty_tally : Tally
empty_tally = record {
  count = 0;
  stable = 0;
  unstable = 0;
  minimum = 0;
  nonminimum = 0;
  safe = 0;
  overflow = 0;
  spent = 0;
}

-- ---- what is counted
abbrev pub does_fall : RootFinding → Bool
does_fall root.Falls = true
does_fall root.KeptAway = false
does_fall root.NoZeros = false

abbrev pub is_never : Searched Trace → Bool
is_never (searched.Never log) = true
is_never (searched.Happens trace) = false
is_never (searched.Spent log) = false

abbrev pub does_happen : Searched Trace → Bool
does_happen (searched.Never log) = false
does_happen (searched.Happens trace) = true
does_happen (searched.Spent log) = false

abbrev pub is_spent : Searched Trace → Bool
is_spent (searched.Never log) = false
is_spent (searched.Happens trace) = false
is_spent (searched.Spent log) = true

abbrev pub one_if : Bool → ℕ
one_if true = 1
one_if false = 0

-- One controller more. It is stable where its form falls, and of minimum phase where that of its
-- numerator does.
abbrev pub with_finding : Finding → Tally → Tally
with_finding f t = record {
  count = t.count + 1;
  stable = t.stable + one_if (does_fall f.stability);
  unstable = t.unstable + one_if (not (does_fall f.stability));
  minimum = t.minimum + one_if (does_fall f.minimum_phase);
  nonminimum = t.nonminimum + one_if (not (does_fall f.minimum_phase));
  safe = t.safe + one_if (is_never f.overflow);
  overflow = t.overflow + one_if (does_happen f.overflow);
  spent = t.spent + one_if (is_spent f.overflow);
}

-- the log of a search that gave up is kept with the controller's number
abbrev pub with_log : ℕ → Searched Trace → List SpentLog → List SpentLog
with_log n (searched.Never log) logs = logs
with_log n (searched.Happens trace) logs = logs
with_log n (searched.Spent log) logs = logs ++ record { index = n; log = log } ∷ []

-- What is counted and kept after the first controllers, so many, of a seed.
pub data IsTally (seed : ℕ) : ℕ → Tally → List SpentLog → Type 0 where
  none : IsTally seed 0 empty_tally []
  more : (n : ℕ) (t : Tally) (logs : List SpentLog) (q : QuantisedView) (f : Finding)
      → IsTally seed n t logs → IsGenerated seed n q → IsFinding q f
      → IsTally seed (suc n) (with_finding f t) (with_log n f.overflow logs)

-- for private contracts: all numbers are below a limit
pub record IsBelow (limit : ℕ) (t : Tally) : Type 0 where
  pub count : t.count < limit
  pub stable : t.stable < limit
  pub unstable : t.unstable < limit
  pub minimum : t.minimum < limit
  pub nonminimum : t.nonminimum < limit
  pub safe : t.safe < limit
  pub overflow : t.overflow < limit
  pub spent : t.spent < limit

-- ---- what follows for the sums
-- each index is greater than those before it, and below a bound
abbrev pub AreRising : ℕ → List SpentLog → ℕ → Type 0
AreRising least [] bound = least ≤ bound
AreRising least (s ∷ logs) bound = (least ≤ s.index) × AreRising (suc s.index) logs bound

-- The counts of each property add up to the number of controllers, and each search that gave up has
-- its log, in the order of the controllers.
pub record AddsUp (count : ℕ) (t : Tally) (logs : List SpentLog) : Type 0 where
  pub counted : t.count ≡ count
  pub stability : t.stable + t.unstable ≡ count
  pub minimum_phase : t.minimum + t.nonminimum ≡ count
  pub overflow : t.safe + t.overflow + t.spent ≡ count
  pub kept : length logs ≡ t.spent
  pub rising : AreRising 0 logs count

-- What is generated from a seed, so many controllers.
pub record IsGeneratedFrom (seed count : ℕ) (g : Generated) : Type 0 where
  pub same_seed : g.seed ≡ seed
  pub tally : IsTally seed count g.tally g.spent
  pub adds_up : AddsUp count g.tally g.spent
