-- Kept sets: what makes a candidate good for a system.
use Rattle.std.specs.Prelude.{◌≡◌, ℕ, ◌<◌, ◌≤◌, List, [], ◌∷◌, ◌++◌, length, take, ℤ, ◌≤ℤ◌}
use Rattle.std.specs.List.{All, Contains}
use Rattle.dsv_word.specs.Words.{IsWord}
use Rattle.dsv_system.specs.Breaks.{IsInside, IsOutside, Breaks}
use Rattle.dsv_system.specs.Runs.{SampleRow}
use Rattle.dsv_system.specs.Systems.{System, rows, registers_after, zeros, AreInRange, behaviour_of}
use Rattle.dsv_template.specs.declared.candidate.Candidate.{Candidate}
use Rattle.dsv_template.specs.Candidates.{IsInSet}

-- a word in each register
pub record IsState (P : Type 0) (m : System P) (registers : List ℤ) : Type 0 where
  pub many : length registers ≡ m.many
  pub words : All (IsWord m.format) registers

-- From registers of zeros, after fewer samples than the depth with inputs in range, the registers
-- are in the set.
abbrev pub Begins : (P : Type 0) → System P → ℤ → ℤ → Candidate → Type 0
Begins P m low high candidate = (xs : List ℤ) → length xs < candidate.depth
    → AreInRange low high xs → IsInSet candidate (registers_after m (zeros m.many) xs)

-- Where as many states in a row as the depth are in the set, each after the first got from the one
-- before by an input in range, the next state is in the set for every input in range.
abbrev pub Stays : (P : Type 0) → System P → ℤ → ℤ → Candidate → Type 0
Stays P m low high candidate = (start xs : List ℤ) → IsState P m start
    → length xs ≡ candidate.depth → AreInRange low high xs
    → ((n : ℕ) → n < candidate.depth → IsInSet candidate (registers_after m start (take n xs)))
    → IsInSet candidate (registers_after m start xs)

-- From a state in the set no input in range gives a sample with an exact value that is no word.
abbrev pub IsSafe : (P : Type 0) → System P → ℤ → ℤ → Candidate → Type 0
IsSafe P m low high candidate = (start : List ℤ) (x : ℤ) → IsState P m start
    → IsInSet candidate start → (low ≤ℤ x) → (x ≤ℤ high)
    → All (IsInside m.format) (rows m start (x ∷ []))

-- the system, over inputs in range, keeps to the candidate's set
pub record IsKept (P : Type 0) (m : System P) (low high : ℤ) (candidate : Candidate) : Type 0
  where
    pub deep : 1 ≤ candidate.depth
    pub begins : Begins P m low high candidate
    pub stays : Stays P m low high candidate
    pub safe : IsSafe P m low high candidate

-- ---- how the sentences are broken
-- After these inputs, all in range and fewer than the depth, from registers of zeros the registers
-- aren't in the set.
pub record LeavesEarly (P : Type 0) (m : System P) (low high : ℤ) (candidate : Candidate)
    (inputs : List ℤ) : Type 0 where
  pub in_range : AreInRange low high inputs
  pub few : length inputs < candidate.depth
  pub outside : IsInSet candidate (registers_after m (zeros m.many) inputs) → ⊥

-- From this start, over these inputs, all in range, as many states as the depth are in the set, and
-- the next one isn't.
pub record LeavesLater (P : Type 0) (m : System P) (low high : ℤ) (candidate : Candidate)
    (start inputs : List ℤ) : Type 0 where
  pub state : IsState P m start
  pub in_range : AreInRange low high inputs
  pub many : length inputs ≡ candidate.depth
  pub inside : (n : ℕ) → n < candidate.depth
      → IsInSet candidate (registers_after m start (take n inputs))
  pub outside : IsInSet candidate (registers_after m start inputs) → ⊥

-- The start is in the set, and at this input in range some exact value is no word.
pub record BreaksFrom (P : Type 0) (m : System P) (low high : ℤ) (candidate : Candidate)
    (start : List ℤ) (input : ℤ) : Type 0 where
  pub state : IsState P m start
  pub inside : IsInSet candidate start
  pub at_least : low ≤ℤ input
  pub at_most : input ≤ℤ high
  pub broken : (r : SampleRow) × Contains (rows m start (input ∷ [])) r × IsOutside m.format r

-- ---- what a kept set means
-- A run goes on from its registers alone: words in the registers and inputs in range give words in
-- the registers, and what comes later is decided by these.
pub record IsStepwise (P : Type 0) (m : System P) (low high : ℤ) : Type 0 where
  pub begins : IsState P m (zeros m.many)
  pub states : (start xs : List ℤ) → IsState P m start → AreInRange low high xs
      → IsState P m (registers_after m start xs)
  pub registers : (start xs ys : List ℤ) → IsState P m start → AreInRange low high xs
      → registers_after m start (xs ++ ys) ≡ registers_after m (registers_after m start xs) ys
  pub rows : (start xs ys : List ℤ) → IsState P m start → AreInRange low high xs
      → rows m start (xs ++ ys) ≡ rows m start xs ++ rows m (registers_after m start xs) ys

-- no list of inputs, of any length, breaks a system that keeps to a candidate's set
abbrev pub KeptNeverBreaks : Type 0 → Type 0
KeptNeverBreaks P = (m : System P) (low high : ℤ) (candidate : Candidate)
    → IsStepwise P m low high → IsKept P m low high candidate
    → (xs : List ℤ) → Breaks (behaviour_of m) low high xs → ⊥
