-- Private contracts alone cite this file: the invariants of the way back over the trail.
use Rattle.std.specs.Prelude.{◌≡◌, ℕ, ◌<◌, ◌≤◌, ◌+◌, Bool}
use Rattle.std.specs.Prelude.{true, false, List, ◌∷◌, length}
use Rattle.std.specs.Prelude.{slice_get, Some, take, ◌⊎◌, Ok}
use Rattle.dsv_cnf.specs.Literal.{Literal, negation}
use Rattle.dsv_cnf.specs.FormulaView.{FormulaView}
use Rattle.dsv_cnf.specs.LiteralSet.{none}
use Rattle.dsv_hints.specs.Clauses.{with_all}
use Rattle.dsv_hints.specs.Derivation.{Entry, live_clause, hints_answer, entries_from}
use Rattle.dsv_trail.specs.TrailView.{TrailView}
use Rattle.dsv_trail.specs.Places.{falsifies, place_of}
use Rattle.dsv_hints.specs.Local.{hinted_contains, AreUsedLater, pass_literals, IsLocal}
use Rattle.dsv_cnf.specs.Formula.{contains}
use Rattle.dsv_solver.specs.Fine.{IsFine}
use Rattle.dsv_solver.specs.Walk.{IsLow, IsOfLesson, Counts, Below}
use Rattle.dsv_solver.specs.Analysis.{IsLowest}

-- a set that the hints may start from: false literals, of those that still count, and all of these
-- that were met
pub record Starts (F : Literal → Bool) (S : Literal → Type 0) (M A : Literal → Bool) : Type 0 where
  pub are_false : (a : Literal) → A a ≡ true → F a ≡ true
  pub count : (a : Literal) → A a ≡ true → S a
  pub covers : (q : Literal) → M q ≡ true → S q → A q ≡ true

-- the hints derive, from any such set
pub record Derives (live : List Entry) (F : Literal → Bool) (S : Literal → Type 0) (M : Literal
    → Bool) (H : List ℕ) : Type 0 where
  pub derives : (A : Literal → Bool) → Starts F S M A → hints_answer live H A ≡ Ok tt
  pub used : (A : Literal → Bool) → Starts F S M A → AreUsedLater live H A

-- what was met is false, and stands in a hinted clause
pub record Met (live : List Entry) (F : Literal → Bool) (M : Literal
    → Bool) (H : List ℕ) : Type 0 where
  pub are_false : (q : Literal) → M q ≡ true → F q ≡ true
  pub hinted : (q : Literal) → M q ≡ true → hinted_contains live H q ≡ true

-- a set that a pass may have come to: false below the present level (G), of level 0 only those that
-- still count (Z), and of these all that were met
pub record Between (Z Low : Literal → Type 0) (G M A : Literal → Bool) : Type 0 where
  pub below : (a : Literal) → A a ≡ true → G a ≡ true
  pub count : (a : Literal) → A a ≡ true → Z a ⊎ Low a
  pub covers : (q : Literal) → M q ≡ true → Z q → A q ≡ true

-- two passes from such sets add the same
pub record Passes (live : List Entry) (Z Low : Literal → Type 0) (G M : Literal
    → Bool) (H : List ℕ) : Type 0 where
  pub same : (A B : Literal → Bool) → Between Z Low G M A → Between Z Low G M B
      → pass_literals live H A ≡ pass_literals live H B

pub record Fines (f : FormulaView) (G : Literal → Bool) : Type 0 where
  pub each : (i : ℕ) (c : List Literal) → slice_get f.clauses i ≡ Some c → IsFine G c

-- what is live, by the formula: clause r is live under the number r + 1
pub record IsLive (live : List Entry) (f : FormulaView) : Type 0 where
  pub each : (r : ℕ) (c : List Literal) → slice_get f.clauses r ≡ Some c
      → live_clause live (r + 1) ≡ Some c

abbrev pub live_of : FormulaView → List Entry
live_of f = entries_from f.clauses 1

-- the walk back over the trail, at place i, where some literals stay
pub record IsWay (f : FormulaView) (t : TrailView) (Stays : Literal → Type 0) (i : ℕ)
    (M : List Literal) (H : List ℕ) : Type 0 where
  pub met : Met (live_of f) (falsifies t.marks) (contains M) H
  pub derives : Derives (live_of f) (falsifies t.marks) (Counts t Stays i) (contains M) H
  pub inside : i ≤ length t.marks

-- the walk back over the present level, at place i
pub record IsWalking (f : FormulaView) (t : TrailView) (zero_end high i lowest : ℕ)
    (M : List Literal) (H : List ℕ) : Type 0 where
  pub way : IsWay f t (IsLow t zero_end high) i M H
  pub passes : Passes (live_of f) (Below t zero_end) (IsLow t zero_end high) (falsifies
      (take high t.marks)) (contains M) H
  pub least : IsLowest t high M lowest
  pub up : high ≤ lowest
  pub in_front : lowest < i

-- the walk back over level 0, after the unique implication point
pub record IsEnding (f : FormulaView) (t : TrailView) (zero_end high i : ℕ) (u : Literal)
    (M : List Literal) (H : List ℕ) : Type 0 where
  pub way : IsWay f t (IsOfLesson t zero_end high u) i M H
  pub passes : Passes (live_of f) (Below t i) (IsLow t zero_end high) (falsifies
      (take high t.marks)) (contains M) H
  pub above : zero_end ≤ place_of t.marks u
  pub high_first : high ≤ place_of t.marks u
  pub has : contains M u ≡ true
  pub inside : i ≤ zero_end

-- all literals of a learned clause but one are false below, and that one is not true there
pub record LearnedAt (G : Literal → Bool) (C : List Literal) (first : Literal) : Type 0 where
  pub below : (q : Literal) → contains C q ≡ true → (q ≡ first) ⊎ (G q ≡ true)
  pub not_true : (q : Literal) → contains C q ≡ true → G (negation q) ≡ false

-- a clause that may be learned: all its literals are false, all but the first below the present
-- level
pub record IsLearnable (f : FormulaView) (t : TrailView) (high : ℕ) (clause : List Literal)
    (hints : List ℕ) : Type 0 where
  pub accepted : hints_answer (live_of f) hints (with_all clause none) ≡ Ok tt
  pub is_local : IsLocal (live_of f) clause hints
  pub first : Literal
  pub rest : List Literal
  pub is : clause ≡ first ∷ rest
  pub high_first : high ≤ place_of t.marks first
  pub are_false : (q : Literal) → contains clause q ≡ true → falsifies t.marks q ≡ true
  pub learned : LearnedAt (falsifies (take high t.marks)) clause first
  pub lower : (q : Literal) → contains rest q ≡ true → place_of t.marks q < high
