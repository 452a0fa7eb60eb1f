-- Private contracts alone cite this file: what holds of watched literals.
use Rattle.std.specs.Prelude.{◌≡◌, ◌≢◌, ℕ, ◌<◌, true, List, []}
use Rattle.std.specs.Prelude.{length, slice_get, slice_index}
use Rattle.std.specs.Prelude.{slice_index_or, Some, take, ◌⊎◌}
use Rattle.dsv_cnf.specs.Literal.{Literal, negation, code_of}
use Rattle.dsv_cnf.specs.Formula.{contains}
use Rattle.dsv_trail.specs.TrailView.{TrailView}
use Rattle.dsv_trail.specs.Places.{falsifies}
use Rattle.dsv_solver.specs.WatchView.{WatchView}
use Rattle.dsv_trail.specs.declared.marks.Mark.{Mark}
use Rattle.dsv_solver.specs.declared.watches.Pair.{Pair}

pub record IsAt (xs : List ℕ) (i : ℕ) : Type 0 where
  pub place : ℕ
  pub inside : place < length xs
  pub is : slice_index xs place ≡ i

abbrev pub list_of : List (List ℕ) → Literal → List ℕ
list_of lists l = slice_index_or lists (code_of l) []

pub record IsListed (lists : List (List ℕ)) (i : ℕ) (p : Pair) : Type 0 where
  pub one : IsAt (list_of lists p.one) i
  pub other : IsAt (list_of lists p.other) i

pub record IsPairOver (vars : ℕ) (p : Pair) : Type 0 where
  pub one : p.one.var < vars
  pub other : p.other.var < vars

-- each clause that watches the literal is in its list
pub record Covers (w : WatchView) (f : Literal) : Type 0 where
  pub one : (i : ℕ) (p : Pair) → slice_get w.pairs i ≡ Some p → p.one ≡ f
      → IsAt (list_of w.lists f) i
  pub other : (i : ℕ) (p : Pair) → slice_get w.pairs i ≡ Some p → p.other ≡ f
      → IsAt (list_of w.lists f) i

-- where one of the two is false by f, the other is true by g
pub record Guards (f g : Literal → Type 0) (p : Pair) : Type 0 where
  pub one : f p.one → g (negation p.other)
  pub other : f p.other → g (negation p.one)

abbrev pub Is : List Mark → Literal → Type 0
Is ms l = falsifies ms l ≡ true

pub record IsGuarded (t : TrailView) (head : ℕ) (p : Pair) : Type 0 where
  pub apart : p.one ≢ p.other
  pub lower : (j k : ℕ) → slice_get t.limits j ≡ Some k
      → Guards (Is (take k t.marks)) (Is (take k t.marks)) p
  pub now : Guards (Is (take head t.marks)) (Is t.marks) p

-- some literal of the clause is true before every decision
pub record IsSettledAtZero (t : TrailView) (c : List Literal) : Type 0 where
  pub literal : Literal
  pub stands : contains c literal ≡ true
  pub is_true : falsifies t.marks (negation literal) ≡ true
  pub always : (j k : ℕ) → slice_get t.limits j ≡ Some k
      → falsifies (take k t.marks) (negation literal) ≡ true

pub record IsOfClause (c : List Literal) (p : Pair) : Type 0 where
  pub one : contains c p.one ≡ true
  pub other : contains c p.other ≡ true

abbrev pub IsCared : TrailView → ℕ → List Literal → Pair → Type 0
IsCared t head c p = IsOfClause c p × (IsSettledAtZero t c ⊎ IsGuarded t head p)

pub record IsWatched (clauses : List (List Literal)) (t : TrailView) (w : WatchView)
    (head : ℕ) : Type 0 where
  pub len : length w.pairs ≡ length clauses
  pub each : (i : ℕ) (c : List Literal) (p : Pair) → slice_get clauses i ≡ Some c
      → slice_get w.pairs i ≡ Some p → IsCared t head c p
