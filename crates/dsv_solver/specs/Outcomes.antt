-- Private contracts alone cite this file: what becomes of a clause whose watched literal is false.
use Rattle.std.specs.Prelude.{◌≡◌, ◌≢◌, ℕ, ◌<◌, ◌+◌, false}
use Rattle.std.specs.Prelude.{List, length, slice_get, Some}
use Rattle.std.specs.Prelude.{slice_index, slice_set}
use Rattle.dsv_cnf.specs.Literal.{Literal}
use Rattle.dsv_cnf.specs.FormulaView.{FormulaView}
use Rattle.dsv_trail.specs.TrailView.{TrailView}
use Rattle.dsv_trail.specs.Places.{falsifies}
use Rattle.dsv_solver.specs.WatchView.{WatchView}
use Rattle.dsv_solver.specs.Watched.{list_of}
use Rattle.dsv_solver.specs.Propagation.{IsConflict, IsSettled}
use Rattle.dsv_solver.specs.declared.watches.Pair.{Pair}
use Rattle.dsv_solver.specs.declared.propagate.Visit.{Visit}
use Rattle.dsv_solver.specs.declared.propagate.Visit.TheVariants.{Kept, Moved, Conflict}

pub record IsKept (c : FormulaView) (t : TrailView) (v w : WatchView) (f : Literal)
    (i : ℕ) : Type 0 where
  pub same : w ≡ v
  pub settled : (d : List Literal) (p : Pair) → slice_get c.clauses i ≡ Some d
      → slice_get v.pairs i ≡ Some p → IsSettled t f d p

pub record IsMoved (s t : TrailView) (v w : WatchView) (f : Literal) (j i : ℕ)
    (next other : Literal) : Type 0 where
  pub trail : t ≡ s
  pub pairs : w.pairs ≡ slice_set v.pairs i (record { one = next; other = other })
  pub not_false : falsifies s.marks next ≡ false
  pub apart : other ≢ f
  pub len : length (list_of w.lists f) + 1 ≡ length (list_of v.lists f)
  pub prefix : (k : ℕ) → k < j
      → slice_index (list_of w.lists f) k ≡ slice_index (list_of v.lists f) k

pub record Moves (s t : TrailView) (v w : WatchView) (f : Literal) (j i : ℕ) : Type 0 where
  pub next : Literal
  pub other : Literal
  pub is : IsMoved s t v w f j i next other

abbrev pub IsOutcome : FormulaView → TrailView → TrailView → WatchView → WatchView → Literal → ℕ
    → ℕ → Visit → Type 0
IsOutcome c s t v w f j i Kept = IsKept c t v w f i
IsOutcome c s t v w f j i Moved = Moves s t v w f j i
IsOutcome c s t v w f j i Conflict = IsConflict c t i
