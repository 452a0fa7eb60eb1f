-- Reasons of implied literals.
use Rattle.std.specs.Prelude.{◌≡◌, ℕ, false, List, slice_get, take, Some, ◌⊎◌}
use Rattle.std.specs.List.{All, Contains}
use Rattle.dsv_cnf.specs.Literal.{Literal}
use Rattle.dsv_trail.specs.TrailView.{TrailView}
use Rattle.dsv_trail.specs.Marks.{value_of}
use Rattle.dsv_trail.specs.declared.marks.Mark.{Mark}

-- the clause of this number has the literal, and the marks make its others false
pub record IsReason (clauses : List (List Literal)) (number : ℕ) (marks : List Mark) (l : Literal) :
    Type 0 where
  pub clause : List Literal
  pub at : slice_get clauses number ≡ Some clause
  pub has : Contains clause l
  pub others : All (λ q. (q ≡ l) ⊎ (value_of marks q ≡ Some false)) clause

-- each implied literal of the trail stands in its reason, whose other literals were made false
-- earlier on the trail
abbrev pub IsJustified : TrailView → List (List Literal) → Type 0
IsJustified t clauses = (i r : ℕ) (m : Mark) → slice_get t.marks i ≡ Some m → m.reason ≡ Some r
    → IsReason clauses r (take i t.marks) m.literal
