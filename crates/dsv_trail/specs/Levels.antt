-- Levels of a trail, and what its calls make of it.
use Rattle.std.specs.Prelude.{◌≡◌, ℕ, ◌+◌, ◌<◌, ◌≤◌, List, [], ◌∷◌, ◌++◌}
use Rattle.std.specs.Prelude.{length, take, slice_get, slice_index_or, Some, None}
use Rattle.dsv_cnf.specs.Literal.{Literal}
use Rattle.dsv_trail.specs.TrailView.{TrailView}
use Rattle.dsv_trail.specs.Marks.{AreMarks}
use Rattle.dsv_trail.specs.declared.marks.Mark.{Mark}

-- ---- levels

-- a level begins at this place
pub record IsLimit (limits : List ℕ) (place : ℕ) : Type 0 where
  pub number : ℕ
  pub at : slice_get limits number ≡ Some place

-- the level of a place: how many levels begin at it or before
pub record IsLevelOf (limits : List ℕ) (place level : ℕ) : Type 0 where
  pub few : level ≤ length limits
  pub begun : (j k : ℕ) → j < level → slice_get limits j ≡ Some k → k ≤ place
  pub later : (j k : ℕ) → level ≤ j → slice_get limits j ≡ Some k → place < k

-- Limits rise strictly. At each a level begins with its decision, which has no reason and this
-- level; all others have a reason, and each literal has the level of its place.
pub record AreLevels (limits : List ℕ) (marks : List Mark) : Type 0 where
  pub within : (j k : ℕ) → slice_get limits j ≡ Some k → k < length marks
  pub rising : (i j a b : ℕ) → i < j → slice_get limits i ≡ Some a → slice_get limits j ≡ Some b
      → a < b
  pub decided : (j k : ℕ) (m : Mark) → slice_get limits j ≡ Some k → slice_get marks k ≡ Some m
      → (m.level ≡ j + 1) × (m.reason ≡ None)
  pub others : (i : ℕ) (m : Mark) → slice_get marks i ≡ Some m → m.reason ≡ None
      → IsLimit limits i
  pub levels : (i : ℕ) (m : Mark) → slice_get marks i ≡ Some m → IsLevelOf limits i m.level

-- what holds of each trail
pub record IsTrail (t : TrailView) : Type 0 where
  pub marks : AreMarks t.vars t.marks
  pub levels : AreLevels t.limits t.marks

-- ---- changes

-- the next level begins with this literal
abbrev pub after_decide : TrailView → Literal → TrailView
after_decide t l = record t {
  marks = t.marks ++ record { literal = l; level = length t.limits + 1; reason = None } ∷ [];
  limits = t.limits ++ length t.marks ∷ [];
}

-- the literal is appended at the present level
abbrev pub after_imply : TrailView → Literal → ℕ → TrailView
after_imply t l reason = record t {
  marks = t.marks ++ record { literal = l; level = length t.limits; reason = Some reason } ∷ [];
}

-- the levels above this one are taken away
abbrev pub after_back : TrailView → ℕ → TrailView
after_back t level = record t {
  marks = take (slice_index_or t.limits level (length t.marks)) t.marks;
  limits = take level t.limits;
}
