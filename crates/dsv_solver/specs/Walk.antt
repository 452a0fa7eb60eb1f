-- Private contracts alone cite this file: what still counts on the way back.
use Rattle.std.specs.Prelude.{◌≡◌, ℕ, ◌<◌, ◌≤◌, ◌⊎◌}
use Rattle.dsv_cnf.specs.Literal.{Literal}
use Rattle.dsv_trail.specs.TrailView.{TrailView}
use Rattle.dsv_trail.specs.Places.{place_of}

-- false between level 0 and the present level
abbrev pub IsLow : TrailView → ℕ → ℕ → Literal → Type 0
IsLow t zero_end high q = (zero_end ≤ place_of t.marks q) × (place_of t.marks q < high)

-- a literal of the learned clause: that of the first unique implication point, which became false
-- as `u`, or a low one
abbrev pub IsOfLesson : TrailView → ℕ → ℕ → Literal → Literal → Type 0
IsOfLesson t zero_end high u q = (q ≡ u) ⊎ IsLow t zero_end high q

-- what still counts at place i of the trail: what became false before it, and what stays
abbrev pub Counts : TrailView → (Literal → Type 0) → ℕ → Literal → Type 0
Counts t Stays i q = (place_of t.marks q < i) ⊎ Stays q

abbrev pub Below : TrailView → ℕ → Literal → Type 0
Below t i q = place_of t.marks q < i
