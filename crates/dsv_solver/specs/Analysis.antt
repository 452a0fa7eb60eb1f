-- Private contracts alone cite this file: what an analysis meets.
use Rattle.std.specs.Prelude.{◌≡◌, ◌≢◌, ℕ, ◌<◌, ◌≤◌, Bool, true}
use Rattle.std.specs.Prelude.{List, [], ◌∷◌, length, ◌⊎◌, nat_le}
use Rattle.std.specs.Prelude.{nat_lt, ◌&&◌, cond}
use Rattle.dsv_cnf.specs.Literal.{Literal}
use Rattle.dsv_cnf.specs.Formula.{contains}
use Rattle.dsv_trail.specs.TrailView.{TrailView}
use Rattle.dsv_trail.specs.Places.{falsifies, place_of}

-- the set that was met grows by the literals of a clause but one
pub record IsMarked (M N c : List Literal) (l : Literal) : Type 0 where
  pub more : (q : Literal) → contains M q ≡ true → contains N q ≡ true
  pub all : (q : Literal) → contains c q ≡ true → (q ≡ l) ⊎ (contains N q ≡ true)
  pub only : (q : Literal) → contains N q ≡ true
      → (contains M q ≡ true) ⊎ ((contains c q ≡ true) × (q ≢ l))

-- some literal of the present level was met, and this is the least place of one; or none was
pub record IsReached (t : TrailView) (high : ℕ) (M : List Literal) (lowest : ℕ) : Type 0 where
  pub literal : Literal
  pub met : contains M literal ≡ true
  pub at : place_of t.marks literal ≡ lowest
  pub up : high ≤ lowest

pub record IsLowest (t : TrailView) (high : ℕ) (M : List Literal) (lowest : ℕ) : Type 0 where
  pub least : (q : Literal) → contains M q ≡ true → high ≤ place_of t.marks q
      → lowest ≤ place_of t.marks q
  pub reached : IsReached t high M lowest ⊎ (lowest ≡ length t.marks)

abbrev pub is_low : TrailView → ℕ → ℕ → Literal → Bool
is_low t zero_end high q = nat_le zero_end (place_of t.marks q) && nat_lt (place_of t.marks q) high

-- the literals that became false between level 0 and the present level
abbrev pub low_literals : TrailView → ℕ → ℕ → List Literal → List Literal
low_literals t zero_end high [] = []
low_literals t zero_end high (q ∷ qs) = cond (is_low t zero_end high q)
    (q ∷ low_literals t zero_end high qs) (low_literals t zero_end high qs)

abbrev pub AllFalse : TrailView → List Literal → Type 0
AllFalse t [] = Unit {0}
AllFalse t (q ∷ qs) = (falsifies t.marks q ≡ true) × (q.var < t.vars) × AllFalse t qs
