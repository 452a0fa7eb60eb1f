-- Private contracts alone cite this file: what the search comes to.
use Rattle.std.specs.Prelude.{◌≡◌, ℕ, ◌<◌, ◌≤◌, true, List, []}
use Rattle.std.specs.Prelude.{◌∷◌, ◌++◌, ◌⊎◌, length, Option}
use Rattle.std.specs.Prelude.{Some, None}
use Rattle.dsv_cnf.specs.Literal.{Literal, negation}
use Rattle.dsv_cnf.specs.FormulaView.{FormulaView}
use Rattle.dsv_cnf.specs.Formula.{contains}
use Rattle.dsv_trail.specs.TrailView.{TrailView}
use Rattle.dsv_trail.specs.Marks.{IsOpen}
use Rattle.dsv_trail.specs.Places.{falsifies, place_of}
use Rattle.dsv_solver.specs.Walking.{IsWay}
use Rattle.dsv_trail.specs.declared.marks.Mark.{Mark}

-- a decision more
abbrev pub with_decision : TrailView → Mark → TrailView
with_decision s m = record {
  vars = s.vars;
  marks = s.marks ++ m ∷ [];
  limits = s.limits
      ++ length s.marks ∷ [];
}

-- the walk back over level 0 from a false clause, at place i: no literal stays
abbrev pub IsRefuting : FormulaView → TrailView → ℕ → List Literal → List ℕ → Type 0
IsRefuting f t i M H = IsWay f t (λ q. ⊥) i M H

-- the literal of a clause that became false last
pub record IsLast (t : TrailView) (rest : List Literal) (other : Literal) : Type 0 where
  pub stands : contains rest other ≡ true
  pub last : (q : Literal) → contains rest q ≡ true → place_of t.marks q ≤ place_of t.marks other

-- every variable has a value
pub record IsFull (t : TrailView) : Type 0 where
  pub total : (q : Literal) → q.var < t.vars
      → (falsifies t.marks q ≡ true) ⊎ (falsifies t.marks (negation q) ≡ true)

-- the literal's variable has none
pub record IsOpenAt (t : TrailView) (q : Literal) : Type 0 where
  pub over : q.var < t.vars
  pub free : IsOpen t.marks q.var

-- the variables before this one have values
pub record IsFullTo (t : TrailView) (n : ℕ) : Type 0 where
  pub total : (q : Literal) → q.var < n
      → (falsifies t.marks q ≡ true) ⊎ (falsifies t.marks (negation q) ≡ true)

-- everything is worked through, and every variable has a value
pub record IsComplete (t : TrailView) (head : ℕ) : Type 0 where
  pub through : head ≡ length t.marks
  pub full : IsFull t

-- of the one found so far and another, the one that became false last
abbrev pub IsLater : TrailView → Option Literal → Literal → Literal → Type 0
IsLater t None l r = r ≡ l
IsLater t (Some o) l r = ((r ≡ l) × (place_of t.marks o ≤ place_of t.marks l)) ⊎ ((r
    ≡ o) × (place_of t.marks l ≤ place_of t.marks o))
