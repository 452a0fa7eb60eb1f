-- Private contracts alone cite this file: the way back, and the clause that is learned after it.
use Rattle.std.specs.Prelude.{◌≡◌, ◌≢◌, ℕ, true, false, List, ◌⊎◌, slice_get, Some, take}
use Rattle.dsv_cnf.specs.Literal.{Literal, negation}
use Rattle.dsv_cnf.specs.Formula.{contains}
use Rattle.dsv_trail.specs.TrailView.{TrailView}
use Rattle.dsv_trail.specs.Places.{falsifies}
use Rattle.dsv_solver.specs.declared.watches.Pair.{Pair}

-- back to a level
abbrev pub back : TrailView → ℕ → ℕ → TrailView
back s j k = record { vars = s.vars; marks = take k s.marks; limits = take j s.limits }

-- the learned clause is pass_literals, and its first literal implied
pub record IsLearned (s : TrailView) (c : List Literal) (p : Pair) : Type 0 where
  pub first : contains c p.one ≡ true
  pub second : contains c p.other ≡ true
  pub open_first : falsifies s.marks p.one ≡ false
  pub open_negation : falsifies s.marks (negation p.one) ≡ false
  pub others : (q : Literal) → contains c q ≡ true → (q ≡ p.one) ⊎ (falsifies s.marks q ≡ true)
  -- it is a unit at level 0, or its other watched literal became false at the present level
  pub highest : ((j k : ℕ) → slice_get s.limits j ≡ Some k → ⊥)
      ⊎ ((p.one ≢ p.other) × ((j k : ℕ)
      → slice_get s.limits j ≡ Some k → falsifies (take k s.marks) p.other ≡ false))
