-- Private contracts alone cite this file: a step of the way back over the trail.
use Rattle.std.specs.Prelude.{◌≡◌, ℕ, ◌+◌, true, false, List, ◌∷◌}
use Rattle.std.specs.Prelude.{slice_get, Some, take, ◌⊎◌}
use Rattle.dsv_cnf.specs.Literal.{Literal, negation}
use Rattle.dsv_cnf.specs.FormulaView.{FormulaView}
use Rattle.dsv_cnf.specs.Formula.{contains}
use Rattle.dsv_trail.specs.TrailView.{TrailView}
use Rattle.dsv_trail.specs.Places.{falsifies}
use Rattle.dsv_trail.specs.declared.marks.Mark.{Mark}
use Rattle.dsv_solver.specs.Analysis.{IsMarked}

-- at place i stands a literal that the clause of the number r implied
pub record IsImplied (f : FormulaView) (t : TrailView) (i r : ℕ) (m : Mark)
    (c : List Literal) : Type 0 where
  pub at : slice_get t.marks i ≡ Some m
  pub stands : slice_get f.clauses r ≡ Some c
  pub has : contains c m.literal ≡ true
  pub others : (q : Literal) → contains c q ≡ true
      → (q ≡ m.literal) ⊎ (falsifies (take i t.marks) q ≡ true)

-- the negation of the literal at place i was not met: what was met and the hints stay
pub record IsPassed (t : TrailView) (i : ℕ) (M N : List Literal) (H K : List ℕ) : Type 0 where
  pub mark : Mark
  pub at : slice_get t.marks i ≡ Some mark
  pub unmet : contains M (negation mark.literal) ≡ false
  pub same : N ≡ M
  pub hints : K ≡ H

-- it was met: the others of the literal's reason are met, and the reason is hinted before the rest
pub record IsResolved (f : FormulaView) (t : TrailView) (i : ℕ) (M N : List Literal)
    (H K : List ℕ) : Type 0 where
  pub mark : Mark
  pub reason : ℕ
  pub clause : List Literal
  pub implied : IsImplied f t i reason mark clause
  pub met : contains M (negation mark.literal) ≡ true
  pub marked : IsMarked M N clause mark.literal
  pub hints : K ≡ (reason + 1) ∷ H

-- the step at place i, from what was met and the hints before it to those after it
abbrev pub IsStep : FormulaView → TrailView → ℕ → List Literal → List Literal → List ℕ → List ℕ
    → Type 0
IsStep f t i M N H K = IsPassed t i M N H K ⊎ IsResolved f t i M N H K
