-- What the answers to questions about runs say of a subject.
use Rattle.std.specs.Prelude.{◌≡◌, ◌↔◌, ℕ, ◌<◌, List}
use Rattle.dsv_names.specs.declared.property.RunProperty.{RunProperty}
use Rattle.dsv_cnf.specs.Formula.{IsSatisfiable}
use Rattle.dsv_cnf.specs.FormulaView.{FormulaView}
use Rattle.dsv_hints.specs.Lessons.{IsRefutation, IsSpent}
use Rattle.dsv_hints.specs.declared.step.Step.{Step}
use Rattle.dsv_realise.specs.SubjectView.{SubjectView}
use Rattle.dsv_unroll.specs.Goals.{most_size}
use Rattle.dsv_bounded.specs.RunQuestions.{Happens, question_formula, IsWithin, job_size_of}

-- It never happens, and the log, of a search with at most so many conflicts, derives the empty
-- clause from the question's formula.
pub record NeverHappens (property : RunProperty) (samples conflicts : ℕ) (s : SubjectView)
    (log : List Step) : Type 0 where
  pub within : IsWithin s samples
  pub never : Happens property s samples → ⊥
  pub refuted : IsRefutation (question_formula property s samples) conflicts log

-- The log is that of a search in the question's formula that gave up after so many conflicts.
pub record GaveUp (property : RunProperty) (samples conflicts : ℕ) (s : SubjectView)
    (log : List Step) : Type 0 where
  pub within : IsWithin s samples
  pub spent : IsSpent (question_formula property s samples) conflicts log

-- This is the question's formula, and some assignment satisfies it exactly where it happens.
pub record IsFormulaOf (property : RunProperty) (samples : ℕ) (s : SubjectView)
    (formula : FormulaView) : Type 0 where
  pub within : IsWithin s samples
  pub formula_of : formula ≡ question_formula property s samples
  pub tells : IsSatisfiable formula.clauses ↔ Happens property s samples

-- The question is too large: this is its size.
pub record IsTooLarge (samples : ℕ) (s : SubjectView) (size : ℕ) : Type 0 where
  pub size_of : size ≡ job_size_of s samples
  pub large : most_size < size
