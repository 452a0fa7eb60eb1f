-- What searches came to and formulas are the answers to their questions.
use Rattle.std.proofs.Common.{◌≡◌, refl, ℕ}
use Rattle.std.specs.Prelude.{◌↔◌, Result, Ok, Err, IfOk}
use Rattle.dsv_names.specs.declared.property.RunProperty.{RunProperty}
use Rattle.dsv_names.specs.declared.property.RunProperty.TheVariants as run
use Rattle.dsv_cnf.specs.Formula.{IsSatisfiable}
use Rattle.dsv_cnf.specs.FormulaView.{FormulaView}
use Rattle.dsv_hints.specs.Lessons.{IsRefutation, IsSpent}
use Rattle.dsv_hints.specs.Searches.{IfNever, IfHappens, IfSpent}
use Rattle.dsv_hints.specs.declared.search.Searched.{Searched}
use Rattle.dsv_hints.specs.declared.search.Searched.TheVariants as searched
use Rattle.dsv_meaning.specs.declared.replays.Cycle.{Cycle}
use Rattle.dsv_meaning.specs.declared.replays.Trace.{Trace}
use Rattle.dsv_bounded.specs.declared.refusals.BoundedRefusal.{BoundedRefusal}
use Rattle.dsv_bounded.specs.declared.refusals.BoundedRefusal.TheVariants as refusal
use Rattle.dsv_bounded.specs.Refusals.{IsSized}
use Rattle.dsv_bounded.specs.RunQuestions.{Happens, question_formula, overflow_formula_of, cycle_formula_of, job_size_of, BreaksWithin, CyclesWithin, IsCycle}
use Rattle.dsv_cli.specs.Answering.{formula_outcome, overflow_outcome, cycle_outcome}
use Rattle.dsv_cli.specs.Causes.{IsPlain}
use Rattle.dsv_cli.specs.Searching.{IsOfFormula, IsOfSearch}
use Rattle.dsv_realise.specs.Runs.{IsTrace}
use Rattle.dsv_realise.specs.SubjectView.{SubjectView}

-- ---- formulas
pub formula_written : (p : RunProperty) (k : ℕ) (s : SubjectView) (found : Result FormulaView BoundedRefusal) → IsSized (job_size_of s k) found
    → IfOk found (λ f. f ≡ question_formula p s k) → IfOk found (λ f. IsSatisfiable f.clauses ↔ Happens p s k) → IsOfFormula p k s (formula_outcome found)
formula_written p k s (Ok f) z e t = record { within = z; formula_of = e; tells = t }
formula_written p k s (Err (refusal.JobSize n)) z e t = record { size_of = z.0; large = rw z.0 z.1 }
formula_written p k s (Err refusal.NoMemory) z e t = tt

pub formula_plain : (found : Result FormulaView BoundedRefusal) → IsPlain (formula_outcome found)
formula_plain (Ok f) = tt
formula_plain (Err why) = tt

-- ---- searches
pub overflow_searched : (k c : ℕ) (s : SubjectView) (found : Result (Searched Trace) BoundedRefusal) → IsSized (job_size_of s k) found
    → IfOk found (IfNever (λ log. BreaksWithin s k → ⊥)) → IfOk found (IfNever (IsRefutation (overflow_formula_of s k) c))
    → IfOk found (IfHappens (IsTrace s k)) → IfOk found (IfSpent (IsSpent (overflow_formula_of s k) c))
    → IsOfSearch run.Overflow k c s (overflow_outcome found)
overflow_searched k c s (Ok (searched.Never log)) w n r t g = record { within = w; never = n; refuted = r }
overflow_searched k c s (Ok (searched.Happens trace)) w n r t g = (refl, w, t)
overflow_searched k c s (Ok (searched.Spent log)) w n r t g = record { within = w; spent = g }
overflow_searched k c s (Err (refusal.JobSize size)) w n r t g = record { size_of = w.0; large = rw w.0 w.1 }
overflow_searched k c s (Err refusal.NoMemory) w n r t g = tt

pub cycle_searched : (k c : ℕ) (s : SubjectView) (found : Result (Searched Cycle) BoundedRefusal) → IsSized (job_size_of s k) found
    → IfOk found (IfNever (λ log. CyclesWithin s k → ⊥)) → IfOk found (IfNever (IsRefutation (cycle_formula_of s k) c))
    → IfOk found (IfHappens (IsCycle s k)) → IfOk found (IfSpent (IsSpent (cycle_formula_of s k) c))
    → IsOfSearch run.LimitCycle k c s (cycle_outcome found)
cycle_searched k c s (Ok (searched.Never log)) w n r z g = record { within = w; never = n; refuted = r }
cycle_searched k c s (Ok (searched.Happens cycle)) w n r z g = (refl, w, z)
cycle_searched k c s (Ok (searched.Spent log)) w n r z g = record { within = w; spent = g }
cycle_searched k c s (Err (refusal.JobSize size)) w n r z g = record { size_of = w.0; large = rw w.0 w.1 }
cycle_searched k c s (Err refusal.NoMemory) w n r z g = tt

pub overflow_plain : (found : Result (Searched Trace) BoundedRefusal) → IsPlain (overflow_outcome found)
overflow_plain (Ok (searched.Never log)) = tt
overflow_plain (Ok (searched.Happens trace)) = tt
overflow_plain (Ok (searched.Spent log)) = tt
overflow_plain (Err why) = tt

pub cycle_plain : (found : Result (Searched Cycle) BoundedRefusal) → IsPlain (cycle_outcome found)
cycle_plain (Ok (searched.Never log)) = tt
cycle_plain (Ok (searched.Happens cycle)) = tt
cycle_plain (Ok (searched.Spent log)) = tt
cycle_plain (Err why) = tt
