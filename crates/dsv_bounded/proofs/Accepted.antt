-- Where a log is accepted, no assignment satisfies the formula.
use Rattle.std.proofs.Common.{◌≡◌, ℕ, ◌+◌, Bool, true, false, List, [], ◌∷◌, refl}
use Rattle.std.specs.Prelude.{Result, Ok, Err, cond}
use Rattle.dsv_cnf.specs.Formula.{IsUnsatisfiable}
use Rattle.dsv_cnf.specs.FormulaView.{FormulaView}
use Rattle.dsv_cnf.specs.Literal.{Literal}
use Rattle.dsv_hints.specs.Derivation.{Carried, refused_if, step_answer, after, start_of, verdict_by, verdict_from, verdict_of}
use Rattle.dsv_hints.specs.Follows.{Follows}
use Rattle.dsv_hints.specs.declared.step.Step.{Step}
use Rattle.dsv_hints.specs.declared.step.Step.TheVariants.{Add, Delete}
use Rattle.dsv_hints.specs.declared.step.StepRefusal.{StepRefusal}
use Rattle.dsv_hints.specs.declared.step.StepRefusal.TheVariants.{NotEmpty}
use Rattle.dsv_hints.specs.declared.step.Verdict.{Verdict}
use Rattle.dsv_hints.specs.declared.step.Verdict.TheVariants.{Accepted, Refused}
use Rattle.dsv_hints.proofs.Soundness.{add-follows, delete-follows, start-follows}

-- a step of an accepted log was taken, and the rest is accepted
pub record IsTaken (r : Result (Unit {0}) StepRefusal) (rest : Verdict) : Type 0 where
  pub taken : r ≡ Ok tt
  pub accepted : rest ≡ Accepted

taken_by : (r : Result (Unit {0}) StepRefusal) (i : ℕ) (rest : Verdict) → verdict_by r i rest ≡ Accepted → IsTaken r rest
taken_by (Ok u) i rest h = record { taken = refl; accepted = h }
taken_by (Err why) i rest h = absurd cc

not_refused : (b : Bool) (why : StepRefusal) (rest : Result (Unit {0}) StepRefusal) → refused_if b why rest ≡ Ok tt → rest ≡ Ok tt
not_refused true why rest h = absurd cc
not_refused false why rest h = h

has_ended : (b : Bool) (i : ℕ) → cond b Accepted (Refused i NotEmpty) ≡ Accepted → b ≡ true
has_ended true i h = refl
has_ended false i h = absurd cc

step_follows : (cs : List (List Literal)) (s : Carried) (step : Step) → step_answer s step ≡ Ok tt → Follows cs s → Follows cs (after s step)
step_follows cs s (Add id c hints) h f = add-follows cs s id c hints (not_refused s.ended NotEmpty _ h) f
step_follows cs s (Delete id ids) h f = delete-follows cs s ids f

refutes_from : (cs : List (List Literal)) (steps : List Step) (s : Carried) (i : ℕ) → Follows cs s → verdict_from steps s i ≡ Accepted → IsUnsatisfiable cs
refutes_from cs [] s i f h = f.ended (has_ended s.ended i h)
refutes_from cs (step ∷ steps) s i f h =
    let t = taken_by (step_answer s step) i (verdict_from steps (after s step) (i + 1)) h in
    refutes_from cs steps (after s step) (i + 1) (step_follows cs s step t.taken f) t.accepted

pub accepted_refutes : (f : FormulaView) (log : List Step) → verdict_of f log ≡ Accepted → IsUnsatisfiable f.clauses
accepted_refutes f log h = refutes_from f.clauses log (start_of f) 0 (start-follows f) h
