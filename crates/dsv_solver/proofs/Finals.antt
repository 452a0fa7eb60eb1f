use Rattle.std.proofs.Common.{◌≡◌, ℕ, ◌+◌, Bool, true, false, cond, List, [], ◌∷◌, refl, ap, length, take, slice_get, Option, Some, zero, suc, eqb, Ok}
use Rattle.dsv_cnf.specs.Literal.{Literal}
use Rattle.dsv_cnf.specs.FormulaView.{FormulaView}
use Rattle.dsv_hints.specs.Derivation.{live_clause, entries_from, hints_answer}
use Rattle.dsv_cnf.specs.LiteralSet.{none}
use Rattle.dsv_hints.specs.Clauses.{is_tautology}
use Rattle.dsv_hints.specs.Follows.{clauses_of}
use Rattle.dsv_solver.proofs.LogSteps.{plain}
use Rattle.dsv_trail.specs.TrailView.{TrailView}
use Rattle.dsv_trail.specs.Places.{falsifies}
use Rattle.dsv_solver.specs.WatchView.{WatchView}
use Rattle.dsv_hints.specs.Local.{IsNoSuperset}
use Rattle.dsv_solver.specs.Fine.{IsFine, AreFine}
use Rattle.dsv_solver.specs.Walking.{Fines, IsLearnable, live_of}
use Rattle.dsv_solver.specs.Propagation.{IsReady, IsJustified}
use Rattle.dsv_solver.proofs.Passes.{no-superset, no-refutation}
use Rattle.dsv_solver.proofs.Levels.{fines-now}

pub all-fine : (G : Literal → Bool) (cs : List (List Literal)) → ((i : ℕ) (c : List Literal) → slice_get cs i ≡ Some c → IsFine G c) → AreFine G cs
all-fine G [] h = tt
all-fine G (c ∷ cs) h = (h zero c refl, all-fine G cs (λ i d e. h (suc i) d e))

clauses-entries : (cs : List (List Literal)) (k : ℕ) → clauses_of (entries_from cs k) ≡ cs
clauses-entries [] k = refl
clauses-entries (c ∷ cs) k = ap (λ ds. c ∷ ds) (clauses-entries cs (k + 1))

-- a lesson is no superset of a clause of the formula
pub lesson-new : (f : FormulaView) (t : TrailView) (high : ℕ) (c : List Literal) (h : List ℕ) → Fines f (falsifies (take high t.marks)) → IsLearnable f t high c h → IsNoSuperset (live_of f) c
lesson-new f t high c h fine l =
    let G : Literal → Bool = falsifies (take high t.marks) in
    no-superset G c l.first (live_of f) l.learned (rw (clauses-entries f.clauses 1) (all-fine G f.clauses fine.each))

-- nor has it a literal and its negation
pub lesson-plain : (f : FormulaView) (t : TrailView) (high : ℕ) (c : List Literal) (h : List ℕ) → IsJustified f.clauses t → IsLearnable f t high c h → is_tautology c ≡ false
lesson-plain f t high c h j l = plain (falsifies t.marks) c j.consistent l.are_false

live_cond : (G : Literal → Bool) (d c : List Literal) (rest : Option (List Literal)) (b : Bool) → IsFine G d → (rest ≡ Some c → IsFine G c) → cond b (Some d) rest ≡ Some c → IsFine G c
live_cond G d c rest true a f e = let s : d ≡ c = cc in rw (← s) a
live_cond G d c rest false a f e = f e

live-fine : (G : Literal → Bool) (cs : List (List Literal)) (b h : ℕ) (c : List Literal) → AreFine G cs → live_clause (entries_from cs b) h ≡ Some c → IsFine G c
live-fine G [] b h c a e = cc
live-fine G (d ∷ ds) b h c a e = live_cond G d c (live_clause (entries_from ds (b + 1)) h) (eqb b h) a.0 (live-fine G ds (b + 1) h c a.1) e

-- where propagation is complete no hints let the empty clause be added
pub spent-holds : (f : FormulaView) (t : TrailView) (w : WatchView) (head : ℕ) (hs : List ℕ) → IsReady f t w head → head ≡ length t.marks → hints_answer (live_of f) hs none ≡ Ok tt → ⊥
spent-holds f t w head hs r e n =
    no-refutation (live_of f) (falsifies t.marks) hs
    (record { consistent = r.justified.consistent; fine = λ h c x. live-fine (falsifies t.marks) f.clauses 1 h c (all-fine (falsifies t.marks) f.clauses (fines-now f t w head r e).each) x }) n
