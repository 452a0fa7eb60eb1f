-- Logs that grow by one step.
use Rattle.std.proofs.Common.{◌≡◌, ℕ, ◌+◌, List, [], ◌∷◌, ◌++◌, true, Ok, refl, arith, ap, ◌∙◌, length, suc}
use Rattle.dsv_cnf.specs.Literal.{Literal}
use Rattle.dsv_hints.specs.declared.step.Step.{Step}
use Rattle.dsv_hints.specs.declared.step.Step.TheVariants.{Add, Delete}
use Rattle.dsv_hints.specs.declared.step.Verdict.TheVariants.{Accepted}
use Rattle.dsv_hints.specs.Derivation.{Carried, step_answer, after, entries_from, verdict_from}
use Rattle.dsv_hints.specs.Lessons.{after_all, AllSteps, IsDerived}

pub entries-push : (cs : List (List Literal)) (c : List Literal) (k : ℕ) → entries_from (cs ++ c ∷ []) k ≡ entries_from cs k ++ record { id = k + length cs; clause = c } ∷ []
entries-push [] c k = let e : k ≡ k + 0 = omega arith in ap (λ i. record { id = i; clause = c } ∷ []) e
entries-push (d ∷ ds) c k =
    let e : k + 1 + length ds ≡ k + suc (length ds) = omega arith in
    ap (λ es. record { id = k; clause = d } ∷ es) (entries-push ds c (k + 1) ∙ ap (λ i. entries_from ds (k + 1) ++ record { id = i; clause = c } ∷ []) e)

pub AllSteps-push : (P : Carried → Step → Type 0) (s : Carried) (log : List Step) (step : Step) → AllSteps P s log → P (after_all s log) step → AllSteps P s (log ++ step ∷ [])
AllSteps-push P s [] step a l = (l, tt)
AllSteps-push P s (x ∷ xs) step a l = (a.0, AllSteps-push P (after s x) xs step a.1 l)

pub AllSteps-map : (P Q : Carried → Step → Type 0) (f : (s : Carried) (step : Step) → P s step → Q s step) (s : Carried) (log : List Step) → AllSteps P s log → AllSteps Q s log
AllSteps-map P Q f s [] a = tt
AllSteps-map P Q f s (x ∷ xs) a = (f s x a.0, AllSteps-map P Q f (after s x) xs a.1)

pub after_all-push : (s : Carried) (log : List Step) (step : Step) → after_all s (log ++ step ∷ []) ≡ after (after_all s log) step
after_all-push s [] step = refl
after_all-push s (x ∷ xs) step = after_all-push (after s x) xs step

derived-accepted : (s : Carried) (step : Step) → IsDerived s step → step_answer s step ≡ Ok tt
derived-accepted s (Add id c hints) l = l.0
derived-accepted s (Delete id ids) l = absurd l

-- derived clauses and then an accepted step that adds the empty clause: the log is accepted
pub verdict-push : (s : Carried) (log : List Step) (step : Step) (i : ℕ) → AllSteps IsDerived s log → step_answer (after_all s log) step ≡ Ok tt → (after (after_all s log) step).ended ≡ true → verdict_from (log ++ step ∷ []) s i ≡ Accepted
verdict-push s [] step i a h e = rw (h, e) refl
verdict-push s (x ∷ xs) step i a h e = rw (derived-accepted s x a.0) (verdict-push (after s x) xs step (i + 1) a.1 h e)
