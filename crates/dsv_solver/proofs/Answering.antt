-- What the search answers.
use Rattle.std.proofs.Common.{◌≡◌, ℕ, ◌+◌, ◌≤◌, Bool, true, false, List, [], ◌∷◌, ◌++◌, refl, arith, ap, sym, ◌∙◌, inl, inr, length, length-append, Ok}
use Rattle.std.proofs.Math.Seq.{take-length}
use Rattle.std.specs.Prelude.{slice_index_or}
use Rattle.dsv_cnf.specs.Literal.{Literal, negation, literal_value}
use Rattle.dsv_cnf.specs.Formula.{AreOver, IsModel, Satisfies, assignment_of}
use Rattle.dsv_cnf.specs.FormulaView.{FormulaView}
use Rattle.dsv_cnf.specs.LiteralSet.{none}
use Rattle.dsv_hints.specs.declared.step.Step.{Step}
use Rattle.dsv_hints.specs.declared.step.Step.TheVariants.{Add}
use Rattle.dsv_hints.specs.Derivation.{Carried, hints_answer, start_of}
use Rattle.dsv_hints.specs.Lessons.{after_all, AllSteps, IsAddition, IsDerived, IsLesson, IsLocalStep, IsNew, IsRefutation, IsSpent}
use Rattle.dsv_hints.proofs.LessonLemmas.{AllSteps-map, AllSteps-push}
use Rattle.dsv_solver.specs.Logged.{IsLogged}
use Rattle.dsv_trail.specs.TrailView.{TrailView}
use Rattle.dsv_trail.specs.Places.{falsifies}
use Rattle.dsv_solver.specs.WatchView.{WatchView}
use Rattle.dsv_solver.specs.Walking.{live_of}
use Rattle.dsv_solver.specs.Propagation.{IsReady}
use Rattle.dsv_solver.specs.Search.{IsComplete}
use Rattle.dsv_solver.specs.Learning.{HasGrown}
use Rattle.dsv_solver.specs.Ending.{AreValuesOf, IsRestarted, minus}
use Rattle.dsv_solver.specs.Solving.{IsRefuted, first_clauses, IsBegun, IsSearching}
use Rattle.dsv_solver.proofs.LogSteps.{begun, learned, ended}
use Rattle.dsv_solver.proofs.Finals.{all-fine, spent-holds}
use Rattle.dsv_solver.proofs.Levels.{fines-now}
use Rattle.dsv_solver.proofs.Searching.{satisfied, ready_back_all}
use Rattle.dsv_cnf.proofs.ClauseLemmas.{not_true}

-- each part of the lessons
lesson-parts : (f : FormulaView) (log : List Step) → AllSteps IsLesson (start_of f) log → AllSteps IsAddition (start_of f) log × AllSteps IsDerived (start_of f) log × AllSteps IsLocalStep (start_of f) log × AllSteps IsNew (start_of f) log
lesson-parts f log h = (
  AllSteps-map IsLesson IsAddition (λ s x l. l.addition) (start_of f) log h,
  AllSteps-map IsLesson IsDerived (λ s x l. l.derived) (start_of f) log h,
  AllSteps-map IsLesson IsLocalStep (λ s x l. l.is_local) (start_of f) log h,
  AllSteps-map IsLesson IsNew (λ s x l. l.is_new) (start_of f) log h,
)

no-lesson : (s : Carried) (id : ℕ) (hints : List ℕ) → IsLocalStep s (Add id [] hints)
no-lesson s id hints e = absurd cc

pub refutation : (f g : FormulaView) (conflicts : ℕ) (log new : List Step) → IsLogged f g.clauses log → length log ≤ conflicts → IsRefuted g log new → IsRefutation f conflicts new
refutation f g conflicts log new l few r =
    let p = lesson-parts f log l.lessons in
    let last : Step = Add (length g.clauses + 1) [] r.hints in
    rw r.log_is (record {
      accepted = ended f g.clauses log r.hints l r.derived;
      additions = AllSteps-push IsAddition (start_of f) log last p.0 tt;
      are_local = AllSteps-push IsLocalStep (start_of f) log last p.2 (no-lesson (after_all (start_of f) log) (length g.clauses + 1) r.hints);
      few = omega (arith, few, length-append log (last ∷ []));
    })

-- ---- the state of the search
pub searching_new : (f : FormulaView) (t : TrailView) (w : WatchView) → IsBegun f t w (length f.clauses) → IsSearching f f t w 0 []
searching_new f t w h =
    let all : first_clauses f (length f.clauses) ≡ f = ap (λ cs. let g : FormulaView = record { vars = f.vars; clauses = cs } in g) (take-length f.clauses) in
    record { ready = rw all at h.ready; logged = begun f; vars = refl }

pub searching_more : (f g h : FormulaView) (t u : TrailView) (v w : WatchView) (head now : ℕ) (log new : List Step) → IsSearching f g t v head log → HasGrown g h log new → IsReady h u w now → IsSearching f h u w now new
searching_more f g h t u v w head now log new s k r =
    record {
      ready = r;
      logged = rw (k.clauses, k.log_is) (learned f g.clauses log k.clause k.hints s.logged (rw s.vars at k.over) k.plain k.some k.derived k.is_local k.is_new);
      vars = ap (λ (x : FormulaView). x.vars) k.clauses ∙ s.vars;
    }

-- ---- answers
pub spent : (f g : FormulaView) (t : TrailView) (w : WatchView) (head n : ℕ) (log : List Step) → IsSearching f g t w head log → head ≡ length t.marks → length log ≡ n → IsSpent f n log
spent f g t w head n log s e k =
    let p = lesson-parts f log s.logged.lessons in
    record {
      count = k;
      additions = p.0;
      derived = p.1;
      are_new = p.3;
      are_local = p.2;
      no_more = λ hints h.
          let h' : hints_answer (live_of g) hints none ≡ Ok tt = ap (λ c. hints_answer c.live hints none) (sym s.logged.carried) ∙ h in
          spent-holds g t w head hints s.ready e h';
    }

-- the values of a full trail
value_by : (t : TrailView) (values : List Bool) (x : ℕ) (p : Bool) → ((q : Literal) → falsifies t.marks q ≡ true → falsifies t.marks (negation q) ≡ true → ⊥) → slice_index_or values x false ≡ falsifies t.marks (minus x) → let q : Literal = record { var = x; positive = p } in falsifies t.marks (negation q) ≡ true → literal_value (assignment_of values) q ≡ true
value_by t values x true con e h = e ∙ h
value_by t values x false con e h =
    let f : falsifies t.marks (minus x) ≡ false = not_true (falsifies t.marks (minus x)) (λ g. con (minus x) g h) in
    rw (e ∙ f) refl

pub modelled : (g : FormulaView) (t : TrailView) (w : WatchView) (head : ℕ) (values : List Bool) → IsReady g t w head → IsComplete t head → AreValuesOf t values → AreOver g.vars g.clauses → IsModel g values
modelled g t w head values r c v over =
    record {
      count = v.count ∙ r.trail_vars;
      satisfies = satisfied g.vars (falsifies t.marks) (assignment_of values) g.clauses over
          (λ q lt. c.full.total q (omega (arith, lt, r.trail_vars)))
          (λ q lt h. value_by t values q.var q.positive r.justified.consistent (v.each q.var (omega (arith, lt, r.trail_vars))) h)
          (all-fine (falsifies t.marks) g.clauses (fines-now g t w head r c.through).each);
    }

satisfies_front : (v : ℕ → Bool) (xs ys : List (List Literal)) → Satisfies v (xs ++ ys) → Satisfies v xs
satisfies_front v [] ys h = tt
satisfies_front v (x ∷ xs) ys h = (h.0, satisfies_front v xs ys h.1)

pub model_of : (f g : FormulaView) (t : TrailView) (w : WatchView) (head : ℕ) (log : List Step) (values : List Bool) → IsSearching f g t w head log → IsComplete t head → AreValuesOf t values → AreOver g.vars g.clauses → IsModel f values
model_of f g t w head log values s c v over =
    let m = modelled g t w head values s.ready c v over in
    record { count = m.count ∙ s.vars; satisfies = satisfies_front (assignment_of values) f.clauses s.logged.more (rw s.logged.is at m.satisfies) }

-- ---- back to level 0
pub ready_restarted : (g : FormulaView) (s t : TrailView) (w : WatchView) (head now : ℕ) → IsReady g s w head → IsRestarted s t head now → IsReady g t w now × (t.limits ≡ []) × (t.vars ≡ s.vars)
ready_restarted g s t w head now h r =
    elim r.which [
      | inl u ↦ (rw (u.0, u.1) h, rw u.0 u.2, ap (λ (x : TrailView). x.vars) u.0)
      | inr b ↦ (
        rw (b.through, b.is) (ready_back_all g s w head 0 b.place h b.at),
        ap (λ (x : TrailView). x.limits) b.is,
        ap (λ (x : TrailView). x.vars) b.is,
      )
    ]

pub grown_count : (f g : FormulaView) (log new : List Step) (n : ℕ) → HasGrown f g log new → length log ≡ n → length new ≡ n + 1
grown_count f g log new n h e = ap length h.log_is ∙ omega (arith, e, length-append log (Add (length f.clauses + 1) h.clause h.hints ∷ []))
