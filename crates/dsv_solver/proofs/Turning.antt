-- Turns of the search, and what all of them come to.
use Rattle.std.proofs.Common.{◌≡◌, ℕ, ◌+◌, ◌≤◌, Bool, List, ap, sym, ◌∙◌, length, Some}
use Rattle.dsv_cnf.specs.FormulaView.{FormulaView}
use Rattle.dsv_cnf.specs.Formula.{AreOver, IsModel}
use Rattle.dsv_hints.specs.Lessons.{IsRefutation, IsSpent}
use Rattle.dsv_hints.specs.declared.step.Step.{Step}
use Rattle.dsv_solver.specs.Propagation.{IsReady}
use Rattle.dsv_solver.specs.Ending.{AreValuesOf}
use Rattle.dsv_trail.specs.TrailView.{TrailView}
use Rattle.dsv_solver.specs.WatchView.{WatchView}
use Rattle.dsv_solver.specs.Logged.{IsLogged}
use Rattle.dsv_solver.specs.Solving.{IsBegun, IsNewSearch, IsRefuted, IsSearching, IsStuck}
use Rattle.dsv_solver.specs.Turns.{HasEnded, HasLearned, HasLearnedNone, HasWorkedThrough, IsFilled, IsRefutable, IsTurn, IsUsedUp, Searches}
use Rattle.dsv_solver.specs.declared.state.Search.{Search}
use Rattle.dsv_solver.specs.declared.solver.End.{End}
use Rattle.dsv_solver.specs.declared.solver.End.TheVariants.{Full, Stuck}
use Rattle.dsv_solver.proofs.Answering.{grown_count, model_of, refutation, searching_more, searching_new, spent}
use Rattle.dsv_solver.proofs.LogSteps.{begun}

-- ---- a turn more
pub learned_more : (f : FormulaView) (s t : Search) → Searches f s → HasLearned s t → Searches f t
learned_more f s t h l = searching_more f s.state.clauses t.state.clauses s.state.trail t.state.trail s.state.watches t.state.watches s.state.head t.state.head s.log t.log h l.grown l.ready

pub count_more : (n : ℕ) (s t : Search) → length s.log ≡ n → HasLearned s t → length t.log ≡ n + 1
count_more n s t e l = grown_count s.state.clauses t.state.clauses s.log t.log n l.grown e

pub learned_none : (f : FormulaView) (s t : Search) → Searches f s → HasLearnedNone s t → IsReady t.state.clauses t.state.trail t.state.watches t.state.head → Searches f t
learned_none f s t h e r = record { ready = r; logged = rw (e.clauses, e.log) h.logged; vars = rw e.clauses h.vars }

-- ---- the end
pub ended_by : (f : FormulaView) (n : ℕ) (s t : Search) (e : End) → Searches f s → length s.log ≤ n → IsTurn s t (Some e) → HasEnded f n t (Some e)
ended_by f n s t Full h few d = record { searching = learned_none f s t h d.same d.ready; complete = d.complete }
ended_by f n s t (Stuck i) h few d = record { logged = rw (d.same.clauses, d.same.log) h.logged; few = rw d.same.log few; stuck = d.stuck; seen = d.seen }

pub used_up : (f : FormulaView) (n : ℕ) (s t : Search) → Searches f s → length s.log ≡ n → HasWorkedThrough s t → IsUsedUp f n t
used_up f n s t h e d = record { searching = learned_none f s t h d.same d.ready; count = ap length d.same.log ∙ e; through = d.through }

-- ---- answers
pub spent_of : (f : FormulaView) (n : ℕ) (s : Search) → IsUsedUp f n s → IsSpent f n s.log
spent_of f n s u = spent f s.state.clauses s.state.trail s.state.watches s.state.head n s.log u.searching u.through u.count

pub model_by : (f : FormulaView) (s : Search) (values : List Bool) → IsFilled f s → AreValuesOf s.state.trail values → AreOver s.state.clauses.vars s.state.clauses.clauses → IsModel f values
model_by f s values d v over = model_of f s.state.clauses s.state.trail s.state.watches s.state.head s.log values d.searching d.complete v over

pub refutation_of : (f : FormulaView) (n i : ℕ) (s : Search) (log : List Step) → IsRefutable f n s i → IsRefuted s.state.clauses s.log log → IsRefutation f n log
refutation_of f n i s log d r = refutation f s.state.clauses n s.log log d.logged d.few r

-- ---- the beginning
pub begun_run : (f : FormulaView) (s : Search) (t : TrailView) (w : WatchView) → IsNewSearch f s.state s.seen s.log → IsBegun f t w (length f.clauses) → IsSearching f f t w s.state.head s.log × (length s.log ≡ 0) × (s.seen.vars ≡ t.vars)
begun_run f s t w b l = (
  rw (b.head, b.log_is) (searching_new f t w l),
  ap length b.log_is,
  b.seen_vars ∙ (b.begun.ready.trail_vars ∙ sym l.ready.trail_vars),
)

pub stuck_run : (f : FormulaView) (s : Search) (t : TrailView) (i : ℕ) → IsNewSearch f s.state s.seen s.log → IsStuck f t i → IsLogged f f.clauses s.log × (length s.log ≡ 0) × (s.seen.vars ≡ t.vars)
stuck_run f s t i b h = (rw b.log_is (begun f), ap length b.log_is, b.seen_vars ∙ (b.begun.ready.trail_vars ∙ sym h.vars))
