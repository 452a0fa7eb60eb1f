-- Private contracts alone cite this file: what holds between the parts of the solver.
use Rattle.std.specs.Prelude.{◌≡◌, ◌≢◌, ℕ, ◌<◌, ◌≤◌, true, false}
use Rattle.std.specs.Prelude.{not, ◌&&◌, cond, List, [], ◌∷◌}
use Rattle.std.specs.Prelude.{length, slice_get, slice_index, Option, Some, None, IfSome, take, ◌⊎◌}
use Rattle.dsv_cnf.specs.Literal.{Literal, negation, literal_eq}
use Rattle.dsv_cnf.specs.FormulaView.{FormulaView}
use Rattle.dsv_cnf.specs.Formula.{contains}
use Rattle.dsv_trail.specs.TrailView.{TrailView}
use Rattle.dsv_trail.specs.Places.{falsifies}
use Rattle.dsv_solver.specs.WatchView.{WatchView}
use Rattle.dsv_solver.specs.Watched.{Is, Guards, IsSettledAtZero, IsWatched}
use Rattle.dsv_trail.specs.declared.marks.Mark.{Mark}
use Rattle.dsv_solver.specs.declared.watches.Pair.{Pair}

-- a literal of the clause that is not false, other than this one
abbrev pub open_of : List Mark → Literal → List Literal → Option Literal
open_of ms other [] = None
open_of ms other (l ∷ ls) = cond (not (literal_eq l other) && not (falsifies ms l)) (Some l)
    (open_of ms other ls)

-- a literal of the clause that is not false, other than this one
pub record IsNext (ms : List Mark) (other : Literal) (c : List Literal)
    (next : Literal) : Type 0 where
  pub stands : contains c next ≡ true
  pub apart : next ≢ other
  pub not_false : falsifies ms next ≡ false

-- the clause that implied a literal
pub record HasReason (clauses : List (List Literal)) (before : List Mark) (l : Literal)
    (reason : ℕ) : Type 0 where
  pub clause : List Literal
  pub at : slice_get clauses reason ≡ Some clause
  pub has : contains clause l ≡ true
  pub others : (q : Literal) → contains clause q ≡ true → (q ≡ l) ⊎ (falsifies before q ≡ true)

pub record IsPlaced (clauses : List (List Literal)) (before : List Mark) (m : Mark) : Type 0 where
  pub open_literal : falsifies before m.literal ≡ false
  pub open_negation : falsifies before (negation m.literal) ≡ false
  pub reason : IfSome m.reason (HasReason clauses before m.literal)

-- a trail whose literals are open when they come, and have their reasons
pub record IsJustified (clauses : List (List Literal)) (t : TrailView) : Type 0 where
  pub placed : (i : ℕ) (m : Mark) → slice_get t.marks i ≡ Some m
      → IsPlaced clauses (take i t.marks) m
  pub consistent : (q : Literal) → falsifies t.marks q ≡ true
      → falsifies t.marks (negation q) ≡ true → ⊥
  pub limits : (j k : ℕ) → slice_get t.limits j ≡ Some k → k ≤ length t.marks
  pub rising : (i j a b : ℕ) → i ≤ j → slice_get t.limits i ≡ Some a
      → slice_get t.limits j ≡ Some b → a ≤ b

-- the same trail with more at its end
pub record IsLonger (s t : TrailView) : Type 0 where
  pub vars : t.vars ≡ s.vars
  pub limits : t.limits ≡ s.limits
  pub longer : length s.marks ≤ length t.marks
  pub prefix : (k : ℕ) → k ≤ length s.marks → take k t.marks ≡ take k s.marks

-- where the literal is one of the pair, the other is true
abbrev pub IsSettled : TrailView → Literal → List Literal → Pair → Type 0
IsSettled t f c p = IsSettledAtZero t c ⊎ Guards (λ l. l ≡ f) (Is t.marks) p

pub record IsVisited (f : FormulaView) (t : TrailView) (w : WatchView) (l : Literal)
    (list : List ℕ) (n : ℕ) : Type 0 where
  pub each : (k : ℕ) (c : List Literal) (p : Pair) → k < n
      → slice_get f.clauses (slice_index list k) ≡ Some c
      → slice_get w.pairs (slice_index list k) ≡ Some p → IsSettled t l c p

pub record AreSettled (f : FormulaView) (t : TrailView) (w : WatchView) (l : Literal) : Type 0 where
  pub each : (i : ℕ) (c : List Literal) (p : Pair) → slice_get f.clauses i ≡ Some c
      → slice_get w.pairs i ≡ Some p → IsSettled t l c p

pub record IsConflict (f : FormulaView) (t : TrailView) (i : ℕ) : Type 0 where
  pub clause : List Literal
  pub at : slice_get f.clauses i ≡ Some clause
  pub all : (q : Literal) → contains clause q ≡ true → falsifies t.marks q ≡ true

-- what holds between the solver's parts
pub record IsReady (f : FormulaView) (t : TrailView) (w : WatchView) (head : ℕ) : Type 0 where
  pub trail_vars : t.vars ≡ f.vars
  pub watch_vars : w.vars ≡ f.vars
  pub justified : IsJustified f.clauses t
  pub watched : IsWatched f.clauses t w head
  pub head_in : head ≤ length t.marks

-- of a pair, the one that is not this literal, where the other is
pub record IsPartner (p : Pair) (f l : Literal) : Type 0 where
  pub apart : l ≢ f
  pub is : ((p.one ≡ f) × (p.other ≡ l)) ⊎ ((p.other ≡ f) × (p.one ≡ l))

pub record HasNoPartner (p : Pair) (f : Literal) : Type 0 where
  pub one : p.one ≡ f → p.other ≡ f
  pub other : p.other ≡ f → p.one ≡ f
