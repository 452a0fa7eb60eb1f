use Rattle.std.proofs.Common.{◌≡◌, ℕ, ◌+◌, ◌≤◌, true, arith, ap, sym, ◌∙◌, inl, inr, length, set, slice_get, slice_index, Some}
use Rattle.std.proofs.lemmas.Bool.{cases_eq}
use Rattle.dsv_cnf.specs.Literal.{Literal}
use Rattle.dsv_cnf.specs.FormulaView.{FormulaView}
use Rattle.dsv_trail.specs.TrailView.{TrailView}
use Rattle.dsv_trail.specs.Places.{falsifies}
use Rattle.dsv_solver.specs.WatchView.{WatchView}
use Rattle.dsv_solver.specs.Watched.{list_of, Covers}
use Rattle.dsv_solver.specs.Propagation.{IsLonger, IsVisited, AreSettled, IsReady}
use Rattle.dsv_solver.specs.Outcomes.{IsKept, Moves}
use Rattle.dsv_solver.specs.declared.watches.Pair.{Pair}
use Rattle.dsv_cnf.proofs.ClauseLemmas.{no_both, literal-cases}
use Rattle.dsv_solver.proofs.WatchLemmas.{pair-cases}
use Rattle.dsv_solver.proofs.Steps.{settled-longer}

pub longer-twice : (r s t : TrailView) → IsLonger r s → IsLonger s t → IsLonger r t
longer-twice r s t a b =
    record {
      vars = b.vars ∙ a.vars;
      limits = b.limits ∙ a.limits;
      longer = omega (arith, a.longer, b.longer);
      prefix = λ k le. b.prefix k (omega (arith, le, a.longer)) ∙ a.prefix k le;
    }

-- one more clause of the list is settled
pub visited-kept : (f : FormulaView) (s t : TrailView) (v w : WatchView) (l : Literal) (j i : ℕ) → ((a k : ℕ) → slice_get s.limits a ≡ Some k → k ≤ length s.marks) → IsLonger s t → slice_index (list_of v.lists l) j ≡ i → IsVisited f s v l (list_of v.lists l) j → IsKept f t v w l i → IsVisited f t w l (list_of w.lists l) (j + 1)
visited-kept f s t v w l j i lim n at h k =
    record {
      each = λ a c p lt e g.
          let x : list_of w.lists l ≡ list_of v.lists l = ap (λ (y : WatchView). list_of y.lists l) k.same in
          let e' : slice_get f.clauses (slice_index (list_of v.lists l) a) ≡ Some c = rw x at e in
          let g' : slice_get v.pairs (slice_index (list_of v.lists l) a) ≡ Some p = ap (λ (y : WatchView). slice_get y.pairs (slice_index (list_of v.lists l) a)) (sym k.same) ∙ rw x at g in
          elim (cases_eq a j) [
            | inl same ↦
                let s : slice_index (list_of v.lists l) a ≡ i = ap (λ y. slice_index (list_of v.lists l) y) same ∙ at in
                k.settled c p (ap (slice_get f.clauses) (sym s) ∙ e') (ap (slice_get v.pairs) (sym s) ∙ g')
            | inr other ↦ settled-longer s t l c p lim n (h.each a c p (omega (arith, lt, other)) e' g')
          ];
    }

-- a clause of the list has another watch
pub visited-moved : (f : FormulaView) (head : ℕ) (s t : TrailView) (v w : WatchView) (l : Literal) (j i : ℕ) → IsReady f s v head → falsifies s.marks l ≡ true → IsVisited f s v l (list_of v.lists l) j → Moves s t v w l j i → IsVisited f t w l (list_of w.lists l) j
visited-moved f head s t v w l j i r ff h m =
    record {
      each = λ a c p lt e g.
          let x : slice_index (list_of w.lists l) a ≡ slice_index (list_of v.lists l) a = m.is.prefix a lt in
          let pair : Pair = record { one = m.next; other = m.other } in
          let e' : slice_get f.clauses (slice_index (list_of v.lists l) a) ≡ Some c = ap (slice_get f.clauses) (sym x) ∙ e in
          let g' : slice_get (set v.pairs i pair) (slice_index (list_of v.lists l) a) ≡ Some p = ap (λ y. slice_get y (slice_index (list_of v.lists l) a)) (sym m.is.pairs) ∙ (ap (slice_get w.pairs) (sym x) ∙ g) in
          rw m.is.trail
          (elim (pair-cases v.pairs i (slice_index (list_of v.lists l) a) pair p g') [
            | inl y ↦ inr (rw y.1 (record { one = λ q. absurd (no_both (falsifies s.marks l) ff (ap (falsifies s.marks) (sym q) ∙ m.is.not_false)); other = λ q. absurd (m.is.apart q) }))
            | inr y ↦ h.each a c p lt e' y.1
          ]);
    }

-- at the end of the list every clause that watches the literal is settled
pub all-settled : (f : FormulaView) (t : TrailView) (w : WatchView) (l : Literal) (j : ℕ) → length (list_of w.lists l) ≤ j → Covers w l → IsVisited f t w l (list_of w.lists l) j → AreSettled f t w l
all-settled f t w l j le cover h =
    record {
      each = λ i c p e g.
          elim (literal-cases p.one l) [
            | inl a ↦ let m = cover.one i p g a in h.each m.place c p (omega (arith, m.inside, le)) (ap (slice_get f.clauses) m.is ∙ e) (ap (slice_get w.pairs) m.is ∙ g)
            | inr a ↦
                elim (literal-cases p.other l) [
                  | inl b ↦ let m = cover.other i p g b in h.each m.place c p (omega (arith, m.inside, le)) (ap (slice_get f.clauses) m.is ∙ e) (ap (slice_get w.pairs) m.is ∙ g)
                  | inr b ↦ inr (record { one = λ q. absurd (a q); other = λ q. absurd (b q) })
                ]
          ];
    }
