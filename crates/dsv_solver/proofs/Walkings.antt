use Rattle.std.proofs.Common.{◌≡◌, ℕ, ◌+◌, ◌<◌, ◌≤◌, true, false, List, [], ◌∷◌, refl, arith, ap, sym, ◌∙◌, inl, inr, length, take, slice_get, Some, zero, suc, eqb}
use Rattle.std.proofs.lemmas.Option.{slice_get_within}
use Rattle.dsv_cnf.proofs.SetLemmas.{eqb-other}
use Rattle.std.proofs.lemmas.Bool.{eq-eqb, cases_eq, cases_lt}
use Rattle.dsv_cnf.specs.Literal.{Literal, negation}
use Rattle.dsv_cnf.specs.FormulaView.{FormulaView}
use Rattle.dsv_cnf.specs.Formula.{contains}
use Rattle.dsv_hints.specs.Derivation.{live_clause, entries_from}
use Rattle.dsv_trail.specs.TrailView.{TrailView}
use Rattle.dsv_trail.specs.Places.{falsifies, place_of}
use Rattle.dsv_solver.specs.Walk.{IsLow, IsOfLesson, Counts, Below}
use Rattle.dsv_solver.specs.Analysis.{IsMarked, IsReached, IsLowest}
use Rattle.dsv_solver.specs.Walking.{Derives, Met, Passes, Fines, IsLive, live_of, IsWay, IsWalking, IsEnding}
use Rattle.dsv_solver.specs.Step.{IsPassed, IsResolved, IsStep}
use Rattle.dsv_solver.specs.Propagation.{IsJustified, HasReason}
use Rattle.dsv_solver.specs.Fine.{HasTwo}
use Rattle.dsv_trail.specs.declared.marks.Mark.{Mark}
use Rattle.dsv_cnf.proofs.ClauseLemmas.{no_both, not_true}
use Rattle.dsv_solver.proofs.Resolution.{derives-recount, derives-start, met-start}
use Rattle.dsv_solver.proofs.Passes.{passes-recount, passes-start, fine-two}
use Rattle.dsv_trail.proofs.PlaceLemmas.{place-is, falsifies-first, falsifies-take}
use Rattle.dsv_solver.proofs.Walks.{met-step, walk-derives, walk-passes, same-place, mark-place, walk-turns, zero-passes}

live-at : (cs : List (List Literal)) (b r : ℕ) (c : List Literal) → slice_get cs r ≡ Some c → live_clause (entries_from cs b) (r + b) ≡ Some c
live-at [] b r c e = cc
live-at (d ∷ ds) b zero c e = let h : eqb b (zero + b) ≡ true = eq-eqb b (zero + b) (omega arith) in rw h e
live-at (d ∷ ds) b (suc r) c e =
    let h : eqb b (suc r + b) ≡ false = eqb-other b (suc r + b) (λ x. omega (arith, x)) in
    let s : suc r + b ≡ r + (b + 1) = omega arith in
    rw (h, s) (live-at ds (b + 1) r c e)

pub live-of : (f : FormulaView) → IsLive (live_of f) f
live-of f = record { each = λ r c e. live-at f.clauses 1 r c e }

lowest-found : (t : TrailView) (high lowest least : ℕ) (M N : List Literal) → ((q : Literal) → contains M q ≡ true → contains N q ≡ true) → IsLowest t high M lowest → lowest < length t.marks → IsLowest t high N least → (high ≤ least) × (least ≤ lowest)
lowest-found t high lowest least M N more old lt new =
    let r : IsReached t high M lowest = elim old.reached [ inl x ↦ x | inr e ↦ absurd (omega (arith, e, lt)) ] in
    let le : least ≤ lowest = omega (arith, new.least r.literal (more r.literal r.met) (omega (arith, r.at, r.up)), r.at) in
    (elim new.reached [ inl x ↦ x.up | inr e ↦ absurd (omega (arith, e, le, lt)) ], le)

-- ---- a step back
-- what was met before the place of a literal that was not
passed-below : (t : TrailView) (i n : ℕ) (M N : List Literal) (H K : List ℕ) (q : Literal) → n + 1 ≡ i → IsPassed t n M N H K → falsifies t.marks q ≡ true → contains M q ≡ true → place_of t.marks q < i → place_of t.marks q < n
passed-below t i n M N H K q e p is_false x a =
    elim (cases_eq (place_of t.marks q) n) [
      | inl s ↦ absurd (no_both (contains M (negation p.mark.literal)) (ap (contains M) (sym (same-place t n p.mark q p.at is_false s)) ∙ x) p.unmet)
      | inr o ↦ omega (arith, a, e, o)
    ]

way-passed : (f : FormulaView) (t : TrailView) (Stays : Literal → Type 0) (i n : ℕ) (M N : List Literal) (H K : List ℕ) → n + 1 ≡ i → IsPassed t n M N H K → IsWay f t Stays i M H → IsWay f t Stays n N K
way-passed f t Stays i n M N H K e p w =
    rw (p.same, p.hints)
    (record {
      met = w.met;
      derives = derives-recount (live_of f) (falsifies t.marks) (Counts t Stays i) (Counts t Stays n) (contains M) H w.derives
          (λ q h g. elim g [ inl a ↦ inl (omega (arith, a, e)) | inr b ↦ inr b ])
          (λ q x g. elim g [ inl a ↦ inl (passed-below t i n M N H K q e p (w.met.are_false q x) x a) | inr b ↦ inr b ]);
      inside = omega (arith, w.inside, e);
    })

way-resolved : (f : FormulaView) (t : TrailView) (Stays : Literal → Type 0) (i n : ℕ) (M N : List Literal) (H K : List ℕ) → IsJustified f.clauses t → n + 1 ≡ i → ((q : Literal) → place_of t.marks q ≡ n → Stays q → ⊥) → IsResolved f t n M N H K → IsWay f t Stays i M H → IsWay f t Stays n N K
way-resolved f t Stays i n M N H K j e goes r w =
    let d : Derives (live_of f) (falsifies t.marks) (Counts t Stays (n + 1)) (contains M) H = rw e w.derives in
    rw r.hints
    (record {
      met = met-step f t (live_of f) M N r.clause H n r.reason r.mark (live-of f) r.implied r.marked w.met;
      derives = walk-derives f t (live_of f) Stays M N r.clause H n r.reason r.mark j (live-of f) r.implied r.marked goes r.met w.met d;
      inside = omega (arith, w.inside, e);
    })

-- a step keeps the way, where no literal of its place stays
pub way-step : (f : FormulaView) (t : TrailView) (Stays : Literal → Type 0) (i n : ℕ) (M N : List Literal) (H K : List ℕ) → IsJustified f.clauses t → n + 1 ≡ i → ((q : Literal) → place_of t.marks q ≡ n → Stays q → ⊥) → IsStep f t n M N H K → IsWay f t Stays i M H → IsWay f t Stays n N K
way-step f t Stays i n M N H K j e goes (inl p) w = way-passed f t Stays i n M N H K e p w
way-step f t Stays i n M N H K j e goes (inr r) w = way-resolved f t Stays i n M N H K j e goes r w

step-more : (f : FormulaView) (t : TrailView) (n : ℕ) (M N : List Literal) (H K : List ℕ) → IsStep f t n M N H K → (q : Literal) → contains M q ≡ true → contains N q ≡ true
step-more f t n M N H K (inl p) q h = rw p.same h
step-more f t n M N H K (inr r) q h = r.marked.more q h

walking-passes : (f : FormulaView) (t : TrailView) (zero_end high n : ℕ) (M N : List Literal) (H K : List ℕ) → IsJustified f.clauses t → Fines f (falsifies (take high t.marks)) → high ≤ n → IsStep f t n M N H K → Passes (live_of f) (Below t zero_end) (IsLow t zero_end high) (falsifies (take high t.marks)) (contains M) H → Passes (live_of f) (Below t zero_end) (IsLow t zero_end high) (falsifies (take high t.marks)) (contains N) K
walking-passes f t zero_end high n M N H K j fine up (inl p) w = rw (p.same, p.hints) w
walking-passes f t zero_end high n M N H K j fine up (inr r) w =
    rw r.hints (walk-passes f t (live_of f) M N r.clause H zero_end high n r.reason r.mark j (live-of f) fine r.implied r.marked up w)

-- a step at the present level
pub walking-step : (f : FormulaView) (t : TrailView) (zero_end high i n lowest least : ℕ) (M N : List Literal) (H K : List ℕ) → IsJustified f.clauses t → Fines f (falsifies (take high t.marks)) → n + 1 ≡ i → lowest + 1 < i → IsStep f t n M N H K → IsLowest t high N least → IsWalking f t zero_end high i lowest M H → IsWalking f t zero_end high n least N K
walking-step f t zero_end high i n lowest least M N H K j fine e lt s new w =
    let found = lowest-found t high lowest least M N (step-more f t n M N H K s) w.least (omega (arith, w.in_front, w.way.inside)) new in
    let up : high ≤ n = omega (arith, w.up, e, lt) in
    record {
      way = way-step f t (IsLow t zero_end high) i n M N H K j e (λ q at low. omega (arith, at, low.1, up)) s w.way;
      passes = walking-passes f t zero_end high n M N H K j fine up s w.passes;
      least = new;
      up = found.0;
      in_front = omega (arith, found.1, lt, e);
    }

ending-passes : (f : FormulaView) (t : TrailView) (zero_end high i n : ℕ) (M N : List Literal) (H K : List ℕ) → IsJustified f.clauses t → zero_end ≤ high → n + 1 ≡ i → n < zero_end → IsStep f t n M N H K → Met (live_of f) (falsifies t.marks) (contains M) H → Passes (live_of f) (Below t i) (IsLow t zero_end high) (falsifies (take high t.marks)) (contains M) H → Passes (live_of f) (Below t n) (IsLow t zero_end high) (falsifies (take high t.marks)) (contains N) K
ending-passes f t zero_end high i n M N H K j zh e lt (inl p) met w =
    rw (p.same, p.hints)
    (passes-recount (live_of f) (Below t i) (Below t n) (IsLow t zero_end high) (falsifies (take high t.marks)) (contains M) H w
    (λ q h a. inl (omega (arith, a, e)))
    (λ q x a. passed-below t i n M N H K q e p (met.are_false q x) x a))
ending-passes f t zero_end high i n M N H K j zh e lt (inr r) met w =
    let p : Passes (live_of f) (Below t (n + 1)) (IsLow t zero_end high) (falsifies (take high t.marks)) (contains M) H = rw e w in
    rw r.hints (zero-passes f t (live_of f) M N r.clause H zero_end high n r.reason r.mark j (live-of f) r.implied r.marked lt zh met p)

-- a step at level 0
pub ending-step : (f : FormulaView) (t : TrailView) (zero_end high i n : ℕ) (u : Literal) (M N : List Literal) (H K : List ℕ) → IsJustified f.clauses t → zero_end ≤ high → n + 1 ≡ i → IsStep f t n M N H K → IsEnding f t zero_end high i u M H → IsEnding f t zero_end high n u N K
ending-step f t zero_end high i n u M N H K j zh e s w =
    let lt : n < zero_end = omega (arith, e, w.inside) in
    record {
      way = way-step f t (IsOfLesson t zero_end high u) i n M N H K j e
          (λ q at o. elim o [ inl x ↦ omega (arith, lt, w.above, at, ap (place_of t.marks) x) | inr low ↦ omega (arith, lt, at, low.0) ])
          s w.way;
      passes = ending-passes f t zero_end high i n M N H K j zh e lt s w.way.met w.passes;
      above = w.above;
      high_first = w.high_first;
      has = step-more f t n M N H K s u w.has;
      inside = omega (arith, w.inside, e);
    }

pub reason-within : (f : FormulaView) (t : TrailView) (n r : ℕ) (m : Mark) → IsJustified f.clauses t → slice_get t.marks n ≡ Some m → m.reason ≡ Some r → r < length f.clauses
reason-within f t n r m j at because =
    let h : HasReason f.clauses (take n t.marks) m.literal r = rw because at (j.placed n m at).reason in
    slice_get_within f.clauses r h.clause h.at

-- from the conflict
pub walking-start : (f : FormulaView) (t : TrailView) (zero_end high least r : ℕ) (M c : List Literal) (l : Literal) → IsJustified f.clauses t → Fines f (falsifies (take high t.marks)) → slice_get f.clauses r ≡ Some c → ((q : Literal) → contains c q ≡ true → falsifies t.marks q ≡ true) → falsifies t.marks l ≡ false → IsMarked [] M c l → IsLowest t high M least → zero_end ≤ high → IsWalking f t zero_end high (length t.marks) least M ((r + 1) ∷ [])
walking-start f t zero_end high least r M c l j fine at all l_true k low zh =
    let stands = (live-of f).each r c at in
    let in_c : (q : Literal) → contains M q ≡ true → contains c q ≡ true = λ q n. elim (k.only q n) [ inl x ↦ absurd (no_both (contains [] q) x refl) | inr x ↦ x.0 ] in
    let in_m : (q : Literal) → contains c q ≡ true → contains M q ≡ true = λ q n. elim (k.all q n) [ inl e ↦ absurd (no_both (falsifies t.marks q) (all q n) (ap (falsifies t.marks) e ∙ l_true)) | inr x ↦ x ] in
    let two : HasTwo (falsifies (take high t.marks)) c = fine-two (falsifies (take high t.marks)) c (fine.each r c at) (λ q n. not_true (falsifies (take high t.marks) (negation q)) (λ h. j.consistent q (all q n) (falsifies-take t.marks high (negation q) h))) in
    let p = place-is t.marks two.one (all two.one two.one_stands) in
    let lt : place_of t.marks two.one < length t.marks = slice_get_within t.marks (place_of t.marks two.one) p.mark p.at in
    let up_one : high ≤ place_of t.marks two.one = elim (cases_lt (place_of t.marks two.one) high) [ inl a ↦ absurd (no_both (falsifies (take high t.marks) two.one) (falsifies-first t.marks high two.one (all two.one two.one_stands) a) two.one_not) | inr b ↦ b ] in
    let le : least ≤ place_of t.marks two.one = low.least two.one (in_m two.one two.one_stands) up_one in
    record {
      way = record {
        met = met-start (live_of f) (falsifies t.marks) (contains M) c (r + 1) stands (λ q n. (all q (in_c q n), in_c q n));
        derives = derives-start (live_of f) (falsifies t.marks) (Counts t (IsLow t zero_end high) (length t.marks)) (contains M) c (r + 1) stands (λ q n. (in_m q n, inl (let w = place-is t.marks q (all q n) in slice_get_within t.marks (place_of t.marks q) w.mark w.at)));
        inside = omega arith;
      };
      passes = passes-start (live_of f) (Below t zero_end) (IsLow t zero_end high) (falsifies (take high t.marks)) (contains M) c (r + 1) stands two;
      least = low;
      up = elim low.reached [ inl x ↦ x.up | inr e ↦ absurd (omega (arith, e, le, lt)) ];
      in_front = omega (arith, le, lt);
    }

-- at the unique implication point
pub walking-turned : (f : FormulaView) (t : TrailView) (zero_end high lowest : ℕ) (M : List Literal) (H : List ℕ) (m : Mark) → IsJustified f.clauses t → slice_get t.marks lowest ≡ Some m → zero_end ≤ high → IsWalking f t zero_end high (lowest + 1) lowest M H → IsEnding f t zero_end high zero_end (negation m.literal) M H
walking-turned f t zero_end high lowest M H m j at zh w =
    let pl : place_of t.marks (negation m.literal) ≡ lowest = mark-place f t lowest m j at in
    record {
      way = record {
        met = w.way.met;
        derives = walk-turns f t (live_of f) M H zero_end high lowest m at pl zh w.up w.way.met (λ q n lt. elim (cases_lt (place_of t.marks q) high) [ inl a ↦ a | inr b ↦ absurd (omega (arith, w.least.least q n b, lt)) ]) w.way.derives;
        inside = omega (arith, zh, w.up, w.way.inside);
      };
      passes = w.passes;
      above = omega (arith, pl, zh, w.up);
      high_first = omega (arith, pl, w.up);
      has = elim w.least.reached [
        | inl r ↦ rw (← same-place t lowest m r.literal at (w.way.met.are_false r.literal r.met) r.at) r.met
        | inr e ↦ absurd (omega (arith, e, w.way.inside))
      ];
      inside = omega arith;
    }
