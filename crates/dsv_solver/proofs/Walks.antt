use Rattle.std.proofs.Common.{◌≡◌, ℕ, ◌+◌, ◌<◌, ◌≤◌, true, false, List, ◌∷◌, arith, ap, sym, ◌∙◌, inl, inr, take, slice_get, Some, Ok}
use Rattle.std.proofs.lemmas.Bool.{cases_eq, cases_lt}
use Rattle.dsv_cnf.specs.Literal.{Literal, negation}
use Rattle.dsv_cnf.specs.FormulaView.{FormulaView}
use Rattle.dsv_cnf.specs.Formula.{contains}
use Rattle.dsv_hints.specs.Derivation.{Entry, hints_answer}
use Rattle.dsv_cnf.specs.LiteralSet.{none}
use Rattle.dsv_hints.specs.Clauses.{with_all}
use Rattle.dsv_trail.specs.TrailView.{TrailView}
use Rattle.dsv_trail.specs.Places.{falsifies, place_of}
use Rattle.dsv_hints.specs.Local.{AreUsedLater, IsLocal}
use Rattle.dsv_solver.specs.Fine.{HasTwo}
use Rattle.dsv_solver.specs.Analysis.{IsMarked}
use Rattle.dsv_solver.specs.Walking.{Derives, Met, Passes, Fines, IsLive, LearnedAt}
use Rattle.dsv_solver.specs.Walk.{IsLow, IsOfLesson, Counts, Below}
use Rattle.dsv_solver.specs.Step.{IsImplied}
use Rattle.dsv_solver.specs.Propagation.{HasReason, IsJustified}
use Rattle.dsv_trail.specs.declared.marks.Mark.{Mark}
use Rattle.dsv_hints.proofs.MoveLemmas.{with_all-cases, with_all-has}
use Rattle.dsv_cnf.proofs.ClauseLemmas.{contains-head, contains-tail, contains-cases, not_true}
use Rattle.dsv_solver.proofs.Resolution.{derives-resolve, derives-recount, derives-end, met-more, stand-from}
use Rattle.dsv_solver.proofs.Passes.{passes-high, passes-zero, passes-end, fine-two}
use Rattle.dsv_trail.proofs.PlaceLemmas.{falsifies-take, falsifies-at, place-is, place-first, falsifies-first, place-at}
use Rattle.dsv_solver.proofs.Steps.{some-same}

pub implied-of : (f : FormulaView) (t : TrailView) (i r : ℕ) (m : Mark) (c : List Literal) → IsJustified f.clauses t → slice_get t.marks i ≡ Some m → m.reason ≡ Some r → slice_get f.clauses r ≡ Some c → IsImplied f t i r m c
implied-of f t i r m c j at because stands =
    let h : HasReason f.clauses (take i t.marks) m.literal r = rw because at (j.placed i m at).reason in
    let same : h.clause ≡ c = some-same (slice_get f.clauses r) h.clause c h.at stands in
    record { at = at; stands = stands; has = rw same at h.has; others = rw same at h.others }

not-negation : (t : TrailView) (q : Literal) → ((x : Literal) → falsifies t.marks x ≡ true → falsifies t.marks (negation x) ≡ true → ⊥) → falsifies t.marks (negation q) ≡ true → falsifies t.marks q ≡ false
not-negation t q k h = not_true (falsifies t.marks q) (λ x. k q x h)

pub met-step : (f : FormulaView) (t : TrailView) (live : List Entry) (M N c : List Literal) (H : List ℕ) (i r : ℕ) (m : Mark) → IsLive live f → IsImplied f t i r m c → IsMarked M N c m.literal → Met live (falsifies t.marks) (contains M) H → Met live (falsifies t.marks) (contains N) ((r + 1) ∷ H)
met-step f t live M N c H i r m lv s k met =
    met-more live (falsifies t.marks) (contains M) (contains N) c H (r + 1) (lv.each r c s.stands) met
    (λ q n. elim (k.only q n) [
      | inl o ↦ inl o
      | inr w ↦ inr (elim (s.others q w.0) [ inl e ↦ absurd (w.1 e) | inr g ↦ falsifies-take t.marks i q g ], w.0)
    ])

-- a place_of and its literal
pub same-place : (t : TrailView) (i : ℕ) (m : Mark) (q : Literal) → slice_get t.marks i ≡ Some m → falsifies t.marks q ≡ true → place_of t.marks q ≡ i → q ≡ negation m.literal
same-place t i m q at h e =
    let p = place-is t.marks q h in
    let s : p.mark ≡ m = some-same (slice_get t.marks i) p.mark m (ap (slice_get t.marks) (sym e) ∙ p.at) at in
    sym p.is ∙ ap (λ (x : Mark). negation x.literal) s

pub mark-place : (f : FormulaView) (t : TrailView) (i : ℕ) (m : Mark) → IsJustified f.clauses t → slice_get t.marks i ≡ Some m → place_of t.marks (negation m.literal) ≡ i
mark-place f t i m j at = place-at t.marks i m at (j.placed i m at).open_negation (falsifies-at t.marks i m at)

-- a literal that does not stay resolved: the hints derive on
pub walk-derives : (f : FormulaView) (t : TrailView) (live : List Entry) (Stays : Literal → Type 0) (M N c : List Literal) (H : List ℕ) (i r : ℕ) (m : Mark) → IsJustified f.clauses t → IsLive live f → IsImplied f t i r m c → IsMarked M N c m.literal → ((q : Literal) → place_of t.marks q ≡ i → Stays q → ⊥) → contains M (negation m.literal) ≡ true → Met live (falsifies t.marks) (contains M) H → Derives live (falsifies t.marks) (Counts t Stays (i + 1)) (contains M) H → Derives live (falsifies t.marks) (Counts t Stays i) (contains N) ((r + 1) ∷ H)
walk-derives f t live Stays M N c H i r m j lv s k goes seen met d =
    let place_is : place_of t.marks (negation m.literal) ≡ i = mark-place f t i m j s.at in
    derives-resolve live (falsifies t.marks) (Counts t Stays (i + 1)) (Counts t Stays i) (contains M) (contains N) H (r + 1) m.literal met d
    (record {
      clause = c;
      stands = lv.each r c s.stands;
      has = s.has;
      met = seen;
      others = λ q n. elim (s.others q n) [
        | inl e ↦ inl e
        | inr g ↦ elim (k.all q n) [ inl e ↦ inl e | inr o ↦ inr (o, inl (place-first t.marks i q g)) ]
      ];
      is_true = not-negation t m.literal j.consistent (falsifies-at t.marks i m s.at);
      is_false = falsifies-at t.marks i m s.at;
      counts = inl (omega (arith, place_is));
      gone = λ g. elim g [ inl a ↦ omega (arith, place_is, a) | inr b ↦ goes (negation m.literal) place_is b ];
      less = λ q g. elim g [ inl a ↦ inl (omega (arith, a)) | inr b ↦ inr b ];
      rest = λ q h g. elim g [
        | inl a ↦ elim (cases_eq (place_of t.marks q) i) [ inl e ↦ inl (same-place t i m q s.at h e) | inr n ↦ inr (inl (omega (arith, a, n))) ]
        | inr b ↦ inr (inr b)
      ];
      more = record { more = k.more };
    })

pub below-false : (t : TrailView) (high : ℕ) (q : Literal) → high ≤ place_of t.marks q → falsifies (take high t.marks) q ≡ false
below-false t high q le = not_true (falsifies (take high t.marks) q) (λ h. omega (arith, le, place-first t.marks high q h))

-- its reason has two literals of the present level
step-two : (f : FormulaView) (t : TrailView) (high i r : ℕ) (m : Mark) (c : List Literal) → IsJustified f.clauses t → Fines f (falsifies (take high t.marks)) → IsImplied f t i r m c → high ≤ i → HasTwo (falsifies (take high t.marks)) c
step-two f t high i r m c j fine s le =
    fine-two (falsifies (take high t.marks)) c (fine.each r c s.stands)
    (λ q n. elim (s.others q n) [
      | inl e ↦ rw e (below-false t high (negation m.literal) (omega (arith, le, mark-place f t i m j s.at)))
      | inr g ↦ not_true (falsifies (take high t.marks) (negation q)) (λ h. j.consistent q (falsifies-take t.marks i q g) (falsifies-take t.marks high (negation q) h))
    ])

pub walk-passes : (f : FormulaView) (t : TrailView) (live : List Entry) (M N c : List Literal) (H : List ℕ) (zero_end high i r : ℕ) (m : Mark) → IsJustified f.clauses t → IsLive live f → Fines f (falsifies (take high t.marks)) → IsImplied f t i r m c → IsMarked M N c m.literal → high ≤ i → Passes live (Below t zero_end) (IsLow t zero_end high) (falsifies (take high t.marks)) (contains M) H → Passes live (Below t zero_end) (IsLow t zero_end high) (falsifies (take high t.marks)) (contains N) ((r + 1) ∷ H)
walk-passes f t live M N c H zero_end high i r m j lv fine s k le p =
    passes-high live (Below t zero_end) (IsLow t zero_end high) (falsifies (take high t.marks)) (contains M) (contains N) c H (r + 1) (lv.each r c s.stands) (step-two f t high i r m c j fine s le) (record { more = k.more }) p

-- at the unique implication point
pub walk-turns : (f : FormulaView) (t : TrailView) (live : List Entry) (M : List Literal) (H : List ℕ) (zero_end high i : ℕ) (m : Mark) → slice_get t.marks i ≡ Some m → place_of t.marks (negation m.literal) ≡ i → zero_end ≤ high → high ≤ i → Met live (falsifies t.marks) (contains M) H → ((q : Literal) → contains M q ≡ true → place_of t.marks q < i → place_of t.marks q < high) → Derives live (falsifies t.marks) (Counts t (IsLow t zero_end high) (i + 1)) (contains M) H → Derives live (falsifies t.marks) (Counts t (IsOfLesson t zero_end high (negation m.literal)) zero_end) (contains M) H
walk-turns f t live M H zero_end high i m at pl zh le met lowest d =
    derives-recount live (falsifies t.marks) (Counts t (IsLow t zero_end high) (i + 1)) (Counts t (IsOfLesson t zero_end high (negation m.literal)) zero_end) (contains M) H d
    (λ q h g. elim g [
      | inl a ↦ inl (omega (arith, a, zh, le))
      | inr o ↦ elim o [ inl e ↦ inl (rw e (omega (arith, pl))) | inr b ↦ inr b ]
    ])
    (λ q n g. elim (cases_eq (place_of t.marks q) i) [
      | inl e ↦ inr (inl (same-place t i m q at (met.are_false q n) e))
      | inr o ↦
          let lt : place_of t.marks q < high = elim g [ inl a ↦ lowest q n (omega (arith, a, o)) | inr b ↦ b.1 ] in
          elim (cases_lt (place_of t.marks q) zero_end) [ inl a ↦ inl a | inr b ↦ inr (inr (b, lt)) ]
    ])

-- a literal of level 0 resolved: two passes add the same
pub zero-passes : (f : FormulaView) (t : TrailView) (live : List Entry) (M N c : List Literal) (H : List ℕ) (zero_end high i r : ℕ) (m : Mark) → IsJustified f.clauses t → IsLive live f → IsImplied f t i r m c → IsMarked M N c m.literal → i < zero_end → zero_end ≤ high → Met live (falsifies t.marks) (contains M) H → Passes live (Below t (i + 1)) (IsLow t zero_end high) (falsifies (take high t.marks)) (contains M) H → Passes live (Below t i) (IsLow t zero_end high) (falsifies (take high t.marks)) (contains N) ((r + 1) ∷ H)
zero-passes f t live M N c H zero_end high i r m j lv s k lt zh met p =
    let place_is : place_of t.marks (negation m.literal) ≡ i = mark-place f t i m j s.at in
    passes-zero live (Below t (i + 1)) (Below t i) (IsLow t zero_end high) (falsifies (take high t.marks)) (contains M) (contains N) H (r + 1) m.literal
    (record {
      clause = c;
      stands = lv.each r c s.stands;
      has = s.has;
      others = λ q n. elim (s.others q n) [
        | inl e ↦ inl e
        | inr g ↦ elim (k.all q n) [ inl e ↦ inl e | inr o ↦ inr (o, place-first t.marks i q g) ]
      ];
      is_true = not_true (falsifies (take high t.marks) m.literal) (λ h. j.consistent m.literal (falsifies-take t.marks high m.literal h) (falsifies-at t.marks i m s.at));
      is_false = falsifies-first t.marks high (negation m.literal) (falsifies-at t.marks i m s.at) (omega (arith, place_is, lt, zh));
      counts = omega (arith, place_is);
      gone = λ g. elim g [ inl a ↦ omega (arith, place_is, a) | inr b ↦ omega (arith, place_is, b.0, lt) ];
      less = λ q a. omega (arith, a);
      rest = λ q n a. elim (cases_eq (place_of t.marks q) i) [ inl e ↦ inl (same-place t i m q s.at (met.are_false q n) e) | inr o ↦ inr (omega (arith, a, o)) ];
      more = record { more = k.more };
    })
    p

-- the end: the learned clause is accepted and local
pub record IsClause (t : TrailView) (zero_end high : ℕ) (u : Literal) (M rest : List Literal) : Type 0 where
  pub first : contains M u ≡ true
  pub first_high : high ≤ place_of t.marks u
  pub low : (q : Literal) → contains rest q ≡ true → (contains M q ≡ true) × IsLow t zero_end high q
  pub all : (q : Literal) → contains M q ≡ true → IsLow t zero_end high q → contains rest q ≡ true

pub end-accepts : (t : TrailView) (live : List Entry) (M rest : List Literal) (H : List ℕ) (zero_end high : ℕ) (u : Literal) → IsClause t zero_end high u M rest → Met live (falsifies t.marks) (contains M) H → Derives live (falsifies t.marks) (Counts t (IsOfLesson t zero_end high u) 0) (contains M) H → (hints_answer live H (with_all (u ∷ rest) none) ≡ Ok tt) × AreUsedLater live H (with_all (u ∷ rest) none)
end-accepts t live M rest H zero_end high u k met d =
    let at : (a : Literal) → with_all (u ∷ rest) none a ≡ true → contains (u ∷ rest) a ≡ true = λ a i. elim (with_all-cases (u ∷ rest) none a i) [ inl e ↦ e | inr n ↦ absurd cc ] in
    derives-end live (falsifies t.marks) (Counts t (IsOfLesson t zero_end high u) 0) (contains M) (with_all (u ∷ rest) none) H d
    (record {
      are_false = λ a i. elim (contains-cases u rest a (at a i)) [ inl e ↦ met.are_false a (rw e k.first) | inr n ↦ met.are_false a (k.low a n).0 ];
      count = λ a i. elim (contains-cases u rest a (at a i)) [ inl e ↦ inr (inl e) | inr n ↦ inr (inr (k.low a n).1) ];
      covers = λ q i g. with_all-has (u ∷ rest) none q (elim g [
        | inl a ↦ absurd (omega (arith, a))
        | inr o ↦ elim o [ inl e ↦ rw e (contains-head u rest) | inr b ↦ contains-tail u rest q (k.all q i b) ]
      ]);
    })

pub end-local : (t : TrailView) (live : List Entry) (M rest : List Literal) (H : List ℕ) (zero_end high : ℕ) (u : Literal) → IsClause t zero_end high u M rest → Met live (falsifies t.marks) (contains M) H → Derives live (falsifies t.marks) (Counts t (IsOfLesson t zero_end high u) 0) (contains M) H → Passes live (Below t 0) (IsLow t zero_end high) (falsifies (take high t.marks)) (contains M) H → IsLocal live (u ∷ rest) H
end-local t live M rest H zero_end high u k met d p =
    record {
      hinted = stand-from live (falsifies t.marks) (contains M) (u ∷ rest) H met (λ q i. elim (contains-cases u rest q i) [ inl e ↦ rw e k.first | inr n ↦ (k.low q n).0 ]);
      used = (end-accepts t live M rest H zero_end high u k met d).1;
      passes = passes-end live (Below t 0) (IsLow t zero_end high) (falsifies (take high t.marks)) (contains M) (u ∷ rest) H p (λ q a. omega (arith, a))
          (λ q n. let l = k.low q n in (falsifies-first t.marks high q (met.are_false q l.0) l.1.1, l.1));
    }

pub end-learned : (t : TrailView) (live : List Entry) (M rest : List Literal) (H : List ℕ) (zero_end high : ℕ) (u : Literal) → ((x : Literal) → falsifies t.marks x ≡ true → falsifies t.marks (negation x) ≡ true → ⊥) → IsClause t zero_end high u M rest → Met live (falsifies t.marks) (contains M) H → LearnedAt (falsifies (take high t.marks)) (u ∷ rest) u
end-learned t live M rest H zero_end high u con k met =
    let false_ : (q : Literal) → contains (u ∷ rest) q ≡ true → falsifies t.marks q ≡ true = λ q i. elim (contains-cases u rest q i) [ inl e ↦ met.are_false q (rw e k.first) | inr n ↦ met.are_false q (k.low q n).0 ] in
    record {
      below = λ q i. elim (contains-cases u rest q i) [ inl e ↦ inl e | inr n ↦ let l = k.low q n in inr (falsifies-first t.marks high q (met.are_false q l.0) l.1.1) ];
      not_true = λ q i. not_true (falsifies (take high t.marks) (negation q)) (λ h. con q (false_ q i) (falsifies-take t.marks high (negation q) h));
    }
