-- Literals that marks make false, and their places.
use Rattle.std.proofs.Common.{◌≡◌, ◌≢◌, ℕ, ◌+◌, ◌*◌, ◌<◌, Bool, true, false, ◌||◌, cond, List, [], ◌∷◌, ◌++◌, ◌⊎◌, refl, arith, ap, sym, ◌∙◌, inl, inr, length, take, zero, suc, add-one, slice_get, get_or, set, get_or-set_other, get_or-set_same, Option, Some, None, IsSome}
use Rattle.std.specs.List.{All, Contains}
use Rattle.std.proofs.lemmas.Bool.{cases_eq, cases_lt, eq-eqb}
use Rattle.std.proofs.lemmas.List.{take_more}
use Rattle.std.proofs.lemmas.List.Elements.{All-cons, All-nil}
use Rattle.std.proofs.lemmas.Option.{slice_get_within, get_or_from_slice_get}
use Rattle.dsv_cnf.specs.Literal.{Literal, code_of, literal_eq, negation}
use Rattle.dsv_cnf.specs.Formula.{contains}
use Rattle.dsv_cnf.proofs.LiteralLemmas.{or_cases, same_literal, literal_eq-code, literal_eq-same, code-below, negation-twice}
use Rattle.dsv_cnf.proofs.ClauseLemmas.{or_true, not_true, no_both, contains-head, contains-tail, contains-cases}
use Rattle.dsv_trail.specs.TrailView.{TrailView}
use Rattle.dsv_trail.specs.Marks.{level_in, level_of, literal_at, literal_in, mark_of, sign_of, value_by, value_of, AreMarks, IsOpen, IsSet}
use Rattle.dsv_trail.specs.Levels.{after_back, IsLimit, IsLevelOf, IsTrail}
use Rattle.dsv_trail.specs.Justification.{IsReason}
use Rattle.dsv_trail.specs.Places.{falsifies, place_of}
use Rattle.dsv_trail.specs.MarkListInside.{IsMarkList}
use Rattle.dsv_trail.specs.declared.marks.Mark.{Mark}
use Rattle.dsv_trail.specs.declared.marks.MarkList.TheInside.{Inside}
use Rattle.dsv_trail.proofs.Elements.{some-inside}
use Rattle.dsv_trail.proofs.MarkLemmas.{any-default, found, literal-true, mark_of-at, negation-false, not-open, option-cases, some-of}

-- ---- one mark more

or_assoc : (a b c : Bool) → (a || (b || c)) ≡ ((a || b) || c)
or_assoc true b c = refl
or_assoc false b c = refl

or_false : (a : Bool) → (a || false) ≡ a
or_false true = refl
or_false false = refl

-- literals are compared by their numbers
same_code : (n q : Literal) → code_of q ≡ code_of n → literal_eq n q ≡ true
same_code n q e = literal_eq-code n q ∙ eq-eqb (code_of n) (code_of q) (sym e)

other_code : (n q : Literal) → code_of q ≢ code_of n → literal_eq n q ≡ false
other_code n q e = not_true (literal_eq n q) (λ h. e (ap code_of (sym (same_literal n q h))))

pub falsifies-push : (ms : List Mark) (m : Mark) (l : Literal) → falsifies (ms ++ m ∷ []) l ≡ (falsifies ms l || literal_eq (negation m.literal) l)
falsifies-push [] m l = or_false (literal_eq (negation m.literal) l)
falsifies-push (n ∷ ns) m l = ap (λ x. literal_eq (negation n.literal) l || x) (falsifies-push ns m l) ∙ or_assoc (literal_eq (negation n.literal) l) (falsifies ns l) (literal_eq (negation m.literal) l)

pub falsifies-more : (ms : List Mark) (m : Mark) (l : Literal) → falsifies ms l ≡ true → falsifies (ms ++ m ∷ []) l ≡ true
falsifies-more ms m l h = falsifies-push ms m l ∙ or_true (falsifies ms l) (literal_eq (negation m.literal) l) (inl h)

pub falsifies-new : (ms : List Mark) (m : Mark) → falsifies (ms ++ m ∷ []) (negation m.literal) ≡ true
falsifies-new ms m = falsifies-push ms m (negation m.literal) ∙ or_true (falsifies ms (negation m.literal)) (literal_eq (negation m.literal) (negation m.literal)) (inr (literal_eq-same (negation m.literal)))

pub falsifies-cases : (ms : List Mark) (m : Mark) (l : Literal) → falsifies (ms ++ m ∷ []) l ≡ true → (falsifies ms l ≡ true) ⊎ (l ≡ negation m.literal)
falsifies-cases ms m l h =
    elim (or_cases (falsifies ms l) (literal_eq (negation m.literal) l) (sym (falsifies-push ms m l) ∙ h)) [ inl a ↦ inl a | inr b ↦ inr (sym (same_literal (negation m.literal) l b)) ]

-- ---- a list's beginning

pub falsifies-take : (ms : List Mark) (k : ℕ) (l : Literal) → falsifies (take k ms) l ≡ true → falsifies ms l ≡ true
falsifies-take [] zero l h = h
falsifies-take [] (suc k) l h = h
falsifies-take (m ∷ ms) zero l h = cc
falsifies-take (m ∷ ms) (suc k) l h =
    or_true (literal_eq (negation m.literal) l) (falsifies ms l)
    (elim (or_cases (literal_eq (negation m.literal) l) (falsifies (take k ms) l) h) [ inl e ↦ inl e | inr r ↦ inr (falsifies-take ms k l r) ])

pub falsifies-at : (ms : List Mark) (i : ℕ) (m : Mark) → slice_get ms i ≡ Some m → falsifies ms (negation m.literal) ≡ true
falsifies-at [] i m e = cc
falsifies-at (n ∷ ns) zero m e = or_true (literal_eq (negation n.literal) (negation m.literal)) (falsifies ns (negation m.literal)) (inl (rw (some-inside n m e) (literal_eq-same (negation m.literal))))
falsifies-at (n ∷ ns) (suc i) m e = or_true (literal_eq (negation n.literal) (negation m.literal)) (falsifies ns (negation m.literal)) (inr (falsifies-at ns i m e))

pub take-at : (ms : List Mark) (i : ℕ) (m : Mark) → slice_get ms i ≡ Some m → take (i + 1) ms ≡ take i ms ++ m ∷ []
take-at ms i m e = take_more ms i m (slice_get_within ms i m e) ∙ ap (λ x. take i ms ++ x ∷ []) (get_or_from_slice_get ms i m m e)

-- ---- places

place_cond : (n : ℕ) (b : Bool) → ((b ≡ true) × (cond b 0 n ≡ 0)) ⊎ ((b ≡ false) × (cond b 0 n ≡ n))
place_cond n true = inl (refl, refl)
place_cond n false = inr (refl, refl)

place-cases : (m : Mark) (ms : List Mark) (l : Literal) → ((literal_eq (negation m.literal) l ≡ true) × (place_of (m ∷ ms) l ≡ 0)) ⊎ ((literal_eq (negation m.literal) l ≡ false) × (place_of (m ∷ ms) l ≡ suc (place_of ms l)))
place-cases m ms l = elim (place_cond (place_of ms l + 1) (literal_eq (negation m.literal) l)) [ inl a ↦ inl a | inr b ↦ inr (b.0, b.1 ∙ add-one (place_of ms l)) ]

pub record Placed (ms : List Mark) (l : Literal) : Type 0 where
  pub mark : Mark
  pub at : slice_get ms (place_of ms l) ≡ Some mark
  pub is : negation mark.literal ≡ l

pub place-is : (ms : List Mark) (l : Literal) → falsifies ms l ≡ true → Placed ms l
place-is [] l h = cc
place-is (m ∷ ms) l h =
    elim (place-cases m ms l) [
      | inl a ↦ record { mark = m; at = rw a.1 refl; is = same_literal (negation m.literal) l a.0 }
      | inr b ↦
          let r : falsifies ms l ≡ true = elim (or_cases (literal_eq (negation m.literal) l) (falsifies ms l) h) [ inl x ↦ absurd (no_both (literal_eq (negation m.literal) l) x b.0) | inr y ↦ y ] in
          let p = place-is ms l r in
          record { mark = p.mark; at = rw b.1 p.at; is = p.is }
    ]

pub place-first : (ms : List Mark) (k : ℕ) (l : Literal) → falsifies (take k ms) l ≡ true → place_of ms l < k
place-first [] zero l h = cc
place-first [] (suc k) l h = cc
place-first (m ∷ ms) zero l h = cc
place-first (m ∷ ms) (suc k) l h =
    elim (place-cases m ms l) [
      | inl a ↦ rw a.1 (omega arith)
      | inr b ↦
          let r : falsifies (take k ms) l ≡ true = elim (or_cases (literal_eq (negation m.literal) l) (falsifies (take k ms) l) h) [ inl x ↦ absurd (no_both (literal_eq (negation m.literal) l) x b.0) | inr y ↦ y ] in
          let i = place-first ms k l r in
          rw b.1 (omega (arith, i))
    ]

pub falsifies-first : (ms : List Mark) (k : ℕ) (l : Literal) → falsifies ms l ≡ true → place_of ms l < k → falsifies (take k ms) l ≡ true
falsifies-first [] zero l h lt = h
falsifies-first [] (suc k) l h lt = h
falsifies-first (m ∷ ms) zero l h lt = absurd (omega arith)
falsifies-first (m ∷ ms) (suc k) l h lt =
    or_true (literal_eq (negation m.literal) l) (falsifies (take k ms) l)
    (elim (place-cases m ms l) [
      | inl a ↦ inl a.0
      | inr b ↦
          let r : falsifies ms l ≡ true = elim (or_cases (literal_eq (negation m.literal) l) (falsifies ms l) h) [ inl x ↦ absurd (no_both (literal_eq (negation m.literal) l) x b.0) | inr y ↦ y ] in
          let q : suc (place_of ms l) < suc k = rw b.1 at lt in
          inr (falsifies-first ms k l r (omega (arith, q)))
    ])

earlier : (ms : List Mark) (i : ℕ) (m : Mark) → slice_get ms i ≡ Some m → falsifies (take (i + 1) ms) (negation m.literal) ≡ true
earlier ms i m e = rw (take-at ms i m e) (falsifies-new (take i ms) m)

pub place-at : (ms : List Mark) (i : ℕ) (m : Mark) → slice_get ms i ≡ Some m → falsifies (take i ms) (negation m.literal) ≡ false → falsifies ms (negation m.literal) ≡ true → place_of ms (negation m.literal) ≡ i
place-at ms i m e n h =
    let p = place-is ms (negation m.literal) h in
    elim (cases_lt (place_of ms (negation m.literal)) i) [
      | inl lt ↦ absurd (no_both (falsifies (take i ms) (negation m.literal)) (falsifies-first ms i (negation m.literal) h lt) n)
      | inr ge ↦
          elim (cases_eq (place_of ms (negation m.literal)) i) [
            | inl same ↦ same
            | inr other ↦ let lt : place_of ms (negation m.literal) < i + 1 = place-first ms (i + 1) (negation m.literal) (earlier ms i m e) in omega (arith, ge, other, lt)
          ]
    ]

-- ---- what the trail says of a literal, and that it is false

-- a false literal has the value false
pub false-value : (n : ℕ) (ms : List Mark) (l : Literal) → AreMarks n ms → falsifies ms l ≡ true → value_of ms l ≡ Some false
false-value n ms l a h =
    let p = place-is ms l h in
    let back : negation (negation l) ≡ l = negation-twice l in
    let same : p.mark.literal ≡ negation l = sym (negation-twice p.mark.literal) ∙ ap negation p.is in
    let at : literal_at ms (place_of ms l) ≡ Some (negation l) = ap literal_in p.at ∙ ap Some same in
    ap (value_of ms) (sym back) ∙ negation-false n ms (place_of ms l) (negation l) a at

-- and one whose negation is false has the value true
pub true-value : (n : ℕ) (ms : List Mark) (l : Literal) → AreMarks n ms → falsifies ms (negation l) ≡ true → value_of ms l ≡ Some true
true-value n ms l a h =
    let p = place-is ms (negation l) h in
    let same : p.mark.literal ≡ l = sym (negation-twice p.mark.literal) ∙ (ap negation p.is ∙ negation-twice l) in
    literal-true n ms (place_of ms (negation l)) l a (ap literal_in p.at ∙ ap Some same)

-- an open variable's literals have no value
pub open-value : (ms : List Mark) (l : Literal) → IsOpen ms l.var → value_of ms l ≡ None
open-value ms l o = ap (λ m. value_by (sign_of m) l.positive) o

-- an open variable's literals aren't false
pub open-not_false : (ms : List Mark) (l : Literal) → IsOpen ms l.var → falsifies ms l ≡ false
open-not_false ms l o =
    not_true (falsifies ms l) (λ h. let p = place-is ms l h in not-open ms (place_of ms l) l.var p.mark p.at (ap (λ (q : Literal). q.var) p.is) o)

by_sign : (m l : Literal) (p q : Bool) → m.positive ≡ p → l.positive ≡ q → m.var ≡ l.var → (negation m ≡ l) ⊎ (negation m ≡ negation l)
by_sign m l true true e f v = inr (rw (e, f, v) refl)
by_sign m l true false e f v = inl (let g : l ≡ record { var = l.var; positive = false } = ap (λ b. let x : Literal = record { var = l.var; positive = b } in x) f in rw (e, v, g) refl)
by_sign m l false true e f v = inl (let g : l ≡ record { var = l.var; positive = true } = ap (λ b. let x : Literal = record { var = l.var; positive = b } in x) f in rw (e, v, g) refl)
by_sign m l false false e f v = inr (rw (e, f, v) refl)

-- of a set variable one literal is false
pub set-false : (ms : List Mark) (l : Literal) (m : Mark) → mark_of ms l.var ≡ Some m → (falsifies ms l ≡ true) ⊎ (falsifies ms (negation l) ≡ true)
set-false ms l m e =
    let f = found ms l.var m e in
    let g = falsifies-at ms f.place m f.at in
    elim (by_sign m.literal l m.literal.positive l.positive refl refl f.is) [ inl x ↦ inl (rw x at g) | inr y ↦ inr (rw y at g) ]

-- a variable neither of whose literals is false is open
pub open-of : (ms : List Mark) (l : Literal) → falsifies ms l ≡ false → falsifies ms (negation l) ≡ false → IsOpen ms l.var
open-of ms l f g =
    elim (option-cases (mark_of ms l.var)) [
      | inl o ↦ o
      | inr s ↦ absurd (elim (set-false ms l s.0 s.1) [ inl a ↦ no_both (falsifies ms l) a f | inr b ↦ no_both (falsifies ms (negation l)) b g ])
    ]

-- of a set variable one literal is false
pub set-cases : (ms : List Mark) (l : Literal) → IsSet ms l.var → (falsifies ms l ≡ true) ⊎ (falsifies ms (negation l) ≡ true)
set-cases ms l h = let s = some-of (mark_of ms l.var) h in set-false ms l s.0 s.1

-- a false literal's variable is set, and has the level of its place
mark-of-false : (n : ℕ) (ms : List Mark) (l : Literal) → AreMarks n ms → falsifies ms l ≡ true → (m : Mark) × ((slice_get ms (place_of ms l) ≡ Some m) × (mark_of ms l.var ≡ Some m))
mark-of-false n ms l a h =
    let p = place-is ms l h in
    (p.mark, (p.at, ap (λ (q : Literal). mark_of ms q.var) (sym p.is) ∙ mark_of-at n ms (place_of ms l) p.mark a p.at))

pub set-of-false : (n : ℕ) (ms : List Mark) (l : Literal) → AreMarks n ms → falsifies ms l ≡ true → IsSet ms l.var
set-of-false n ms l a h = let m = mark-of-false n ms l a h in rw m.1.1 refl

pub level-of-false : (t : TrailView) (l : Literal) (level : ℕ) → IsTrail t → falsifies t.marks l ≡ true → level ≡ level_of t.marks l.var → IsLevelOf t.limits (place_of t.marks l) level
level-of-false t l level h f e =
    let m = mark-of-false t.vars t.marks l h.marks f in
    let same : level ≡ m.0.level = e ∙ ap level_in m.1.1 in
    rw same (h.levels.levels (place_of t.marks l) m.0 m.1.0)

-- a mark without a reason begins a level
reason-cases : (o : Option ℕ) → IsSome o ⊎ (o ≡ None)
reason-cases None = inr refl
reason-cases (Some r) = inl refl

pub reason-or-limit : (t : TrailView) (i : ℕ) (m : Mark) → IsTrail t → slice_get t.marks i ≡ Some m → IsSome m.reason ⊎ IsLimit t.limits i
reason-or-limit t i m h e = elim (reason-cases m.reason) [ inl r ↦ inl r | inr n ↦ inr (h.levels.others i m e n) ]

-- back to a level that begins at a place
pub back-at : (t : TrailView) (j k : ℕ) → slice_get t.limits j ≡ Some k → after_back t j ≡ record { vars = t.vars; marks = take k t.marks; limits = take j t.limits }
back-at t j k e = rw (get_or_from_slice_get t.limits j k (length t.marks) e) refl

-- ---- reasons

member-at : (c : List Literal) (l : Literal) → contains c l ≡ true → Contains c l
member-at [] l h = absurd cc
member-at (m ∷ ms) l h = elim (contains-cases m ms l h) [ inl e ↦ (zero, omega arith, sym e) | inr r ↦ let x = member-at ms l r in (suc x.0, omega (arith, x.1), x.2) ]

all-from : (P : Literal → Type 0) (c : List Literal) → ((q : Literal) → contains c q ≡ true → P q) → All P c
all-from P [] h = All-nil P
all-from P (l ∷ ls) h = All-cons P l ls (h l (contains-head l ls)) (all-from P ls (λ q i. h q (contains-tail l ls q i)))

-- a clause that has the literal, and whose others are false, is its reason
pub reason-of : (n : ℕ) (clauses : List (List Literal)) (r : ℕ) (ms : List Mark) (c : List Literal) (l : Literal) → AreMarks n ms → slice_get clauses r ≡ Some c → contains c l ≡ true → ((q : Literal) → contains c q ≡ true → (q ≡ l) ⊎ (falsifies ms q ≡ true)) → IsReason clauses r ms l
reason-of n clauses r ms c l a at has others =
    record {
      clause = c;
      at = at;
      has = member-at c l has;
      others = all-from (λ q. (q ≡ l) ⊎ (value_of ms q ≡ Some false)) c (λ q i. elim (others q i) [ inl e ↦ inl e | inr f ↦ inr (false-value n ms q a f) ]);
    }

-- ---- false literals and places as they are kept

-- which literals are false, once a literal more is true
pub false-pushed : (vars : ℕ) (falses : List Bool) (old new : List Mark) (m : Mark) (at : ℕ) → length falses ≡ 2 * vars → m.literal.var < vars → at ≡ code_of (negation m.literal) → new ≡ old ++ m ∷ []
    → ((q : Literal) → q.var < vars → get_or falses (code_of q) false ≡ falsifies old q) → (q : Literal) → q.var < vars → get_or (set falses at true) (code_of q) false ≡ falsifies new q
false-pushed vars falses old new m at len lt is e h q ql =
    let n = negation m.literal in
    rw (e, is)
    (elim (cases_eq (code_of q) (code_of n)) [
      | inl same ↦
          ap (λ k. get_or (set falses (code_of n) true) k false) same
          ∙ get_or-set_same falses (code_of n) true false (omega (arith, len, code-below n vars lt))
          ∙ sym (falsifies-push old m q ∙ or_true (falsifies old q) (literal_eq n q) (inr (same_code n q same)))
      | inr other ↦
          get_or-set_other falses (code_of n) (code_of q) true false other
          ∙ h q ql
          ∙ sym (falsifies-push old m q ∙ ap (λ b. falsifies old q || b) (other_code n q other) ∙ or_false (falsifies old q))
    ])

-- and once the last literal is taken away
pub false-popped : (vars : ℕ) (falses : List Bool) (old new : List Mark) (m : Mark) (at : ℕ) → length falses ≡ 2 * vars → m.literal.var < vars → at ≡ code_of (negation m.literal) → old ≡ new ++ m ∷ [] → IsOpen new m.literal.var
    → ((q : Literal) → q.var < vars → get_or falses (code_of q) false ≡ falsifies old q) → (q : Literal) → q.var < vars → get_or (set falses at false) (code_of q) false ≡ falsifies new q
false-popped vars falses old new m at len lt is e o h q ql =
    let n = negation m.literal in
    rw is
    (elim (cases_eq (code_of q) (code_of n)) [
      | inl same ↦
          ap (λ k. get_or (set falses (code_of n) false) k false) same
          ∙ get_or-set_same falses (code_of n) false false (omega (arith, len, code-below n vars lt))
          ∙ sym (ap (falsifies new) (sym (same_literal n q (same_code n q same))) ∙ open-not_false new n o)
      | inr other ↦
          get_or-set_other falses (code_of n) (code_of q) false false other
          ∙ h q ql
          ∙ ap (λ ms. falsifies ms q) e
          ∙ falsifies-push new m q
          ∙ ap (λ b. falsifies new q || b) (other_code n q other)
          ∙ or_false (falsifies new q)
    ])

pub place-kept : (l : Inside) (q : Literal) (place : ℕ) → IsMarkList l → falsifies l.marks.items q ≡ true → place ≡ get_or l.places.items q.var place → place ≡ place_of l.marks.items q
place-kept l q place h f e =
    let p = place-is l.marks.items q f in
    let v : p.mark.literal.var ≡ q.var = ap (λ (x : Literal). x.var) p.is in
    let lt : q.var < l.vars = rw v at (h.over (place_of l.marks.items q) p.mark p.at) in
    e ∙ (any-default l.places.items q.var place 0 (omega (arith, lt, h.places)) ∙ (ap (λ x. get_or l.places.items x 0) (sym v) ∙ h.placed (place_of l.marks.items q) p.mark p.at))
