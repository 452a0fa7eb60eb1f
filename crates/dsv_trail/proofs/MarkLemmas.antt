-- Marks by variable, and how many there can be.
use Rattle.std.proofs.Common.{◌≡◌, ◌≢◌, ℕ, ◌<◌, ◌==◌, Bool, true, false, not, cond, List, [], ◌∷◌, ◌++◌, ◌⊎◌, refl, arith, ap, sym, ◌∙◌, inl, inr, length, zero, suc, slice_get, slice_index_or, slice_set, get_or, set, get_or-set_other, get_or-set_same, map, eqb, Option, Some, None, IsSome}
use Rattle.std.specs.List.{list_any}
use Rattle.std.proofs.lemmas.Bool.{eqb-true, eq-eqb}
use Rattle.std.proofs.lemmas.Bool.Decides.{Decides-eqb}
use Rattle.std.proofs.lemmas.List.{length-map}
use Rattle.std.proofs.lemmas.Map.Made.{IsDistinct-from_AllPairs}
use Rattle.std.proofs.lemmas.Map.Steps.{length-le_from_distinct_below}
use Rattle.std.proofs.lemmas.Option.{slice_get_within, slice_get-get_or}
use Rattle.dsv_cnf.specs.Literal.{Literal, bool_eq, negation}
use Rattle.dsv_cnf.proofs.LiteralLemmas.{or_cases, bool_eq-same}
use Rattle.dsv_trail.proofs.Elements.{some-inside, push-cases, push-left, push-new}
use Rattle.dsv_trail.specs.Marks.{literal_at, literal_in, mark_of, sign_of, value_by, value_of, AreMarks, IsOpen, IsSet}
use Rattle.dsv_trail.specs.MarkListInside.{IsMarkList}
use Rattle.dsv_trail.specs.declared.marks.Mark.{Mark}
use Rattle.dsv_trail.specs.declared.marks.MarkList.TheInside.{Inside}

-- ---- the mark of a variable

cond-cases : {X : Type 0} (b : Bool) (x y : X) → ((b ≡ true) × (cond b x y ≡ x)) ⊎ ((b ≡ false) × (cond b x y ≡ y))
cond-cases true x y = inl (refl, refl)
cond-cases false x y = inr (refl, refl)

no_both : (b : Bool) → b ≡ true → b ≡ false → ⊥
no_both b t f = cc

mark-cases : (m : Mark) (ms : List Mark) (v : ℕ) → ((m.literal.var ≡ v) × (mark_of (m ∷ ms) v ≡ Some m)) ⊎ ((m.literal.var ≢ v) × (mark_of (m ∷ ms) v ≡ mark_of ms v))
mark-cases m ms v =
    elim (cond-cases (m.literal.var == v) (Some m) (mark_of ms v)) [
      | inl a ↦ inl (eqb-true m.literal.var v a.0, a.1)
      | inr b ↦ inr ((λ e. no_both (m.literal.var == v) (eq-eqb m.literal.var v e) b.0), b.1)
    ]

-- where a variable's mark is
pub record Found (ms : List Mark) (v : ℕ) (m : Mark) : Type 0 where
  pub place : ℕ
  pub at : slice_get ms place ≡ Some m
  pub is : m.literal.var ≡ v

pub found : (ms : List Mark) (v : ℕ) (m : Mark) → mark_of ms v ≡ Some m → Found ms v m
found [] v m h = cc
found (n ∷ ns) v m h =
    elim (mark-cases n ns v) [
      | inl a ↦ let s : n ≡ m = some-inside n m (sym a.1 ∙ h) in record { place = 0; at = ap Some s; is = rw s at a.0 }
      | inr b ↦ let r = found ns v m (sym b.1 ∙ h) in record { place = suc r.place; at = r.at; is = r.is }
    ]

-- a variable that has a mark isn't open
pub not-open : (ms : List Mark) (i v : ℕ) (m : Mark) → slice_get ms i ≡ Some m → m.literal.var ≡ v → IsOpen ms v → ⊥
not-open [] i v m at e o = cc
not-open (n ∷ ns) zero v m at e o =
    elim (mark-cases n ns v) [
      | inl a ↦ let f : Some n ≡ None = sym a.1 ∙ o in cc
      | inr b ↦ b.0 (ap (λ (x : Mark). x.literal.var) (some-inside n m at) ∙ e)
    ]
not-open (n ∷ ns) (suc i) v m at e o =
    elim (mark-cases n ns v) [
      | inl a ↦ let f : Some n ≡ None = sym a.1 ∙ o in cc
      | inr b ↦ not-open ns i v m at e (sym b.1 ∙ o)
    ]

-- ---- the lists by variable

pub placed-pushed : (vars : ℕ) (places : List ℕ) (old new : List Mark) (m : Mark) (at place : ℕ) → length places ≡ vars → m.literal.var < vars → at ≡ m.literal.var → place ≡ length old → new ≡ old ++ m ∷ [] → IsOpen old m.literal.var
    → ((i : ℕ) (x : Mark) → slice_get old i ≡ Some x → slice_index_or places x.literal.var 0 ≡ i) → (i : ℕ) (x : Mark) → slice_get new i ≡ Some x → slice_index_or (slice_set places at place) x.literal.var 0 ≡ i
placed-pushed vars places old new m at place len lt is pe e o h i x g =
    rw (is, pe)
    (elim (push-cases old m i x (rw e at g)) [
      | inl a ↦ get_or-set_other places m.literal.var x.literal.var (length old) 0 (λ s. not-open old i m.literal.var x a.1 s o) ∙ h i x a.1
      | inr b ↦ rw (← b.1, b.0) (get_or-set_same places m.literal.var (length old) 0 (omega (arith, len, lt)))
    ])

pub over-pushed : (vars : ℕ) (old new : List Mark) (m : Mark) → new ≡ old ++ m ∷ [] → m.literal.var < vars → ((i : ℕ) (x : Mark) → slice_get old i ≡ Some x → x.literal.var < vars) → (i : ℕ) (x : Mark) → slice_get new i ≡ Some x → x.literal.var < vars
over-pushed vars old new m e lt h i x g = elim (push-cases old m i x (rw e at g)) [ inl a ↦ h i x a.1 | inr b ↦ rw b.1 at lt ]

-- ---- the last mark is taken away

pub option-cases : {X : Type 0} (o : Option X) → (o ≡ None) ⊎ ((x : X) × (o ≡ Some x))
option-cases None = inl refl
option-cases (Some x) = inr (x, refl)

-- the last mark's variable has no other
pub last-open : (places : List ℕ) (new : List Mark) (m : Mark) → ((i : ℕ) (x : Mark) → slice_get (new ++ m ∷ []) i ≡ Some x → slice_index_or places x.literal.var 0 ≡ i) → IsOpen new m.literal.var
last-open places new m h =
    elim (option-cases (mark_of new m.literal.var)) [
      | inl n ↦ n
      | inr s ↦
          let f = found new m.literal.var s.0 s.1 in
          let p = h f.place s.0 (push-left new m f.place s.0 f.at) in
          let q = h (length new) m (push-new new m) in
          let e : f.place ≡ length new = sym p ∙ (ap (λ v. slice_index_or places v 0) f.is ∙ q) in
          absurd (omega (arith, e, slice_get_within new f.place s.0 f.at))
    ]

-- ---- how many marks there are

abbrev var_of : Mark → ℕ
var_of m = m.literal.var

any-below : (ms : List Mark) (n q : ℕ) → ((i : ℕ) (m : Mark) → slice_get ms i ≡ Some m → m.literal.var < n) → list_any (eqb q) (map var_of ms) ≡ true → q < n
any-below [] n q h e = cc
any-below (m ∷ ms) n q h e =
    elim (or_cases (eqb q m.literal.var) (list_any (eqb q) (map var_of ms)) e) [
      | inl a ↦ rw (eqb-true q m.literal.var a) (h zero m refl)
      | inr r ↦ any-below ms n q (λ i x g. h (suc i) x g) r
    ]

any-below-cons : (ms : List Mark) (n v q : ℕ) → v < n → ((i : ℕ) (m : Mark) → slice_get ms i ≡ Some m → m.literal.var < n) → list_any (eqb q) (v ∷ map var_of ms) ≡ true → q < n
any-below-cons ms n v q lt h e =
    elim (or_cases (eqb q v) (list_any (eqb q) (map var_of ms)) e) [
      | inl a ↦ rw (eqb-true q v a) lt
      | inr r ↦ any-below ms n q h r
    ]

record At (ms : List Mark) (i d : ℕ) : Type 0 where
  mark : Mark
  at : slice_get ms i ≡ Some mark
  is : get_or (map var_of ms) i d ≡ mark.literal.var

mark-at : (ms : List Mark) (i d : ℕ) → i < length ms → At ms i d
mark-at [] i d lt = absurd (omega (arith, lt))
mark-at (m ∷ ms) zero d lt = record { mark = m; at = refl; is = refl }
mark-at (m ∷ ms) (suc i) d lt = let r = mark-at ms i d (omega (arith, lt)) in record { mark = r.mark; at = r.at; is = r.is }

-- the variables of the marks after an open one are all different
apart : (ms : List Mark) (n v i j d : ℕ) → AreMarks n ms → IsOpen ms v → i < j → j < length (v ∷ map var_of ms) → get_or (v ∷ map var_of ms) i d ≢ get_or (v ∷ map var_of ms) j d
apart ms n v i zero d a o lt within s = omega (arith, lt)
apart ms n v zero (suc j) d a o lt within s =
    let y = mark-at ms j d (omega (arith, within, length-map ms var_of)) in
    not-open ms j v y.mark y.at (sym y.is ∙ sym s) o
apart ms n v (suc i) (suc j) d a o lt within s =
    let y = mark-at ms j d (omega (arith, within, length-map ms var_of)) in
    let x = mark-at ms i d (omega (arith, lt, within, length-map ms var_of)) in
    let e : i ≡ j = a.distinct i j x.mark y.mark x.at y.at (sym x.is ∙ (s ∙ y.is)) in
    omega (arith, e, lt)

-- with an open variable there are fewer marks than variables
pub few-open : (ms : List Mark) (n v : ℕ) → AreMarks n ms → v < n → IsOpen ms v → length ms < n
few-open ms n v a lt o =
    let c = length-le_from_distinct_below (v ∷ map var_of ms) n (IsDistinct-from_AllPairs Decides-eqb (v ∷ map var_of ms) (λ i j d l w s. apart ms n v i j d a o l w s)) (λ q e. any-below-cons ms n v q lt a.over e) in
    omega (arith, c, length-map ms var_of)

-- ---- the list of marks

-- what callers know of the marks
pub marks-inside : (l : Inside) → IsMarkList l → AreMarks l.vars l.marks.items
marks-inside l h =
    record {
      few = h.few;
      over = h.over;
      distinct = λ i j m n f g e. sym (h.placed i m f) ∙ (ap (λ v. slice_index_or l.places.items v 0) e ∙ h.placed j n g);
    }

pub some-of : {X : Type 0} (o : Option X) → IsSome o → (x : X) × (o ≡ Some x)
some-of None h = absurd cc
some-of (Some x) h = (x, refl)

pub any-default : (xs : List ℕ) (i c d : ℕ) → i < length xs → get_or xs i c ≡ get_or xs i d
any-default xs i c d lt = some-inside (get_or xs i c) (get_or xs i d) (sym (slice_get-get_or xs i c lt) ∙ slice_get-get_or xs i d lt)

-- the mark of a variable stands at its place
pub record Standing (ms : List Mark) (v place : ℕ) : Type 0 where
  pub mark : Mark
  pub at : slice_get ms place ≡ Some mark
  pub is : mark_of ms v ≡ Some mark

pub standing : (l : Inside) (v place : ℕ) → IsMarkList l → v < l.vars → IsSet l.marks.items v → place ≡ get_or l.places.items v place → Standing l.marks.items v place
standing l v place h lt set e =
    let s = some-of (mark_of l.marks.items v) set in
    let f = found l.marks.items v s.0 s.1 in
    let d : get_or l.places.items v place ≡ get_or l.places.items v 0 = any-default l.places.items v place 0 (omega (arith, lt, h.places)) in
    let p : get_or l.places.items v 0 ≡ f.place = ap (λ x. get_or l.places.items x 0) (sym f.is) ∙ h.placed f.place s.0 f.at in
    let same : place ≡ f.place = e ∙ (d ∙ p) in
    record { mark = s.0; at = ap (slice_get l.marks.items) same ∙ f.at; is = s.1 }

-- ---- values

same_sign : (p q : Bool) → Some (bool_eq p q) ≡ Some true → p ≡ q
same_sign true true h = refl
same_sign true false h = absurd cc
same_sign false true h = absurd cc
same_sign false false h = refl

other_sign : (p q : Bool) → Some (bool_eq p q) ≡ Some false → p ≡ not q
other_sign true true h = absurd cc
other_sign true false h = refl
other_sign false true h = refl
other_sign false false h = absurd cc

bool_eq-not : (p : Bool) → bool_eq p (not p) ≡ false
bool_eq-not true = refl
bool_eq-not false = refl

same_literal : (m : Mark) (v : ℕ) (p : Bool) → m.literal.var ≡ v → m.literal.positive ≡ p → let l : Literal = record { var = v; positive = p } in m.literal ≡ l
same_literal m v p e f = rw (← e, ← f) refl

literal-place : (ms : List Mark) (v : ℕ) (m : Mark) (l : Literal) → Found ms v m → m.literal ≡ l → (i : ℕ) × (literal_at ms i ≡ Some l)
literal-place ms v m l f e = (f.place, ap literal_in f.at ∙ ap Some e)

-- a literal with this sign that has a value stands among the marks, or its negation does
pub literal-stands : (ms : List Mark) (l : Literal) (o : Option Mark) → mark_of ms l.var ≡ o → value_by (sign_of o) l.positive ≡ Some true → (i : ℕ) × (literal_at ms i ≡ Some l)
literal-stands ms l None e h = absurd cc
literal-stands ms l (Some m) e h = let f = found ms l.var m e in literal-place ms l.var m l f (same_literal m l.var l.positive f.is (same_sign m.literal.positive l.positive h))

pub negation-stands : (ms : List Mark) (l : Literal) (o : Option Mark) → mark_of ms l.var ≡ o → value_by (sign_of o) l.positive ≡ Some false → (i : ℕ) × (literal_at ms i ≡ Some (negation l))
negation-stands ms l None e h = absurd cc
negation-stands ms l (Some m) e h = let f = found ms l.var m e in literal-place ms l.var m (negation l) f (same_literal m l.var (not l.positive) f.is (other_sign m.literal.positive l.positive h))

-- the mark at a place is its variable's
pub mark_of-at : (n : ℕ) (ms : List Mark) (i : ℕ) (m : Mark) → AreMarks n ms → slice_get ms i ≡ Some m → mark_of ms m.literal.var ≡ Some m
mark_of-at n ms i m a at =
    elim (option-cases (mark_of ms m.literal.var)) [
      | inl o ↦ absurd (not-open ms i m.literal.var m at refl o)
      | inr s ↦
          let f = found ms m.literal.var s.0 s.1 in
          let e : f.place ≡ i = a.distinct f.place i s.0 m f.at at f.is in
          let same : s.0 ≡ m = some-inside s.0 m (sym f.at ∙ (ap (slice_get ms) e ∙ at)) in
          s.1 ∙ ap Some same
    ]

literal-mark : (o : Option Mark) (l : Literal) → literal_in o ≡ Some l → (m : Mark) × ((o ≡ Some m) × (m.literal ≡ l))
literal-mark None l h = absurd cc
literal-mark (Some m) l h = (m, (refl, some-inside m.literal l h))

pub literal-true : (n : ℕ) (ms : List Mark) (i : ℕ) (l : Literal) → AreMarks n ms → literal_at ms i ≡ Some l → value_of ms l ≡ Some true
literal-true n ms i l a h =
    let m = literal-mark (slice_get ms i) l h in
    rw (← m.1.1, mark_of-at n ms i m.0 a m.1.0) (ap Some (bool_eq-same m.0.literal.positive))

pub negation-false : (n : ℕ) (ms : List Mark) (i : ℕ) (l : Literal) → AreMarks n ms → literal_at ms i ≡ Some l → value_of ms (negation l) ≡ Some false
negation-false n ms i l a h =
    let m = literal-mark (slice_get ms i) l h in
    rw (← m.1.1, mark_of-at n ms i m.0 a m.1.0) (ap Some (bool_eq-not m.0.literal.positive))
