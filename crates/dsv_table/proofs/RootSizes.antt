-- What the bounds of a root size mean, that they are the only ones, and that the search for them ends.
use Rattle.std.proofs.Common.{◌≡◌, ℕ, zero, suc, ◌+◌, ◌-◌, ◌<◌, ◌⊎◌, Bool, true, false, List, [], ◌∷◌, ◌++◌, length, length-append, inl, inr, refl, sym, ap, subst, ◌∙◌, arith}
use Rattle.std.proofs.Math.IntN.{ℤ, pos, negsuc, ◌+ℤ◌, ◌-ℤ◌, ◌*ℤ◌}
use Rattle.std.proofs.lemmas.Int.{ints}
use Rattle.std.proofs.Math.ListN.{get_or-append}
use Rattle.std.proofs.Math.Seq.{get_or-append_seam}
use lib.Signed.{◌<ℤ◌, ◌≤ℤ◌}
use Rattle.dsv_algebra.specs.Vectors.{Vector, Matrix, form_at, vector_of}
use Rattle.dsv_algebra.specs.Falling.{power, step, StrictlyFalls}
use Rattle.dsv_algebra.specs.Companion.{companion}
use Rattle.dsv_algebra.proofs.Normaliser.{ring, env, var, num, plus, times}
use Rattle.dsv_algebra.proofs.Signs.{mul_positive}
use Rattle.dsv_algebra.proofs.KeptAway.{power_positive}
use Rattle.dsv_apart.proofs.Bounds.{times_at_most}
use Rattle.dsv_apart.proofs.Apart.{nothing_both}
use Rattle.dsv_table.specs.Table.{verdict_from}
use Rattle.dsv_table.specs.Verdicts.{IsShown, HasFallingForm, HasKeptAwayForm}
use Rattle.dsv_table.specs.Rates.{scaled, HasFallAtRate, HasKeptAwayAtRate}
use Rattle.dsv_table.specs.RootSize.{parts, is_inside, is_inside_at, RootSizeView, IsRootSize, RootSizesAreShown, OneRootSize}
use Rattle.dsv_table.specs.Search.{ArePowers, IsBracket, raised_least}
use Rattle.dsv_table.specs.declared.verdict.TableVerdict.{TableVerdict}
use Rattle.dsv_table.specs.declared.verdict.TableVerdict.TheVariants as verdict
use Rattle.dsv_table.proofs.Sides.{either}
use Rattle.dsv_table.proofs.Lists.{entries_more}
use Rattle.dsv_table.proofs.Verdicts.{decides}
use Rattle.dsv_table.proofs.Rates.{lead_of, falls_at_rate}
use Rattle.dsv_table.proofs.RatesAway.{kept_away_at_rate}
use Rattle.dsv_table.proofs.Dominance.{root_bound, far_inside}
use Rattle.dsv_table.proofs.Circle.{apart}

-- ---- one table
true_false : true ≡ false → ⊥
true_false e = grind (arith)

pub parts_positive : pos 0 <ℤ parts
unfolding parts
parts_positive = omega (arith, ints)

pub shown_inside : (v : TableVerdict) (d : ℕ) (c : Vector) → is_inside v ≡ true → IsShown v d c → HasFallingForm d c
shown_inside verdict.Inside d c h s = s
shown_inside (verdict.NotInside row) d c h s = absurd (grind (arith))

pub shown_outside : (v : TableVerdict) (d : ℕ) (c : Vector) → is_inside v ≡ false → IsShown v d c → HasKeptAwayForm d c
shown_outside verdict.Inside d c h s = absurd (grind (arith))
shown_outside (verdict.NotInside row) d c h s = s

order : (cs : List ℤ) → 1 < length cs → length cs - 1 ≡ suc (length cs - 2)
order cs h = omega arith

scaled_lead : (e : ℕ) (p s : ℤ) (c : Vector) → pos 0 <ℤ p → pos 0 <ℤ c 0 → pos 0 <ℤ scaled (suc e) p s c 0
scaled_lead e p s c h l = subst (λ z. pos 0 <ℤ z) (sym (lead_of e p s c)) (mul_positive (power p e) (p *ℤ c 0) (power_positive p e h) (mul_positive p (c 0) h l))

abbrev table : ℕ → ℤ → Vector → Bool
table d p c = is_inside (verdict_from d 0 (scaled d p parts c))

falls : (e : ℕ) (p : ℤ) (c : Vector) → pos 0 <ℤ p → pos 0 <ℤ c 0 → table (suc e) p c ≡ true → HasFallAtRate (suc e) p parts c
falls e p c h l t =
    let d = suc e in
    let s = scaled d p parts c in
    falls_at_rate e p parts c (apart p h) (apart parts parts_positive)
    (shown_inside (verdict_from d 0 s) d s t (decides d s (scaled_lead e p parts c h l)))

kept_away : (e : ℕ) (p : ℤ) (c : Vector) → pos 0 <ℤ p → pos 0 <ℤ c 0 → table (suc e) p c ≡ false → HasKeptAwayAtRate (suc e) p parts c
kept_away e p c h l t =
    let d = suc e in
    let s = scaled d p parts c in
    kept_away_at_rate e p parts c (apart p h) (apart parts parts_positive)
    (shown_outside (verdict_from d 0 s) d s t (decides d s (scaled_lead e p parts c h l)))

pub inside_falls : (cs : List ℤ) (p : ℤ) → 1 < length cs → pos 0 <ℤ p → pos 0 <ℤ vector_of cs 0 → is_inside_at p cs ≡ true
    → HasFallAtRate (length cs - 1) p parts (vector_of cs)
inside_falls cs p b h l t =
    let o = order cs b in
    subst (λ d. HasFallAtRate d p parts (vector_of cs)) (sym o)
    (falls (length cs - 2) p (vector_of cs) h l (subst (λ d. table d p (vector_of cs) ≡ true) o t))

pub outside_kept_away : (cs : List ℤ) (p : ℤ) → 1 < length cs → pos 0 <ℤ p → pos 0 <ℤ vector_of cs 0 → is_inside_at p cs ≡ false
    → HasKeptAwayAtRate (length cs - 1) p parts (vector_of cs)
outside_kept_away cs p b h l t =
    let o = order cs b in
    subst (λ d. HasKeptAwayAtRate d p parts (vector_of cs)) (sym o)
    (kept_away (length cs - 2) p (vector_of cs) h l (subst (λ d. table d p (vector_of cs) ≡ false) o t))

-- ---- what both numbers mean
next_positive : (a b : ℤ) → b ≡ a +ℤ pos 1 → pos 0 ≤ℤ a → pos 0 <ℤ b
next_positive a b e h = omega (arith, ints)

other_positive : (a : ℤ) → pos 0 ≤ℤ a → (a ≡ pos 0) ⊎ (pos 0 <ℤ a)
other_positive (pos zero) h = inl refl
other_positive (pos (suc n)) h = inr (omega (arith, ints))
other_positive (negsuc n) h = absurd (omega (arith, ints))

pub root_sizes_are_shown : RootSizesAreShown
root_sizes_are_shown cs size b l s = (
  inside_falls cs size.greatest b (next_positive size.least size.greatest s.next s.least) l s.inside,
  elim s.not_inside [
    | inl e ↦ inl e
    | inr t ↦ elim (other_positive size.least s.least) [
      | inl e ↦ inl e
      | inr p ↦ inr (outside_kept_away cs size.least b p l t)
    ]
  ],
)

-- ---- inside at a number is inside at each greater one
still_falls : (f p q c x : ℤ) → f <ℤ ((p *ℤ c) *ℤ (p *ℤ c) *ℤ x) → pos 0 ≤ℤ p → p ≤ℤ q → pos 0 <ℤ c → pos 0 <ℤ x → f <ℤ ((q *ℤ c) *ℤ (q *ℤ c) *ℤ x)
still_falls f p q c x h pp pq cp xp =
    let qp : pos 0 ≤ℤ q = omega (arith, ints) in
    let a = times_at_most p p q pp pq in
    let b = times_at_most q p q qp pq in
    let e : p *ℤ q ≡ q *ℤ p = ring (env (p ∷ q ∷ [])) (times (var 0) (var 1)) (times (var 1) (var 0)) refl in
    let squares : (p *ℤ p) ≤ℤ (q *ℤ q) = omega (arith, ints, a, b, e) in
    let m = mul_positive (c *ℤ c) x (mul_positive c c cp cp) xp in
    let k = (c *ℤ c) *ℤ x in
    let y = times_at_most k (p *ℤ p) (q *ℤ q) (omega (arith, ints, m)) squares in
    let u : k *ℤ (p *ℤ p) ≡ (p *ℤ c) *ℤ (p *ℤ c) *ℤ x =
    ring (env (c ∷ x ∷ p ∷ [])) (times (times (times (var 0) (var 0)) (var 1)) (times (var 2) (var 2))) (times (times (times (var 2) (var 0)) (times (var 2) (var 0))) (var 1)) refl in
    let v : k *ℤ (q *ℤ q) ≡ (q *ℤ c) *ℤ (q *ℤ c) *ℤ x =
    ring (env (c ∷ x ∷ q ∷ [])) (times (times (times (var 0) (var 0)) (var 1)) (times (var 2) (var 2))) (times (times (times (var 2) (var 0)) (times (var 2) (var 0))) (var 1)) refl in
    omega (arith, ints, h, y, u, v)

slower_falls : (d : ℕ) (p q c : ℤ) (M P : Matrix) → pos 0 ≤ℤ p → p ≤ℤ q → pos 0 <ℤ c → StrictlyFalls d (p *ℤ c) M P → StrictlyFalls d (q *ℤ c) M P
slower_falls d p q c M P pp pq cp f = record {
  positive = f.positive;
  falls = λ v n. still_falls (form_at d P (step d M v)) p q c (form_at d P v) (f.falls v n) pp pq cp (f.positive v n);
}

not_both : (d : ℕ) (p q s : ℤ) (c : Vector) → pos 0 ≤ℤ p → p ≤ℤ q → pos 0 <ℤ c 0 → HasFallAtRate d p s c → HasKeptAwayAtRate d q s c → ⊥
not_both d p q s c pp pq cp (P, f) (W, start, k) =
    let M : Matrix = λ i j. s *ℤ companion c i j in
    nothing_both d (q *ℤ c 0) M P W start (slower_falls d p q (c 0) M P pp pq cp f) k

-- inside at one number and not inside at one that isn't less
pub never_both : (cs : List ℤ) (p q : ℤ) → 1 < length cs → pos 0 <ℤ vector_of cs 0 → pos 0 <ℤ p → p ≤ℤ q
    → is_inside_at p cs ≡ true → is_inside_at q cs ≡ false → ⊥
never_both cs p q b l h pq t u =
    not_both (length cs - 1) p q parts (vector_of cs) (omega (arith, ints, h)) pq l (inside_falls cs p b h l t)
    (outside_kept_away cs q b (omega (arith, ints, h, pq)) l u)

-- ---- one root size
sign_of : (z : ℤ) → (pos 0 <ℤ z) ⊎ (z ≤ℤ pos 0)
sign_of (pos zero) = inr (omega (arith, ints))
sign_of (pos (suc n)) = inl (omega (arith, ints))
sign_of (negsuc n) = inr (omega (arith, ints))

at_most_or_over : (x y : ℤ) → (x ≤ℤ y) ⊎ (y <ℤ x)
at_most_or_over x y = elim (sign_of (x -ℤ y)) [ inl h ↦ inr (omega (arith, ints, h)) | inr h ↦ inl (omega (arith, ints, h)) ]

not_less : (cs : List ℤ) (a b : RootSizeView) → 1 < length cs → pos 0 <ℤ vector_of cs 0 → IsRootSize cs a → IsRootSize cs b → b.least ≤ℤ a.least
not_less cs a b o l s t =
    let an = s.next in
    let al = s.least in
    let bl = t.least in
    elim (at_most_or_over b.least a.least) [
      | inl h ↦ h
      | inr h ↦ elim t.not_inside [
        | inl e ↦ omega (arith, ints, e, al)
        | inr u ↦ absurd (never_both cs a.greatest b.least o l (next_positive a.least a.greatest an al) (omega (arith, ints, an, h)) s.inside u)
      ]
    ]

same_numbers : (a b : RootSizeView) → a.least ≡ b.least → a.greatest ≡ b.greatest → a ≡ b
same_numbers a b e f =
    let with : ℤ → ℤ → RootSizeView = λ x y. record { least = x; greatest = y } in
    ap (λ x. with x a.greatest) e ∙ ap (λ y. with b.least y) f

both_ways : (x y : ℤ) → x ≤ℤ y → y ≤ℤ x → x ≡ y
both_ways x y h k = omega (arith, ints)

pub one_root_size : OneRootSize
one_root_size cs a b o l s t =
    let e : a.least ≡ b.least = both_ways a.least b.least (not_less cs b a o l t s) (not_less cs a b o l s t) in
    same_numbers a b e (s.next ∙ ap (λ z. z +ℤ pos 1) e ∙ sym t.next)

-- ---- the search ends
-- how far a number is from a bound, from below
abbrev pub room : ℤ → ℕ
room (pos n) = n
room (negsuc n) = 0

room_less : (x y : ℤ) → x <ℤ y → pos 0 <ℤ y → room x < room y
room_less (pos m) (pos n) h k = omega (arith, ints)
room_less (negsuc m) (pos zero) h k = absurd (omega (arith, ints))
room_less (negsuc m) (pos (suc n)) h k = omega (arith, ints)
room_less x (negsuc n) h k = absurd (omega (arith, ints))

-- the bound of a polynomial's roots, in parts
abbrev pub bound_of : List ℤ → ℤ
bound_of cs = root_bound (length cs - 1) parts (vector_of cs)

not_far : (e : ℕ) (p : ℤ) (c : Vector) → pos 0 <ℤ c 0 → table (suc e) p c ≡ false → p <ℤ root_bound (suc e) parts c
not_far e p c l t = elim (at_most_or_over (root_bound (suc e) parts c) p) [
  | inl h ↦ absurd (let i = far_inside e p parts c parts_positive l h in true_false (sym (ap is_inside i) ∙ t))
  | inr h ↦ h
]

-- Twice a number at which the polynomial isn't inside is nearer to the bound.
pub nearer : (cs : List ℤ) (p : ℤ) → 1 < length cs → pos 0 <ℤ vector_of cs 0 → pos 0 <ℤ p → is_inside_at p cs ≡ false
    → room (bound_of cs -ℤ (p +ℤ p)) < room (bound_of cs -ℤ p)
nearer cs p b l h t =
    let o = order cs b in
    let k : p <ℤ bound_of cs =
    subst (λ d. p <ℤ root_bound d parts (vector_of cs)) (sym o)
    (not_far (length cs - 2) p (vector_of cs) l (subst (λ d. table d p (vector_of cs) ≡ false) o t)) in
    room_less (bound_of cs -ℤ (p +ℤ p)) (bound_of cs -ℤ p) (omega (arith, ints, h)) (omega (arith, ints, k))

-- ---- the steps of the search

-- one power more
powers_more : (base : ℤ) (k : ℕ) (xs : List ℤ) (x : ℤ) → ArePowers base k xs → x ≡ power base k → ArePowers base (k + 1) (xs ++ x ∷ [])
powers_more base k xs x a e = record {
  places = length-append xs (x ∷ []) ∙ (let p = a.places in omega arith);
  same = entries_more (power base) xs x k a.places a.same e;
}

-- the powers but the last one
powers_fewer : (base : ℤ) (xs ys : List ℤ) (x : ℤ) → ArePowers base (length xs) xs → xs ≡ ys ++ x ∷ []
    → ArePowers base (length ys) ys × (x ≡ power base (length ys)) × (length xs ≡ suc (length ys))
powers_fewer base xs ys x a e =
    let n : length xs ≡ suc (length ys) = ap length e ∙ length-append ys (x ∷ []) ∙ omega arith in (
      record {
        places = refl;
        same = λ i b. sym (ap (λ l. vector_of l i) e ∙ get_or-append ys (x ∷ []) (pos 0) i b) ∙ a.same i (omega arith);
      },
      sym (ap (λ l. vector_of l (length ys)) e ∙ get_or-append_seam ys x [] (pos 0)) ∙ a.same (length ys) (omega arith),
      n,
    )

-- one coefficient more
pub scaled_more : (cs up down xs : List ℤ) (p x : ℤ) (k : ℕ) → k < length cs
    → ArePowers p (length cs) up → ArePowers parts (length cs) down
    → length xs ≡ k → ((i : ℕ) → i < k → vector_of xs i ≡ scaled (length cs - 1) p parts (vector_of cs) i)
    → x ≡ vector_of cs k *ℤ vector_of up (length cs - 1 - k) *ℤ vector_of down k
    → (i : ℕ) → i < k + 1 → vector_of (xs ++ x ∷ []) i ≡ scaled (length cs - 1) p parts (vector_of cs) i
scaled_more cs up down xs p x k b u d l same e =
    entries_more (scaled (length cs - 1) p parts (vector_of cs)) xs x k l same
    (e ∙ rw (u.same (length cs - 1 - k) (omega arith), d.same k b) refl)

pub top_positive : (top : ℤ) (n : ℕ) → top ≡ power (pos 2) n → pos 0 <ℤ top
top_positive top n e = subst (λ z. pos 0 <ℤ z) (sym e) (power_positive (pos 2) n (omega (arith, ints)))

-- a doubling of the search
pub steps_more : (xs ys : List ℤ) (top next : ℤ) → ArePowers (pos 2) (length xs) xs → top ≡ power (pos 2) (length xs) → next ≡ top +ℤ top
    → ys ≡ xs ++ top ∷ [] → ArePowers (pos 2) (length ys) ys × (next ≡ power (pos 2) (length ys))
steps_more xs ys top next a e f g =
    let n = length xs in
    let k : length (xs ++ top ∷ []) ≡ suc n = length-append xs (top ∷ []) ∙ omega arith in
    let o : n + 1 ≡ suc n = omega arith in
    rw (g, k) (
      subst (λ m. ArePowers (pos 2) m (xs ++ top ∷ [])) o (powers_more (pos 2) n xs top a e),
      f ∙ rw e (ring (env (power (pos 2) n ∷ [])) (plus (var 0) (var 0)) (times (num (pos 2)) (var 0)) refl),
    )

-- a step up or none
narrower : (cs : List ℤ) (least : ℤ) (n : ℕ) → IsBracket cs least (suc n) → IsBracket cs (raised_least least (power (pos 2) n) cs) n
narrower cs least n k =
    let s = power (pos 2) n in
    let sp = power_positive (pos 2) n (omega (arith, ints)) in
    let lp = k.not_negative in
    elim (either (is_inside_at (least +ℤ s) cs)) [
      | inl t ↦ rw t (record { not_negative = k.not_negative; inside = t; not_inside = k.not_inside })
      | inr t ↦
          (let e : least +ℤ pos 2 *ℤ s ≡ (least +ℤ s) +ℤ s = ring (env (least ∷ s ∷ [])) (plus (var 0) (times (num (pos 2)) (var 1))) (plus (plus (var 0) (var 1)) (var 1)) refl in
          rw t (record { not_negative = omega (arith, ints, sp, lp); inside = subst (λ z. is_inside_at z cs ≡ true) e k.inside; not_inside = inr t }))
    ]

-- a turn of the bisection
pub step_taken : (cs left rest : List ℤ) (least step higher : ℤ) → ArePowers (pos 2) (length left) left → IsBracket cs least (length left)
    → left ≡ rest ++ step ∷ [] → higher ≡ raised_least least step cs → ArePowers (pos 2) (length rest) rest × IsBracket cs higher (length rest)
step_taken cs left rest least step higher a k e h =
    let f = powers_fewer (pos 2) left rest step a e in (
      f.0,
      rw (h, f.1) (narrower cs least (length rest) (subst (λ n. IsBracket cs least n) f.2 k)),
    )
