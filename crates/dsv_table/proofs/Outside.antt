-- A polynomial whose table has a first number that isn't positive has a form that keeps a trajectory away from 0.
use Rattle.std.proofs.Common.{◌≡◌, ◌≢◌, ℕ, zero, suc, ◌+◌, ◌-◌, ◌<◌, ◌≤◌, ◌⊎◌, nat_lt, if◌then◌else◌, [], ◌∷◌, inl, inr, refl, sym, ap, ◌∙◌, arith}
use Rattle.std.proofs.Math.IntN.{ℤ, pos, negsuc, ◌+ℤ◌, ◌-ℤ◌, ◌*ℤ◌, *ℤ_comm, +ℤ_idl}
use Rattle.std.proofs.lemmas.Int.{ints}
use Rattle.std.proofs.lemmas.Bool.{cases_lt}
use Rattle.std.proofs.lemmas.Bool.Decides.{nat_tests}
use lib.Signed.{◌<ℤ◌, ◌≤ℤ◌}
use Rattle.dsv_algebra.specs.Vectors.{Vector, sum_to, form_at}
use Rattle.dsv_algebra.proofs.Normaliser.{ring, env, var, num, plus, times, minus}
use Rattle.dsv_algebra.proofs.Signs.{mul_positive, square_positive}
use Rattle.dsv_algebra.proofs.Sums.{sum_same, sum_none, sum_scale, sum_add}
use Rattle.dsv_table.specs.SchurCohn.{schur_cohn}
use Rattle.dsv_table.specs.Table.{row_after}
use Rattle.dsv_table.specs.Verdicts.{HasKeptAwayForm}
use Rattle.dsv_table.proofs.Sides.{IsOutside}
use Rattle.dsv_table.proofs.Identity.{sum_turned, sum_less, keeps_away, less_itself}
use Rattle.dsv_table.proofs.Observed.{last_none, no_factor}
use Rattle.dsv_table.proofs.Falls.{none_or_some}
use Rattle.dsv_table.proofs.Negative.{negative_before, negative_first, negative_other}
use Rattle.dsv_table.proofs.Circle.{pair, turn_sum, IsTurned, pair_turns, turned_is_kept_away, apart}

-- the first numbers, and 0 after them
abbrev cut : ℕ → Vector → Vector
cut d f i = if nat_lt d i then pos 0 else f i

cut_in : (d : ℕ) (f : Vector) (i : ℕ) → i ≤ d → cut d f i ≡ f i
cut_in d f i h = grind (arith, nat_tests)

cut_past : (d : ℕ) (f : Vector) → cut d f (suc d) ≡ pos 0
cut_past d f = grind (arith, nat_tests)

-- a sum that is the sum of the same with the sign turned is 0
opposite : (s t : ℤ) → t ≡ s → t ≡ pos 0 -ℤ s → s ≡ pos 0
opposite s t p q = omega (arith, ints, p, q)

sum_opposite : (m : ℕ) (f : Vector) → ((k : ℕ) → k < suc m → f (m - k) ≡ pos 0 -ℤ f k) → sum_to (suc m) f ≡ pos 0
sum_opposite m f h =
    opposite (sum_to (suc m) f) (sum_to (suc m) (λ k. f (m - k))) (sum_turned m f)
    (sum_same (suc m) (λ k. f (m - k)) (λ k. pos 0 -ℤ f k) h
    ∙ sum_less (suc m) (λ k. pos 0) f ∙ rw (sum_none (suc m)) refl)

-- ---- a row that is its own reverse, up to the sign
abbrev own : ℕ → Vector → Vector
own d l = cut d (λ i. (pos d -ℤ pos 2 *ℤ pos i) *ℤ l i)

cancelled : (a x y : ℤ) → a ≢ pos 0 → a *ℤ a *ℤ x ≡ a *ℤ a *ℤ y → x ≡ y
cancelled a x y n e =
    let z : (a *ℤ a) *ℤ (x -ℤ y) ≡ a *ℤ a *ℤ x -ℤ a *ℤ a *ℤ y = ring (env (a ∷ x ∷ y ∷ [])) (times (times (var 0) (var 0)) (plus (var 1) (minus (var 2)))) (plus (times (times (var 0) (var 0)) (var 1)) (minus (times (times (var 0) (var 0)) (var 2)))) refl in
    let s : a *ℤ a *ℤ x -ℤ a *ℤ a *ℤ y ≡ pos 0 = omega (arith, ints, e) in
    let t = no_factor (a *ℤ a) (x -ℤ y) (square_positive a n) (z ∙ s) in
    omega (arith, ints, t)

-- l 0 l j and l d l (d - j) are the same
abbrev IsOwnReverse : ℕ → Vector → Type 0
IsOwnReverse d l = (j : ℕ) → j ≤ d → l 0 *ℤ l j ≡ l d *ℤ l (d - j)

same_products : (d : ℕ) (l : Vector) → l 0 ≢ pos 0 → IsOwnReverse d l → (m k : ℕ) → m ≤ d → k ≤ m
    → l (d - k) *ℤ l (m - k) ≡ l ((d - m) + k) *ℤ l k
same_products d l n h m k a b =
    let t : d - 0 ≡ d = omega arith in
    let u : d - ((d - m) + k) ≡ m - k = omega arith in
    let z : d - d ≡ 0 = omega arith in
    let ends : l d *ℤ l d ≡ l 0 *ℤ l 0 = sym (h 0 (omega arith) ∙ rw t refl) in
    let one = h k (omega arith) in
    let other : l 0 *ℤ l ((d - m) + k) ≡ l d *ℤ l (m - k) = h ((d - m) + k) (omega arith) ∙ rw u refl in
    let x = l (d - k) in
    let y = l (m - k) in
    let p = l ((d - m) + k) in
    let q = l k in
    let left : l 0 *ℤ l 0 *ℤ (x *ℤ y) ≡ (l d *ℤ y) *ℤ (l d *ℤ x) =
    ap (λ w. w *ℤ (x *ℤ y)) (sym ends) ∙ ring (env (l d ∷ x ∷ y ∷ [])) (times (times (var 0) (var 0)) (times (var 1) (var 2))) (times (times (var 0) (var 2)) (times (var 0) (var 1))) refl in
    let right : l 0 *ℤ l 0 *ℤ (p *ℤ q) ≡ (l 0 *ℤ p) *ℤ (l 0 *ℤ q) =
    ring (env (l 0 ∷ p ∷ q ∷ [])) (times (times (var 0) (var 0)) (times (var 1) (var 2))) (times (times (var 0) (var 1)) (times (var 0) (var 2))) refl in
    cancelled (l 0) (x *ℤ y) (p *ℤ q) n (left ∙ rw (← other, ← one) refl ∙ sym right)

own_pair : (d : ℕ) (l : Vector) (i j : ℕ) → i ≤ d → j ≤ d
    → pair l (own d l) i j ≡ (pos 2 *ℤ (pos i +ℤ pos j -ℤ pos d)) *ℤ (l i *ℤ l j)
own_pair d l i j a b =
    let f : Vector = λ i. (pos d -ℤ pos 2 *ℤ pos i) *ℤ l i in
    rw (cut_in d f i a, cut_in d f j b)
    (parts (pos d) (pos i) (pos j) (l i) (l j))
  where
    parts : (d i j x y : ℤ) → pos 0 -ℤ (x *ℤ ((d -ℤ pos 2 *ℤ j) *ℤ y) +ℤ ((d -ℤ pos 2 *ℤ i) *ℤ x) *ℤ y) ≡ (pos 2 *ℤ (i +ℤ j -ℤ d)) *ℤ (x *ℤ y)
    parts d i j x y =
        ring (env (d ∷ i ∷ j ∷ x ∷ y ∷ []))
        (plus (num (pos 0)) (minus (plus (times (var 3) (times (plus (var 0) (minus (times (num (pos 2)) (var 2)))) (var 4))) (times (times (plus (var 0) (minus (times (num (pos 2)) (var 1)))) (var 3)) (var 4)))))
        (times (times (num (pos 2)) (plus (plus (var 1) (var 2)) (minus (var 0)))) (times (var 3) (var 4))) refl

turn_over : (a b x : ℤ) → b ≡ pos 0 -ℤ a → b *ℤ x ≡ pos 0 -ℤ a *ℤ x
turn_over a b x h = rw h (ring (env (a ∷ x ∷ [])) (times (plus (num (pos 0)) (minus (var 0))) (var 1)) (plus (num (pos 0)) (minus (times (var 0) (var 1)))) refl)

places_turned : (d m k : ℕ) → m ≤ d → k ≤ m
    → pos 2 *ℤ (pos (d - k) +ℤ pos (m - k) -ℤ pos d) ≡ pos 0 -ℤ pos 2 *ℤ (pos ((d - m) + k) +ℤ pos k -ℤ pos d)
places_turned d m k a b = omega (arith, ints)

own_is_turned : (d : ℕ) (l : Vector) → 0 < d → pos 0 <ℤ l 0 → IsOwnReverse d l → IsTurned d l (own d l)
own_is_turned d l some p h = record {
  none = λ m a. sum_opposite m (λ k. pair l (own d l) ((d - m) + k) k) (λ k b.
      (let u : (d - m) + (m - k) ≡ d - k = omega arith in
      let n : l 0 ≢ pos 0 = λ e. absurd (omega (arith, ints, p, e)) in
      ap (λ i. pair l (own d l) i (m - k)) u
      ∙ own_pair d l (d - k) (m - k) (omega arith) (omega arith)
      ∙ rw (same_products d l n h m k a (omega arith), own_pair d l ((d - m) + k) k (omega arith) (omega arith))
      (turn_over (pos 2 *ℤ (pos ((d - m) + k) +ℤ pos k -ℤ pos d)) (pos 2 *ℤ (pos (d - k) +ℤ pos (m - k) -ℤ pos d)) (l ((d - m) + k) *ℤ l k) (places_turned d m k a (omega arith)))));
  past = cut_past d (λ i. (pos d -ℤ pos 2 *ℤ pos i) *ℤ l i);
  first = rw (cut_in d (λ i. (pos d -ℤ pos 2 *ℤ pos i) *ℤ l i) 0 (omega arith)) (mul_positive (pos d -ℤ pos 2 *ℤ pos 0) (l 0) (omega (arith, ints)) p);
}

-- ---- from the next row to a row
abbrev before : ℕ → Vector → Vector → Vector
before d c r = cut d (λ i. c 0 *ℤ r i -ℤ c d *ℤ r (d - i))

pair_before : (x y a u b v p g q h : ℤ)
    → (x *ℤ x -ℤ y *ℤ y) *ℤ (pos 0 -ℤ (a *ℤ (x *ℤ q -ℤ y *ℤ h) +ℤ (x *ℤ p -ℤ y *ℤ g) *ℤ b))
    ≡ x *ℤ x *ℤ (pos 0 -ℤ ((x *ℤ a -ℤ y *ℤ u) *ℤ q +ℤ p *ℤ (x *ℤ b -ℤ y *ℤ v)))
    -ℤ y *ℤ y *ℤ (pos 0 -ℤ ((x *ℤ u -ℤ y *ℤ a) *ℤ h +ℤ g *ℤ (x *ℤ v -ℤ y *ℤ b)))
    -ℤ x *ℤ y *ℤ (((x *ℤ u -ℤ y *ℤ a) *ℤ q -ℤ g *ℤ (x *ℤ b -ℤ y *ℤ v)) +ℤ (p *ℤ (x *ℤ v -ℤ y *ℤ b) -ℤ (x *ℤ a -ℤ y *ℤ u) *ℤ h))
pair_before x y a u b v p g q h =
    let z = num (pos 0) in
    let ri = plus (times (var 0) (var 2)) (minus (times (var 1) (var 3))) in
    let rdi = plus (times (var 0) (var 3)) (minus (times (var 1) (var 2))) in
    let rj = plus (times (var 0) (var 4)) (minus (times (var 1) (var 5))) in
    let rdj = plus (times (var 0) (var 5)) (minus (times (var 1) (var 4))) in
    ring (env (x ∷ y ∷ a ∷ u ∷ b ∷ v ∷ p ∷ g ∷ q ∷ h ∷ []))
    (times (plus (times (var 0) (var 0)) (minus (times (var 1) (var 1))))
    (plus z (minus (plus (times (var 2) (plus (times (var 0) (var 8)) (minus (times (var 1) (var 9))))) (times (plus (times (var 0) (var 6)) (minus (times (var 1) (var 7)))) (var 4))))))
    (plus (plus (times (times (var 0) (var 0)) (plus z (minus (plus (times ri (var 8)) (times (var 6) rj)))))
    (minus (times (times (var 1) (var 1)) (plus z (minus (plus (times rdi (var 9)) (times (var 7) rdj)))))))
    (minus (times (times (var 0) (var 1)) (plus (plus (times rdi (var 8)) (minus (times (var 7) rj))) (plus (times (var 6) rdj) (minus (times ri (var 9)))))))) refl

four_sums : (n : ℕ) (a b t : ℤ) (f g h k : Vector)
    → sum_to n f ≡ pos 0 → sum_to n g ≡ pos 0 → sum_to n h ≡ pos 0 → sum_to n k ≡ pos 0
    → sum_to n (λ i. a *ℤ f i -ℤ b *ℤ g i -ℤ t *ℤ (h i +ℤ k i)) ≡ pos 0
four_sums n a b t f g h k p q r s =
    sum_less n (λ i. a *ℤ f i -ℤ b *ℤ g i) (λ i. t *ℤ (h i +ℤ k i))
    ∙ rw (sum_less n (λ i. a *ℤ f i) (λ i. b *ℤ g i), sum_scale n a f, sum_scale n b g, sum_scale n t (λ i. h i +ℤ k i), sum_add n h k, p, q, r, s)
    (ring (env (a ∷ b ∷ t ∷ [])) (plus (plus (times (var 0) (num (pos 0))) (minus (times (var 1) (num (pos 0))))) (minus (times (var 2) (plus (num (pos 0)) (num (pos 0)))))) (num (pos 0)) refl)

-- a sum of differences of products that are turned
sum_crossed : (m : ℕ) (f g : Vector) → ((k : ℕ) → k < suc m → g k ≡ f (m - k)) → sum_to (suc m) (λ k. f k -ℤ g k) ≡ pos 0
sum_crossed m f g h =
    sum_less (suc m) f g
    ∙ ap (λ z. sum_to (suc m) f -ℤ z) (sum_same (suc m) g (λ k. f (m - k)) h ∙ sum_turned m f)
    ∙ less_itself (sum_to (suc m) f)

-- both polynomials end a place earlier
pair_past : (R r : Vector) (d j : ℕ) → R d ≡ pos 0 → r d ≡ pos 0 → pair R r d j ≡ pos 0
pair_past R r d j p q = rw (p, q) (ring (env (r j ∷ R j ∷ [])) (plus (num (pos 0)) (minus (plus (times (num (pos 0)) (var 0)) (times (num (pos 0)) (var 1))))) (num (pos 0)) refl)

no_more : (a b : ℤ) → a ≡ pos 0 → b ≡ pos 0 → a +ℤ b ≡ pos 0
no_more a b p q = omega (arith, ints, p, q)

turn_sum_past : (e : ℕ) (R r : Vector) → R (suc e) ≡ pos 0 → IsTurned e R r → (m : ℕ) → m ≤ suc e → turn_sum (suc e) R r m ≡ pos 0
turn_sum_past e R r n t zero h =
    let u : (suc e - 0) + 0 ≡ suc e = omega arith in
    +ℤ_idl (pair R r ((suc e - 0) + 0) 0) ∙ ap (λ i. pair R r i 0) u ∙ pair_past R r (suc e) 0 n t.past
turn_sum_past e R r n t (suc m) h =
    let u : (suc e - suc m) + suc m ≡ suc e = omega arith in
    no_more (sum_to (suc m) (λ k. pair R r ((suc e - suc m) + k) k)) (pair R r ((suc e - suc m) + suc m) (suc m))
    (sum_same (suc m) (λ k. pair R r ((suc e - suc m) + k) k) (λ k. pair R r ((e - m) + k) k) (λ k b. let v : (suc e - suc m) + k ≡ (e - m) + k = omega arith in rw v refl) ∙ t.none m (omega arith))
    (ap (λ i. pair R r i (suc m)) u ∙ pair_past R r (suc e) (suc m) n t.past)

-- a pair of the row, times the first number of the next one
pair_by_next : (d : ℕ) (c r : Vector) (m k : ℕ) → m ≤ d → k < suc m
    → row_after d c 0 *ℤ pair c (before d c r) ((d - m) + k) k
    ≡ c 0 *ℤ c 0 *ℤ pair (row_after d c) r ((d - m) + k) k
    -ℤ c d *ℤ c d *ℤ pair (row_after d c) r (m - k) (d - k)
    -ℤ c 0 *ℤ c d *ℤ ((row_after d c (m - k) *ℤ r k -ℤ r (m - k) *ℤ row_after d c k)
    +ℤ (r ((d - m) + k) *ℤ row_after d c (d - k) -ℤ row_after d c ((d - m) + k) *ℤ r (d - k)))
pair_by_next d c r m k a b =
    let i = (d - m) + k in
    let f : Vector = λ i. c 0 *ℤ r i -ℤ c d *ℤ r (d - i) in
    let z : d - 0 ≡ d = omega arith in
    let s : d - i ≡ m - k = omega arith in
    let t : d - (m - k) ≡ i = omega arith in
    let u : d - (d - k) ≡ k = omega arith in
    rw (cut_in d f i (omega arith), cut_in d f k (omega arith), z, s, t, u)
    (pair_before (c 0) (c d) (c i) (c (m - k)) (c k) (c (d - k)) (r i) (r (m - k)) (r k) (r (d - k)))

before_none : (e : ℕ) (c r : Vector) → IsTurned e (row_after (suc e) c) r → (m : ℕ) → m ≤ suc e
    → row_after (suc e) c 0 *ℤ turn_sum (suc e) c (before (suc e) c r) m ≡ pos 0
before_none e c r t m a =
    let d = suc e in
    let R = row_after d c in
    let whole = turn_sum_past e R r (last_none e c) t m a in
    sym (sum_scale (suc m) (R 0) (λ k. pair c (before d c r) ((d - m) + k) k))
    ∙ sum_same (suc m) (λ k. R 0 *ℤ pair c (before d c r) ((d - m) + k) k)
    (λ k. c 0 *ℤ c 0 *ℤ pair R r ((d - m) + k) k -ℤ c d *ℤ c d *ℤ pair R r (m - k) (d - k)
    -ℤ c 0 *ℤ c d *ℤ ((R (m - k) *ℤ r k -ℤ r (m - k) *ℤ R k) +ℤ (r ((d - m) + k) *ℤ R (d - k) -ℤ R ((d - m) + k) *ℤ r (d - k))))
    (λ k b. pair_by_next d c r m k a b)
    ∙ four_sums (suc m) (c 0 *ℤ c 0) (c d *ℤ c d) (c 0 *ℤ c d)
    (λ k. pair R r ((d - m) + k) k) (λ k. pair R r (m - k) (d - k))
    (λ k. R (m - k) *ℤ r k -ℤ r (m - k) *ℤ R k) (λ k. r ((d - m) + k) *ℤ R (d - k) -ℤ R ((d - m) + k) *ℤ r (d - k))
    whole
    (sum_same (suc m) (λ k. pair R r (m - k) (d - k)) (λ k. pair R r ((d - m) + (m - k)) (m - k))
    (λ k b. (let u : d - k ≡ (d - m) + (m - k) = omega arith in ap (λ i. pair R r (m - k) i) u ∙ pair_turns R r (m - k) ((d - m) + (m - k))))
    ∙ sum_turned m (λ k. pair R r ((d - m) + k) k) ∙ whole)
    (sum_crossed m (λ k. R (m - k) *ℤ r k) (λ k. r (m - k) *ℤ R k)
    (λ k b. (let u : m - (m - k) ≡ k = omega arith in rw u (*ℤ_comm (r (m - k)) (R k)))))
    (sum_crossed m (λ k. r ((d - m) + k) *ℤ R (d - k)) (λ k. R ((d - m) + k) *ℤ r (d - k))
    (λ k b. (let u : (d - m) + (m - k) ≡ d - k = omega arith in let v : d - (m - k) ≡ (d - m) + k = omega arith in rw (u, v) (*ℤ_comm (R ((d - m) + k)) (r (d - k))))))

less_none : (a b : ℤ) → b ≡ pos 0 → a -ℤ b ≡ a
less_none a b h = omega (arith, ints, h)

before_is_turned : (e : ℕ) (c r : Vector) → pos 0 <ℤ c 0 → pos 0 <ℤ row_after (suc e) c 0 → IsTurned e (row_after (suc e) c) r
    → IsTurned (suc e) c (before (suc e) c r)
before_is_turned e c r p q t =
    let d = suc e in
    let f : Vector = λ i. c 0 *ℤ r i -ℤ c d *ℤ r (d - i) in
    let z : d - 0 ≡ d = omega arith in
    let last : c d *ℤ r (d - 0) ≡ pos 0 = rw (z, t.past) (ring (env (c d ∷ [])) (times (var 0) (num (pos 0))) (num (pos 0)) refl) in
    record {
      none = λ m a. no_factor (row_after d c 0) (turn_sum d c (before d c r) m) q (before_none e c r t m a);
      past = cut_past d f;
      first = rw (cut_in d f 0 (omega arith), less_none (c 0 *ℤ r 0) (c d *ℤ r (d - 0)) last) (mul_positive (c 0) (r 0) p t.first);
    }

-- ---- the theorem
abbrev Shown : ℕ → Vector → Type 0
Shown d c = ((v : Vector) × (form_at d (schur_cohn d c) v <ℤ pos 0)) ⊎ ((r : Vector) × IsTurned d c r)

to_same : (a b : ℤ) → a -ℤ b ≡ pos 0 → a ≡ b
to_same a b h = omega (arith, ints, h)

own_reverse : (e : ℕ) (c : Vector) → row_after (suc e) c 0 ≡ pos 0 → ((j : ℕ) → j < e → row_after (suc e) c (suc j) ≡ pos 0)
    → IsOwnReverse (suc e) c
own_reverse e c h none zero b = to_same (c 0 *ℤ c 0) (c (suc e) *ℤ c (suc e - 0)) h
own_reverse e c h none (suc j) b = elim (cases_lt j e) [
  | inl less ↦ to_same (c 0 *ℤ c (suc j)) (c (suc e) *ℤ c (suc e - suc j)) (none j less)
  | inr more ↦ (let t : j ≡ e = omega arith in let z : suc e - suc e ≡ 0 = omega arith in rw (t, z) (*ℤ_comm (c 0) (c (suc e))))
]

sides : (x : ℤ) → x ≤ℤ pos 0 → (x <ℤ pos 0) ⊎ (x ≡ pos 0)
sides (pos zero) h = inr refl
sides (pos (suc n)) h = absurd (omega (arith, ints, h))
sides (negsuc n) h = inl (omega (arith, ints))

shown_here : (e : ℕ) (c : Vector) → pos 0 <ℤ c 0 → row_after (suc e) c 0 ≤ℤ pos 0 → Shown (suc e) c
shown_here e c p h = elim (sides (row_after (suc e) c 0) h) [
  | inl less ↦ inl (negative_first e c less)
  | inr none ↦ elim (none_or_some e (λ j. row_after (suc e) c (suc j))) [
    | inl some ↦ inl (negative_other e c some.0 some.1 none some.2)
    | inr all ↦ inr (own (suc e) c, own_is_turned (suc e) c (omega arith) p (own_reverse e c none all))
  ]
]

shown : (d : ℕ) (c : Vector) → pos 0 <ℤ c 0 → IsOutside d c → Shown d c
shown zero c p h = absurd h
shown (suc e) c p (inl h) = shown_here e c p h
shown (suc e) c p (inr (q, h)) = elim (shown e (row_after (suc e) c) q h) [
  | inl v ↦ inl (negative_before e c v.0 q v.1)
  | inr r ↦ inr (before (suc e) c r.0, before_is_turned e c r.0 p q r.1)
]

pub outside_is_kept_away : (d : ℕ) (c : Vector) → pos 0 <ℤ c 0 → IsOutside d c → HasKeptAwayForm d c
outside_is_kept_away zero c p h = absurd h
outside_is_kept_away (suc e) c p h = elim (shown (suc e) c p h) [
  | inl v ↦ (schur_cohn (suc e) c, v.0, keeps_away (suc e) c v.0 (apart (c 0) p) v.1)
  | inr r ↦ turned_is_kept_away e c r.0 p r.1
]
