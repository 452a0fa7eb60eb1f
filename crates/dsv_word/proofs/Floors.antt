-- Floors of quotients.
use Rattle.std.proofs.Common.{◌≡◌, ℕ, ◌-◌, ◌*◌, ◌/◌, ◌%◌, ◌<◌, ◌≤◌, [], ◌∷◌, refl, sym, ap, ◌∙◌, arith}
use Rattle.std.specs.Int.{int_rem_euclid, int_div_euclid}
use Rattle.std.specs.Int.RustNames.{unsigned_abs}
use Rattle.std.proofs.Math.IntN.{ℤ, pos, negsuc, ◌+ℤ◌, ◌*ℤ◌, ◌-ℤ◌, neg_ℤ, +ℤ_idr}
use Rattle.std.proofs.lemmas.Int.{ints}
use Rattle.std.proofs.lemmas.Nat.{div-add-mod', mod_below}
use lib.Signed.{◌<ℤ◌, ◌≤ℤ◌}
use Rattle.dsv_algebra.proofs.Normaliser.{ring, env, var, num, plus, times, minus}
use Rattle.dsv_algebra.proofs.Signs.{mul_positive, mul_not_negative, positive_factor}
use Rattle.dsv_algebra.specs.Floor.{IsFloor, floor_of}
use Rattle.dsv_algebra.proofs.Floors.{step_up, floored_is}
use Rattle.dsv_word.specs.Quotients.{ceiling_of}

-- ---- there is one floor
gap : (a b v d : ℤ) → (a *ℤ d) ≤ℤ v → v <ℤ ((b +ℤ pos 1) *ℤ d) → pos 0 <ℤ (d *ℤ (b +ℤ pos 1 -ℤ a))
gap a b v d p q =
    let e : d *ℤ (b +ℤ pos 1 -ℤ a) ≡ (b +ℤ pos 1) *ℤ d -ℤ a *ℤ d =
    ring (env (a ∷ b ∷ d ∷ [])) (times (var 2) (plus (plus (var 1) (num (pos 1))) (minus (var 0)))) (plus (times (plus (var 1) (num (pos 1))) (var 2)) (minus (times (var 0) (var 2)))) refl in
    rw e (omega (arith, ints))

not_above : (a b v : ℤ) (d : ℕ) → 0 < d → (a *ℤ pos d) ≤ℤ v → v <ℤ ((b +ℤ pos 1) *ℤ pos d) → a ≤ℤ b
not_above a b v d h p q =
    let x : pos 0 <ℤ (b +ℤ pos 1 -ℤ a) = positive_factor (pos d) (b +ℤ pos 1 -ℤ a) (omega (arith, ints)) (gap a b v (pos d) p q) in
    omega (arith, ints)

pub floor_only : (v : ℤ) (d : ℕ) (a b : ℤ) → 0 < d → IsFloor v d a → IsFloor v d b → a ≡ b
floor_only v d a b h f g =
    let x = not_above a b v d h f.below g.above in
    let y = not_above b a v d h g.below f.above in
    omega (arith, ints)

pub is_floored : (v : ℤ) (d : ℕ) (w : ℤ) → 0 < d → IsFloor v d w → floor_of v d ≡ w
is_floored v d w h f = floor_only v d (floor_of v d) w h (floored_is v d h) f

-- ---- equal quotients have equal floors
positive_or_none : (m t : ℤ) → pos 0 <ℤ m → pos 0 ≤ℤ (m *ℤ t) → pos 0 ≤ℤ t
positive_or_none (pos m) (pos t) p q = omega (arith, ints)
positive_or_none (pos m) (negsuc t) p q = absurd (omega (arith, ints))
positive_or_none (negsuc m) t p q = absurd (omega (arith, ints))

-- the distance of a line above v / d, at another scale
rescaled : (n m w d e : ℤ) → n *ℤ e ≡ m *ℤ d → d *ℤ (m -ℤ w *ℤ e) ≡ e *ℤ (n -ℤ w *ℤ d)
rescaled n m w d e h =
    ring (env (m ∷ w ∷ d ∷ e ∷ [])) (times (var 2) (plus (var 0) (minus (times (var 1) (var 3))))) (plus (times (var 0) (var 2)) (minus (times (times (var 1) (var 2)) (var 3)))) refl
    ∙ ap (λ t. t -ℤ w *ℤ d *ℤ e) (sym h)
    ∙ ring (env (n ∷ w ∷ d ∷ e ∷ [])) (plus (times (var 0) (var 3)) (minus (times (times (var 1) (var 2)) (var 3)))) (times (var 3) (plus (var 0) (minus (times (var 1) (var 2))))) refl

not_over : (n m w : ℤ) (d e : ℕ) → 0 < d → 0 < e → n *ℤ pos e ≡ m *ℤ pos d → (w *ℤ pos e) ≤ℤ m → (w *ℤ pos d) ≤ℤ n
not_over n m w d e p q h k =
    let a : pos 0 ≤ℤ (pos d *ℤ (m -ℤ w *ℤ pos e)) = mul_not_negative (pos d) (m -ℤ w *ℤ pos e) (omega (arith, ints)) (omega (arith, ints)) in
    let b : pos 0 ≤ℤ (n -ℤ w *ℤ pos d) = positive_or_none (pos e) (n -ℤ w *ℤ pos d) (omega (arith, ints)) (rw (rescaled n m w (pos d) (pos e) h) at a) in
    omega (arith, ints)

not_under : (n m w : ℤ) (d e : ℕ) → 0 < d → 0 < e → n *ℤ pos e ≡ m *ℤ pos d → m <ℤ (w *ℤ pos e) → n <ℤ (w *ℤ pos d)
not_under n m w d e p q h k =
    let back : pos d *ℤ (w *ℤ pos e -ℤ m) ≡ pos e *ℤ (w *ℤ pos d -ℤ n) =
    turned (pos d) (w *ℤ pos e) m ∙ ap neg_ℤ (rescaled n m w (pos d) (pos e) h) ∙ sym (turned (pos e) (w *ℤ pos d) n) in
    let a : pos 0 <ℤ (pos d *ℤ (w *ℤ pos e -ℤ m)) = mul_positive (pos d) (w *ℤ pos e -ℤ m) (omega (arith, ints)) (omega (arith, ints)) in
    let b : pos 0 <ℤ (w *ℤ pos d -ℤ n) = positive_factor (pos e) (w *ℤ pos d -ℤ n) (omega (arith, ints)) (rw back at a) in
    omega (arith, ints)
  where
    turned : (x y z : ℤ) → x *ℤ (y -ℤ z) ≡ neg_ℤ (x *ℤ (z -ℤ y))
    turned x y z = ring (env (x ∷ y ∷ z ∷ [])) (times (var 0) (plus (var 1) (minus (var 2)))) (minus (times (var 0) (plus (var 2) (minus (var 1))))) refl

pub floored_same : (n m : ℤ) (d e : ℕ) → 0 < d → 0 < e → n *ℤ pos e ≡ m *ℤ pos d → floor_of n d ≡ floor_of m e
floored_same n m d e p q h =
    let f = floored_is m e q in
    is_floored n d (floor_of m e) p (record {
      below = not_over n m (floor_of m e) d e p q h f.below;
      above = not_under n m (floor_of m e +ℤ pos 1) d e p q h f.above;
    })

pub ceiled_same : (n m : ℤ) (d e : ℕ) → 0 < d → 0 < e → n *ℤ pos e ≡ m *ℤ pos d → ceiling_of n d ≡ ceiling_of m e
ceiled_same n m d e p q h = ap neg_ℤ (floored_same (neg_ℤ n) (neg_ℤ m) d e p q (negative n (pos e) ∙ ap neg_ℤ h ∙ sym (negative m (pos d))))
  where
    negative : (x y : ℤ) → neg_ℤ x *ℤ y ≡ neg_ℤ (x *ℤ y)
    negative x y = ring (env (x ∷ y ∷ [])) (times (minus (var 0)) (var 1)) (minus (times (var 0) (var 1))) refl

-- n / d + 1/2 over the common denominator
pub nearest_same : (n m : ℤ) (d e : ℕ) → 0 < d → 0 < e → n *ℤ pos e ≡ m *ℤ pos d
    → floor_of (pos 2 *ℤ n +ℤ pos d) (2 * d) ≡ floor_of (pos 2 *ℤ m +ℤ pos e) (2 * e)
nearest_same n m d e p q h =
    floored_same (pos 2 *ℤ n +ℤ pos d) (pos 2 *ℤ m +ℤ pos e) (2 * d) (2 * e) (omega arith) (omega arith) (
    ring (env (n ∷ pos d ∷ pos e ∷ [])) (times (plus (times (num (pos 2)) (var 0)) (var 1)) (times (num (pos 2)) (var 2)))
    (plus (times (num (pos 4)) (times (var 0) (var 2))) (times (num (pos 2)) (times (var 1) (var 2)))) refl
    ∙ ap (λ t. pos 4 *ℤ t +ℤ pos 2 *ℤ (pos d *ℤ pos e)) h
    ∙ ring (env (m ∷ pos d ∷ pos e ∷ [])) (plus (times (num (pos 4)) (times (var 0) (var 1))) (times (num (pos 2)) (times (var 1) (var 2))))
    (times (plus (times (num (pos 2)) (var 0)) (var 2)) (times (num (pos 2)) (var 1))) refl)

-- ---- floors and rests
pub parted : (v : ℤ) (d : ℕ) → 0 < d → v ≡ floor_of v d *ℤ pos d +ℤ int_rem_euclid v (pos d)
parted (pos n) d p = let e = div-add-mod' n d in omega (arith, ints)
parted (negsuc n) d p =
    let e = div-add-mod' n d in
    let r : n % d < d = mod_below n d p in
    let x = step_up (n / d) d in
    let y : (negsuc (n / d) +ℤ pos 1) *ℤ pos d ≡ negsuc (n / d) *ℤ pos d +ℤ pos d =
    ring (env (negsuc (n / d) ∷ pos d ∷ [])) (times (plus (var 0) (num (pos 1))) (var 1)) (plus (times (var 0) (var 1)) (var 1)) refl in
    omega (arith, ints)

doubled : (q r d : ℤ) (k : ℤ) → pos 2 *ℤ (q *ℤ d +ℤ r) +ℤ d -ℤ (q +ℤ k) *ℤ (pos 2 *ℤ d) ≡ pos 2 *ℤ r +ℤ d -ℤ pos 2 *ℤ k *ℤ d
doubled q r d k = ring (env (q ∷ r ∷ d ∷ k ∷ []))
    (plus (plus (times (num (pos 2)) (plus (times (var 0) (var 2)) (var 1))) (var 2)) (minus (times (plus (var 0) (var 3)) (times (num (pos 2)) (var 2)))))
    (plus (plus (times (num (pos 2)) (var 1)) (var 2)) (minus (times (times (num (pos 2)) (var 3)) (var 2)))) refl

-- the floor of n / d + 1/2 by the floor of n / d and its rest
near : (n q r : ℤ) (d : ℕ) (k : ℤ) → 0 < d → n ≡ q *ℤ pos d +ℤ r → pos 0 ≤ℤ (pos 2 *ℤ r +ℤ pos d -ℤ pos 2 *ℤ k *ℤ pos d)
    → (pos 2 *ℤ r +ℤ pos d -ℤ pos 2 *ℤ (k +ℤ pos 1) *ℤ pos d) <ℤ pos 0 → floor_of (pos 2 *ℤ n +ℤ pos d) (2 * d) ≡ q +ℤ k
near n q r d k p e x y =
    let a : pos 2 *ℤ n +ℤ pos d -ℤ (q +ℤ k) *ℤ (pos 2 *ℤ pos d) ≡ pos 2 *ℤ r +ℤ pos d -ℤ pos 2 *ℤ k *ℤ pos d =
    ap (λ t. pos 2 *ℤ t +ℤ pos d -ℤ (q +ℤ k) *ℤ (pos 2 *ℤ pos d)) e ∙ doubled q r (pos d) k in
    let b : pos 2 *ℤ n +ℤ pos d -ℤ (q +ℤ (k +ℤ pos 1)) *ℤ (pos 2 *ℤ pos d) ≡ pos 2 *ℤ r +ℤ pos d -ℤ pos 2 *ℤ (k +ℤ pos 1) *ℤ pos d =
    ap (λ t. pos 2 *ℤ t +ℤ pos d -ℤ (q +ℤ (k +ℤ pos 1)) *ℤ (pos 2 *ℤ pos d)) e ∙ doubled q r (pos d) (k +ℤ pos 1) in
    let f : pos 0 ≤ℤ (pos 2 *ℤ n +ℤ pos d -ℤ (q +ℤ k) *ℤ (pos 2 *ℤ pos d)) = rw a x in
    let g : (pos 2 *ℤ n +ℤ pos d -ℤ (q +ℤ (k +ℤ pos 1)) *ℤ (pos 2 *ℤ pos d)) <ℤ pos 0 = rw b y in
    let h : (q +ℤ (k +ℤ pos 1)) ≡ (q +ℤ k) +ℤ pos 1 = omega (arith, ints) in
    is_floored (pos 2 *ℤ n +ℤ pos d) (2 * d) (q +ℤ k) (omega arith) (record { below = omega (arith, ints); above = omega (arith, ints, rw h at g) })

pub near_above : (n q r : ℤ) (d : ℕ) → 0 < d → n ≡ q *ℤ pos d +ℤ r → r <ℤ pos d → (pos d -ℤ r) ≤ℤ r → floor_of (pos 2 *ℤ n +ℤ pos d) (2 * d) ≡ q +ℤ pos 1
near_above n q r d p e x y = near n q r d (pos 1) p e (omega (arith, ints)) (omega (arith, ints))

pub near_below : (n q r : ℤ) (d : ℕ) → 0 < d → n ≡ q *ℤ pos d +ℤ r → pos 0 ≤ℤ r → r <ℤ (pos d -ℤ r) → floor_of (pos 2 *ℤ n +ℤ pos d) (2 * d) ≡ q
near_below n q r d p e x y = near n q r d (pos 0) p e (omega (arith, ints)) (omega (arith, ints)) ∙ +ℤ_idr q

pub rest_within : (v : ℤ) (d : ℕ) → 0 < d → (m : ℕ) × (int_rem_euclid v (pos d) ≡ pos m) × (m < d)
rest_within (pos n) d p = (n % d, refl, mod_below n d p)
rest_within (negsuc n) d p = let r : n % d < d = mod_below n d p in (d - 1 - n % d, refl, omega arith)

-- the same by the sizes of the rest and of the divisor
pub near_less : (n num den q r : ℤ) (d s t : ℕ) → num ≡ n → den ≡ pos d → 0 < d → q ≡ int_div_euclid num den → r ≡ int_rem_euclid num den
    → s ≡ unsigned_abs r → t ≡ unsigned_abs den → s < t - s → q ≡ floor_of (pos 2 *ℤ n +ℤ pos d) (2 * d)
near_less n y x q r d s t a b p e f g h k =
    let w = rest_within n d p in
    let fact : q ≡ floor_of n d = e ∙ rw (a, b) refl in
    let rest : r ≡ pos w.0 = f ∙ rw (a, b) w.1 in
    let small : s ≡ w.0 = g ∙ ap unsigned_abs rest in
    let big : t ≡ d = h ∙ ap unsigned_abs b in
    fact ∙ sym (near_below n (floor_of n d) (pos w.0) d p (parted n d p ∙ ap (λ z. floor_of n d *ℤ pos d +ℤ z) w.1) (omega (arith, ints)) (omega (arith, ints)))

pub near_more : (n num den q r : ℤ) (d s t : ℕ) → num ≡ n → den ≡ pos d → 0 < d → q ≡ int_div_euclid num den → r ≡ int_rem_euclid num den
    → s ≡ unsigned_abs r → t ≡ unsigned_abs den → t - s ≤ s → q +ℤ pos 1 ≡ floor_of (pos 2 *ℤ n +ℤ pos d) (2 * d)
near_more n y x q r d s t a b p e f g h k =
    let w = rest_within n d p in
    let fact : q ≡ floor_of n d = e ∙ rw (a, b) refl in
    let rest : r ≡ pos w.0 = f ∙ rw (a, b) w.1 in
    let small : s ≡ w.0 = g ∙ ap unsigned_abs rest in
    let big : t ≡ d = h ∙ ap unsigned_abs b in
    let below : w.0 < d = w.2 in
    ap (λ z. z +ℤ pos 1) fact
    ∙ sym (near_above n (floor_of n d) (pos w.0) d p (parted n d p ∙ ap (λ z. floor_of n d *ℤ pos d +ℤ z) w.1) (omega (arith, ints)) (omega (arith, ints)))
