-- Where a polynomial of order 2 isn't stable, its form, by the sign of its scale, is negative at one of four starts.
use Rattle.std.proofs.Common.{◌≡◌, zero, suc, [], ◌∷◌, ◌⊎◌, inl, inr, refl, ap, ◌∙◌, arith}
use Rattle.std.proofs.Math.IntN.{ℤ, pos, negsuc, neg_ℤ, ◌+ℤ◌, ◌-ℤ◌, ◌*ℤ◌, *ℤ_comm, zero-*ℤ}
use Rattle.std.proofs.lemmas.Int.{ints}
use lib.Signed.{◌<ℤ◌, ◌≤ℤ◌}
use Rattle.dsv_algebra.proofs.Normaliser.{ring, env, var, num, plus, times, minus}
use Rattle.dsv_algebra.proofs.Signs.{mul_positive, mul_not_negative, mul_negative, positive_factor, square_positive}
use Rattle.dsv_closed_forms.specs.ClosedForm.{fall_scale}
use Rattle.dsv_closed_forms.proofs.SecondForm.{c0-e, c1-e, c2-e, sum-e, scale-e}

-- ---- the sign of a number

pub data Sign (z : ℤ) : Type 0 where
  minus_sign : z <ℤ pos 0 → Sign z
  no_sign : z ≡ pos 0 → Sign z
  plus_sign : pos 0 <ℤ z → Sign z

pub sign : (z : ℤ) → Sign z
sign (pos zero) = no_sign refl
sign (pos (suc n)) = plus_sign (omega (arith, ints))
sign (negsuc n) = minus_sign (omega (arith, ints))

-- ---- the numbers that decide

-- c0^2 times these are the form's values at (-c2, c0), (c2, c0) and (-c1, c0)
abbrev pub left_value : ℤ → ℤ → ℤ → ℤ
left_value c0 c1 c2 = (c0 +ℤ c2 -ℤ c1) *ℤ (pos 4 *ℤ (c2 *ℤ c2) +ℤ (c0 -ℤ c2) *ℤ (c0 +ℤ c2 +ℤ c1))

abbrev pub right_value : ℤ → ℤ → ℤ → ℤ
right_value c0 c1 c2 = (c0 +ℤ c2 +ℤ c1) *ℤ (pos 4 *ℤ (c2 *ℤ c2) +ℤ (c0 -ℤ c2) *ℤ (c0 +ℤ c2 -ℤ c1))

abbrev pub last_value : ℤ → ℤ → ℤ → ℤ
last_value c0 c1 c2 = (c0 -ℤ c2) *ℤ (c1 *ℤ c1 +ℤ (c0 +ℤ c2) *ℤ (c0 +ℤ c2)) +ℤ pos 2 *ℤ ((c0 +ℤ c2) *ℤ (c2 *ℤ c2))

-- the scale by its factors
pub scale_factors : (c0 c1 c2 : ℤ) → fall_scale c0 c1 c2 ≡ (c0 -ℤ c2) *ℤ ((c0 +ℤ c2 -ℤ c1) *ℤ (c0 +ℤ c2 +ℤ c1))
scale_factors c0 c1 c2 = ring (env (c0 ∷ c1 ∷ c2 ∷ [])) scale-e (times (plus c0-e (minus c2-e)) (times (plus sum-e (minus c1-e)) (plus sum-e c1-e))) refl

negative_product : (a b : ℤ) → a <ℤ pos 0 → pos 0 <ℤ b → (a *ℤ b) <ℤ pos 0
negative_product a b h k = rw (*ℤ_comm a b) (mul_negative b a k h)

both_negative : (a b : ℤ) → a <ℤ pos 0 → b <ℤ pos 0 → pos 0 <ℤ (a *ℤ b)
both_negative a b h k =
    let e : a *ℤ b ≡ neg_ℤ a *ℤ neg_ℤ b = ring (env (a ∷ b ∷ [])) (times (var 0) (var 1)) (times (minus (var 0)) (minus (var 1))) refl in
    rw e (mul_positive (neg_ℤ a) (neg_ℤ b) (omega (arith, ints)) (omega (arith, ints)))

-- ---- the sum c0 + c2 is positive, c0 - c2 negative and c1 greater than the sum

last_identity : (s e c t : ℤ) → neg_ℤ (e *ℤ (c *ℤ c +ℤ s *ℤ s) +ℤ pos 2 *ℤ (s *ℤ t))
    ≡ neg_ℤ e *ℤ (c *ℤ (c -ℤ s)) +ℤ s *ℤ neg_ℤ (pos 4 *ℤ t +ℤ e *ℤ (s +ℤ c)) +ℤ pos 2 *ℤ (s *ℤ t)
last_identity s e c t =
    ring (env (s ∷ e ∷ c ∷ t ∷ []))
    (minus (plus (times (var 1) (plus (times (var 2) (var 2)) (times (var 0) (var 0)))) (times (num (pos 2)) (times (var 0) (var 3)))))
    (plus (plus (times (minus (var 1)) (times (var 2) (plus (var 2) (minus (var 0))))) (times (var 0) (minus (plus (times (num (pos 4)) (var 3)) (times (var 1) (plus (var 0) (var 2))))))) (times (num (pos 2)) (times (var 0) (var 3)))) refl

not_positive : (z : ℤ) → z ≤ℤ pos 0 → pos 0 ≤ℤ neg_ℤ z
not_positive z h = omega (arith, ints)

below_zero : (z a b c : ℤ) → neg_ℤ z ≡ a +ℤ b +ℤ pos 2 *ℤ c → pos 0 ≤ℤ a → pos 0 ≤ℤ b → pos 0 <ℤ c → z <ℤ pos 0
below_zero z a b c e h k l = omega (arith, ints, e)

above_zero : (z a b c : ℤ) → z ≡ a +ℤ b +ℤ pos 2 *ℤ c → pos 0 ≤ℤ a → pos 0 ≤ℤ b → pos 0 <ℤ c → pos 0 <ℤ z
above_zero z a b c e h k l = omega (arith, ints, e)

at_last : (s e c t : ℤ) → pos 0 <ℤ s → e <ℤ pos 0 → s <ℤ c → pos 0 <ℤ t → (pos 4 *ℤ t +ℤ e *ℤ (s +ℤ c)) ≤ℤ pos 0
    → (e *ℤ (c *ℤ c +ℤ s *ℤ s) +ℤ pos 2 *ℤ (s *ℤ t)) <ℤ pos 0
at_last s e c t a b k h g =
    let first : pos 0 ≤ℤ (neg_ℤ e *ℤ (c *ℤ (c -ℤ s))) = mul_not_negative (neg_ℤ e) (c *ℤ (c -ℤ s)) (omega (arith, ints)) (mul_not_negative c (c -ℤ s) (omega (arith, ints)) (omega (arith, ints))) in
    let second : pos 0 ≤ℤ (s *ℤ neg_ℤ (pos 4 *ℤ t +ℤ e *ℤ (s +ℤ c))) = mul_not_negative s (neg_ℤ (pos 4 *ℤ t +ℤ e *ℤ (s +ℤ c))) (omega (arith, ints)) (not_positive (pos 4 *ℤ t +ℤ e *ℤ (s +ℤ c)) g) in
    let third : pos 0 <ℤ (s *ℤ t) = mul_positive s t a h in
    below_zero (e *ℤ (c *ℤ c +ℤ s *ℤ s) +ℤ pos 2 *ℤ (s *ℤ t)) (neg_ℤ e *ℤ (c *ℤ (c -ℤ s))) (s *ℤ neg_ℤ (pos 4 *ℤ t +ℤ e *ℤ (s +ℤ c))) (s *ℤ t) (last_identity s e c t) first second third

-- of the two numbers one is negative
beyond : (s e c t : ℤ) → pos 0 <ℤ s → e <ℤ pos 0 → s <ℤ c → pos 0 <ℤ t
    → (((s -ℤ c) *ℤ (pos 4 *ℤ t +ℤ e *ℤ (s +ℤ c))) <ℤ pos 0) ⊎ ((e *ℤ (c *ℤ c +ℤ s *ℤ s) +ℤ pos 2 *ℤ (s *ℤ t)) <ℤ pos 0)
beyond s e c t a b k h = elim (sign (pos 4 *ℤ t +ℤ e *ℤ (s +ℤ c))) [
  | plus_sign g ↦ inl (negative_product (s -ℤ c) (pos 4 *ℤ t +ℤ e *ℤ (s +ℤ c)) (omega (arith, ints)) g)
  | no_sign g ↦ inr (at_last s e c t a b k h (omega (arith, ints)))
  | minus_sign g ↦ inr (at_last s e c t a b k h (omega (arith, ints)))
]

-- ---- the sum is negative, c0 - c2 positive and c1 greater than the sum's size

other_identity : (s e c t : ℤ) → e *ℤ (c *ℤ c +ℤ s *ℤ s) +ℤ pos 2 *ℤ (s *ℤ t)
    ≡ e *ℤ (c *ℤ (s +ℤ c)) +ℤ neg_ℤ s *ℤ neg_ℤ (pos 4 *ℤ t +ℤ e *ℤ (s -ℤ c)) +ℤ pos 2 *ℤ (neg_ℤ s *ℤ t)
other_identity s e c t =
    ring (env (s ∷ e ∷ c ∷ t ∷ []))
    (plus (times (var 1) (plus (times (var 2) (var 2)) (times (var 0) (var 0)))) (times (num (pos 2)) (times (var 0) (var 3))))
    (plus (plus (times (var 1) (times (var 2) (plus (var 0) (var 2)))) (times (minus (var 0)) (minus (plus (times (num (pos 4)) (var 3)) (times (var 1) (plus (var 0) (minus (var 2)))))))) (times (num (pos 2)) (times (minus (var 0)) (var 3)))) refl

at_other_last : (s e c t : ℤ) → s <ℤ pos 0 → pos 0 <ℤ e → pos 0 <ℤ (s +ℤ c) → pos 0 <ℤ t → (pos 4 *ℤ t +ℤ e *ℤ (s -ℤ c)) ≤ℤ pos 0
    → pos 0 <ℤ (e *ℤ (c *ℤ c +ℤ s *ℤ s) +ℤ pos 2 *ℤ (s *ℤ t))
at_other_last s e c t a b k h g =
    let first : pos 0 ≤ℤ (e *ℤ (c *ℤ (s +ℤ c))) = mul_not_negative e (c *ℤ (s +ℤ c)) (omega (arith, ints)) (mul_not_negative c (s +ℤ c) (omega (arith, ints)) (omega (arith, ints))) in
    let second : pos 0 ≤ℤ (neg_ℤ s *ℤ neg_ℤ (pos 4 *ℤ t +ℤ e *ℤ (s -ℤ c))) = mul_not_negative (neg_ℤ s) (neg_ℤ (pos 4 *ℤ t +ℤ e *ℤ (s -ℤ c))) (omega (arith, ints)) (not_positive (pos 4 *ℤ t +ℤ e *ℤ (s -ℤ c)) g) in
    let third : pos 0 <ℤ (neg_ℤ s *ℤ t) = mul_positive (neg_ℤ s) t (omega (arith, ints)) h in
    above_zero (e *ℤ (c *ℤ c +ℤ s *ℤ s) +ℤ pos 2 *ℤ (s *ℤ t)) (e *ℤ (c *ℤ (s +ℤ c))) (neg_ℤ s *ℤ neg_ℤ (pos 4 *ℤ t +ℤ e *ℤ (s -ℤ c))) (neg_ℤ s *ℤ t) (other_identity s e c t) first second third

-- of the two numbers one is positive
within : (s e c t : ℤ) → s <ℤ pos 0 → pos 0 <ℤ e → pos 0 <ℤ (s +ℤ c) → pos 0 <ℤ t
    → (pos 0 <ℤ ((s +ℤ c) *ℤ (pos 4 *ℤ t +ℤ e *ℤ (s -ℤ c)))) ⊎ (pos 0 <ℤ (e *ℤ (c *ℤ c +ℤ s *ℤ s) +ℤ pos 2 *ℤ (s *ℤ t)))
within s e c t a b k h = elim (sign (pos 4 *ℤ t +ℤ e *ℤ (s -ℤ c))) [
  | plus_sign g ↦ inl (mul_positive (s +ℤ c) (pos 4 *ℤ t +ℤ e *ℤ (s -ℤ c)) k g)
  | no_sign g ↦ inr (at_other_last s e c t a b k h (omega (arith, ints)))
  | minus_sign g ↦ inr (at_other_last s e c t a b k h (omega (arith, ints)))
]

-- ---- one of the four numbers has the sign

first_factor : (a b c : ℤ) → b ≡ pos 0 → a *ℤ (b *ℤ c) ≡ pos 0
first_factor a b c h = rw h (ring (env (a ∷ c ∷ [])) (times (var 0) (times (num (pos 0)) (var 1))) (num (pos 0)) refl)

second_factor : (a b c : ℤ) → c ≡ pos 0 → a *ℤ (b *ℤ c) ≡ pos 0
second_factor a b c h = rw h (ring (env (a ∷ b ∷ [])) (times (var 0) (times (var 1) (num (pos 0)))) (num (pos 0)) refl)

lone_factor : (a b c : ℤ) → a ≡ pos 0 → a *ℤ (b *ℤ c) ≡ pos 0
lone_factor a b c h = rw h (ring (env (b ∷ c ∷ [])) (times (num (pos 0)) (times (var 0) (var 1))) (num (pos 0)) refl)

not_zero : (z : ℤ) → pos 0 <ℤ z → z ≡ pos 0 → ⊥
not_zero z h e = omega (arith, ints)

nor_zero : (z : ℤ) → z <ℤ pos 0 → z ≡ pos 0 → ⊥
nor_zero z h e = omega (arith, ints)

never_both : (z : ℤ) → pos 0 <ℤ z → z <ℤ pos 0 → ⊥
never_both z h k = omega (arith, ints)

-- the last number by the scale
last_by_scale : (c0 c1 c2 : ℤ) → last_value c0 c1 c2 ≡ neg_ℤ (fall_scale c0 c1 c2) +ℤ (c0 +ℤ c2) *ℤ (pos 2 *ℤ ((c0 -ℤ c2) *ℤ (c0 +ℤ c2)) +ℤ pos 2 *ℤ (c2 *ℤ c2))
last_by_scale c0 c1 c2 =
    ring (env (c0 ∷ c1 ∷ c2 ∷ []))
    (plus (times (plus c0-e (minus c2-e)) (plus (times c1-e c1-e) (times sum-e sum-e))) (times (num (pos 2)) (times sum-e (times c2-e c2-e))))
    (plus (minus scale-e) (times sum-e (plus (times (num (pos 2)) (times (plus c0-e (minus c2-e)) sum-e)) (times (num (pos 2)) (times c2-e c2-e))))) refl

by_none : (k s x : ℤ) → s ≡ pos 0 → k +ℤ s *ℤ x ≡ k
by_none k s x h = rw h (ring (env (k ∷ x ∷ [])) (plus (var 0) (times (num (pos 0)) (var 1))) (var 0) refl)

last_at_none : (c0 c1 c2 : ℤ) → (c0 +ℤ c2) ≡ pos 0 → last_value c0 c1 c2 ≡ neg_ℤ (fall_scale c0 c1 c2)
last_at_none c0 c1 c2 h = last_by_scale c0 c1 c2 ∙ by_none (neg_ℤ (fall_scale c0 c1 c2)) (c0 +ℤ c2) (pos 2 *ℤ ((c0 -ℤ c2) *ℤ (c0 +ℤ c2)) +ℤ pos 2 *ℤ (c2 *ℤ c2)) h

pub minus_above : (z : ℤ) → pos 0 <ℤ z → neg_ℤ z <ℤ pos 0
minus_above z h = omega (arith, ints)

pub minus_below : (z : ℤ) → z <ℤ pos 0 → pos 0 <ℤ neg_ℤ z
minus_below z h = omega (arith, ints)

-- both numbers by the other sign of c1
mirrored_left : (s e c t : ℤ) → (s -ℤ neg_ℤ c) *ℤ (pos 4 *ℤ t +ℤ e *ℤ (s +ℤ neg_ℤ c)) ≡ (s +ℤ c) *ℤ (pos 4 *ℤ t +ℤ e *ℤ (s -ℤ c))
mirrored_left s e c t =
    ring (env (s ∷ e ∷ c ∷ t ∷ []))
    (times (plus (var 0) (minus (minus (var 2)))) (plus (times (num (pos 4)) (var 3)) (times (var 1) (plus (var 0) (minus (var 2))))))
    (times (plus (var 0) (var 2)) (plus (times (num (pos 4)) (var 3)) (times (var 1) (plus (var 0) (minus (var 2)))))) refl

mirrored_right : (s e c t : ℤ) → (s +ℤ neg_ℤ c) *ℤ (pos 4 *ℤ t +ℤ e *ℤ (s -ℤ neg_ℤ c)) ≡ (s -ℤ c) *ℤ (pos 4 *ℤ t +ℤ e *ℤ (s +ℤ c))
mirrored_right s e c t =
    ring (env (s ∷ e ∷ c ∷ t ∷ []))
    (times (plus (var 0) (minus (var 2))) (plus (times (num (pos 4)) (var 3)) (times (var 1) (plus (var 0) (minus (minus (var 2)))))))
    (times (plus (var 0) (minus (var 2))) (plus (times (num (pos 4)) (var 3)) (times (var 1) (plus (var 0) (var 2))))) refl

mirrored_last : (s e c t : ℤ) → e *ℤ (neg_ℤ c *ℤ neg_ℤ c +ℤ s *ℤ s) +ℤ pos 2 *ℤ (s *ℤ t) ≡ e *ℤ (c *ℤ c +ℤ s *ℤ s) +ℤ pos 2 *ℤ (s *ℤ t)
mirrored_last s e c t =
    ring (env (s ∷ e ∷ c ∷ t ∷ []))
    (plus (times (var 1) (plus (times (minus (var 2)) (minus (var 2))) (times (var 0) (var 0)))) (times (num (pos 2)) (times (var 0) (var 3))))
    (plus (times (var 1) (plus (times (var 2) (var 2)) (times (var 0) (var 0)))) (times (num (pos 2)) (times (var 0) (var 3)))) refl

abbrev pub SomeNegative : ℤ → ℤ → ℤ → Type 0
SomeNegative c0 c1 c2 = ((c0 +ℤ c2) <ℤ pos 0) ⊎ ((left_value c0 c1 c2 <ℤ pos 0) ⊎ ((right_value c0 c1 c2 <ℤ pos 0) ⊎ (last_value c0 c1 c2 <ℤ pos 0)))

abbrev pub SomePositive : ℤ → ℤ → ℤ → Type 0
SomePositive c0 c1 c2 = (pos 0 <ℤ (c0 +ℤ c2)) ⊎ ((pos 0 <ℤ left_value c0 c1 c2) ⊎ ((pos 0 <ℤ right_value c0 c1 c2) ⊎ (pos 0 <ℤ last_value c0 c1 c2)))

by_left : (c0 c1 c2 : ℤ) → pos 0 <ℤ c0 → pos 0 <ℤ (c0 +ℤ c2) → (c0 -ℤ c2) <ℤ pos 0 → (c0 +ℤ c2 -ℤ c1) <ℤ pos 0 → SomeNegative c0 c1 c2
by_left c0 c1 c2 p s e a = elim (beyond (c0 +ℤ c2) (c0 -ℤ c2) c1 (c2 *ℤ c2) s e (omega (arith, ints)) (square_positive c2 (λ z. omega (arith, ints)))) [
  | inl h ↦ inr (inl h)
  | inr h ↦ inr (inr (inr h))
]

by_right : (c0 c1 c2 : ℤ) → pos 0 <ℤ c0 → pos 0 <ℤ (c0 +ℤ c2) → (c0 -ℤ c2) <ℤ pos 0 → (c0 +ℤ c2 +ℤ c1) <ℤ pos 0 → SomeNegative c0 c1 c2
by_right c0 c1 c2 p s e a = elim (beyond (c0 +ℤ c2) (c0 -ℤ c2) (neg_ℤ c1) (c2 *ℤ c2) s e (omega (arith, ints)) (square_positive c2 (λ z. omega (arith, ints)))) [
  | inl h ↦ inr (inr (inl (rw (mirrored_left (c0 +ℤ c2) (c0 -ℤ c2) c1 (c2 *ℤ c2)) at h)))
  | inr h ↦ inr (inr (inr (rw (mirrored_last (c0 +ℤ c2) (c0 -ℤ c2) c1 (c2 *ℤ c2)) at h)))
]

-- c0 is greater than the size of c2, and c0 + c2 than the size of c1
pub record Leads (c0 c1 c2 : ℤ) : Type 0 where
  pub difference : pos 0 <ℤ (c0 -ℤ c2)
  pub sum : pos 0 <ℤ (c0 +ℤ c2)
  pub left : pos 0 <ℤ (c0 +ℤ c2 -ℤ c1)
  pub right : pos 0 <ℤ (c0 +ℤ c2 +ℤ c1)

scale_sign : (c0 c1 c2 : ℤ) → pos 0 <ℤ fall_scale c0 c1 c2 → pos 0 <ℤ ((c0 -ℤ c2) *ℤ ((c0 +ℤ c2 -ℤ c1) *ℤ (c0 +ℤ c2 +ℤ c1)))
scale_sign c0 c1 c2 k = rw (scale_factors c0 c1 c2) at k

-- the scale is positive, the sum too, and c0 - c2 negative
pub positive_below : (c0 c1 c2 : ℤ) → pos 0 <ℤ c0 → pos 0 <ℤ (c0 +ℤ c2) → (c0 -ℤ c2) <ℤ pos 0 → pos 0 <ℤ fall_scale c0 c1 c2 → SomeNegative c0 c1 c2
positive_below c0 c1 c2 p s e k =
    let a = c0 +ℤ c2 -ℤ c1 in
    let b = c0 +ℤ c2 +ℤ c1 in
    let h = scale_sign c0 c1 c2 k in
    elim (sign a) [
      | minus_sign n ↦ by_left c0 c1 c2 p s e n
      | no_sign z ↦ absurd (not_zero ((c0 -ℤ c2) *ℤ (a *ℤ b)) h (first_factor (c0 -ℤ c2) a b z))
      | plus_sign m ↦ elim (sign b) [
        | minus_sign n ↦ by_right c0 c1 c2 p s e n
        | no_sign z ↦ absurd (not_zero ((c0 -ℤ c2) *ℤ (a *ℤ b)) h (second_factor (c0 -ℤ c2) a b z))
        | plus_sign n ↦ absurd (never_both ((c0 -ℤ c2) *ℤ (a *ℤ b)) h (negative_product (c0 -ℤ c2) (a *ℤ b) e (mul_positive a b m n)))
      ]
    ]

-- two numbers with a positive product and a positive sum
both_positive : (a b : ℤ) → pos 0 <ℤ (a *ℤ b) → pos 0 <ℤ (a +ℤ b) → (pos 0 <ℤ a) × (pos 0 <ℤ b)
both_positive a b h k = elim (sign a) [
  | plus_sign m ↦ (m, positive_factor a b m h)
  | no_sign z ↦ absurd (not_zero (a *ℤ b) h (ap (λ x. x *ℤ b) z ∙ zero-*ℤ b))
  | minus_sign m ↦ absurd (never_both (a *ℤ b) h (negative_product a b m (omega (arith, ints))))
]

pub positive_above : (c0 c1 c2 : ℤ) → pos 0 <ℤ (c0 +ℤ c2) → pos 0 <ℤ (c0 -ℤ c2) → pos 0 <ℤ fall_scale c0 c1 c2 → Leads c0 c1 c2
positive_above c0 c1 c2 s e k =
    let a = c0 +ℤ c2 -ℤ c1 in
    let b = c0 +ℤ c2 +ℤ c1 in
    let h : pos 0 <ℤ (a *ℤ b) = positive_factor (c0 -ℤ c2) (a *ℤ b) e (scale_sign c0 c1 c2 k) in
    let twice : pos 0 <ℤ (a +ℤ b) = omega (arith, ints) in
    let p = both_positive a b h twice in
    record { difference = e; sum = s; left = p.0; right = p.1 }

-- where the scale is positive: it leads, or one of the four is negative
pub positive_scale : (c0 c1 c2 : ℤ) → pos 0 <ℤ c0 → pos 0 <ℤ fall_scale c0 c1 c2 → Leads c0 c1 c2 ⊎ SomeNegative c0 c1 c2
positive_scale c0 c1 c2 p k = elim (sign (c0 +ℤ c2)) [
  | minus_sign s ↦ inr (inl s)
  | no_sign z ↦ inr (inr (inr (inr (rw (last_at_none c0 c1 c2 z) (minus_above (fall_scale c0 c1 c2) k)))))
  | plus_sign s ↦ elim (sign (c0 -ℤ c2)) [
    | minus_sign e ↦ inr (positive_below c0 c1 c2 p s e k)
    | no_sign z ↦ absurd (not_zero ((c0 -ℤ c2) *ℤ ((c0 +ℤ c2 -ℤ c1) *ℤ (c0 +ℤ c2 +ℤ c1))) (scale_sign c0 c1 c2 k) (lone_factor (c0 -ℤ c2) (c0 +ℤ c2 -ℤ c1) (c0 +ℤ c2 +ℤ c1) z))
    | plus_sign e ↦ inl (positive_above c0 c1 c2 s e k)
  ]
]

under_right : (c0 c1 c2 : ℤ) → pos 0 <ℤ c0 → (c0 +ℤ c2) <ℤ pos 0 → pos 0 <ℤ (c0 +ℤ c2 +ℤ c1) → SomePositive c0 c1 c2
under_right c0 c1 c2 p s b = elim (within (c0 +ℤ c2) (c0 -ℤ c2) c1 (c2 *ℤ c2) s (omega (arith, ints)) b (square_positive c2 (λ z. omega (arith, ints)))) [
  | inl h ↦ inr (inr (inl h))
  | inr h ↦ inr (inr (inr h))
]

under_left : (c0 c1 c2 : ℤ) → pos 0 <ℤ c0 → (c0 +ℤ c2) <ℤ pos 0 → pos 0 <ℤ (c0 +ℤ c2 -ℤ c1) → SomePositive c0 c1 c2
under_left c0 c1 c2 p s a = elim (within (c0 +ℤ c2) (c0 -ℤ c2) (neg_ℤ c1) (c2 *ℤ c2) s (omega (arith, ints)) a (square_positive c2 (λ z. omega (arith, ints)))) [
  | inl h ↦ inr (inl (rw (mirrored_right (c0 +ℤ c2) (c0 -ℤ c2) c1 (c2 *ℤ c2)) at h))
  | inr h ↦ inr (inr (inr (rw (mirrored_last (c0 +ℤ c2) (c0 -ℤ c2) c1 (c2 *ℤ c2)) at h)))
]

negative_sign : (c0 c1 c2 : ℤ) → fall_scale c0 c1 c2 <ℤ pos 0 → ((c0 -ℤ c2) *ℤ ((c0 +ℤ c2 -ℤ c1) *ℤ (c0 +ℤ c2 +ℤ c1))) <ℤ pos 0
negative_sign c0 c1 c2 k = rw (scale_factors c0 c1 c2) at k

-- where the scale is negative, one of the four is positive
pub negative_scale : (c0 c1 c2 : ℤ) → pos 0 <ℤ c0 → fall_scale c0 c1 c2 <ℤ pos 0 → SomePositive c0 c1 c2
negative_scale c0 c1 c2 p k =
    let a = c0 +ℤ c2 -ℤ c1 in
    let b = c0 +ℤ c2 +ℤ c1 in
    let h = negative_sign c0 c1 c2 k in
    elim (sign (c0 +ℤ c2)) [
      | plus_sign s ↦ inl s
      | no_sign z ↦ inr (inr (inr (rw (last_at_none c0 c1 c2 z) (minus_below (fall_scale c0 c1 c2) k))))
      | minus_sign s ↦ elim (sign b) [
        | plus_sign m ↦ under_right c0 c1 c2 p s m
        | no_sign z ↦ absurd (nor_zero ((c0 -ℤ c2) *ℤ (a *ℤ b)) h (second_factor (c0 -ℤ c2) a b z))
        | minus_sign m ↦ elim (sign a) [
          | plus_sign n ↦ under_left c0 c1 c2 p s n
          | no_sign z ↦ absurd (nor_zero ((c0 -ℤ c2) *ℤ (a *ℤ b)) h (first_factor (c0 -ℤ c2) a b z))
          | minus_sign n ↦ absurd (never_both ((c0 -ℤ c2) *ℤ (a *ℤ b)) (mul_positive (c0 -ℤ c2) (a *ℤ b) (omega (arith, ints)) (both_negative a b n m)) h)
        ]
      ]
    ]
