-- The errors of rounded products.
use Rattle.std.proofs.Common.{◌≡◌, ℕ, zero, suc, ◌^◌, ◌==◌, ◌-◌, Bool, true, false, not, [], ◌∷◌, refl, ap, ◌∙◌, arith, rules}
use Rattle.std.proofs.Math.IntN.{ℤ, pos, ◌-ℤ◌, ◌*ℤ◌, neg_ℤ}
use Rattle.std.proofs.Math.Nat.{pow-suc}
use Rattle.std.proofs.lemmas.Nat.{pow_pos}
use Rattle.std.proofs.lemmas.Int.{ints}
use Rattle.std.specs.Int.{int_rem_euclid}
use Rattle.std.specs.Ordering.{int_eq}
use lib.Signed.{◌<ℤ◌, ◌≤ℤ◌}
use Rattle.dsv_algebra.specs.Floor.{floor_of}
use Rattle.dsv_algebra.proofs.Normaliser.{ring, env, var, plus, times, minus}
use Rattle.dsv_names.specs.declared.rounding.Rounding.{Rounding}
use Rattle.dsv_names.specs.declared.rounding.Rounding.TheVariants as rounding
use Rattle.dsv_word.specs.Quotients.{whole_shift}
use Rattle.dsv_word.proofs.Floors.{parted}
use Rattle.dsv_linear.specs.Facts.{Between}
use Rattle.dsv_linear.specs.Known.{error_range}
use Rattle.dsv_linear.proofs.Words.{errors_lie}
use Rattle.dsv_ellipsoid.specs.Disturbance.{is_rough, one_if}
use Rattle.dsv_roundoff.proofs.NoErrors.{none_between}

-- both ends are less than 2^f in size
record AreSmall (d first last : ℤ) : Type 0 where
  low : neg_ℤ d <ℤ first
  high : last <ℤ d
  order : first ≤ℤ pos 0
  above : pos 0 ≤ℤ last

near_small : (f : ℕ) → AreSmall (pos (2 ^ f)) (error_range rounding.Nearest f).low (error_range rounding.Nearest f).high
near_small zero = record { low = omega (arith, ints); high = omega (arith, ints); order = omega (arith, ints); above = omega (arith, ints) }
near_small (suc f) =
    let e : (suc f == 0) ≡ false = search rules in
    let g : suc f - 1 ≡ f = omega arith in
    let p = pow_pos f in
    let two = pow-suc 2 f in
    rw (e, g) (record { low = omega (arith, ints); high = omega (arith, ints); order = omega (arith, ints); above = omega (arith, ints) })

errors_small : (r : Rounding) (f : ℕ) → AreSmall (pos (2 ^ f)) (error_range r f).low (error_range r f).high
errors_small rounding.Floor f = let p = pow_pos f in record { low = omega (arith, ints); high = omega (arith, ints); order = omega (arith, ints); above = omega (arith, ints) }
errors_small rounding.Ceil f = let p = pow_pos f in record { low = omega (arith, ints); high = omega (arith, ints); order = omega (arith, ints); above = omega (arith, ints) }
errors_small rounding.Nearest f = near_small f

-- the error of a product by a multiple of 2^f is 0
whole_error : (r : Rounding) (f : ℕ) (c k w : ℤ) → c ≡ k *ℤ pos (2 ^ f) → pos (2 ^ f) *ℤ whole_shift r f (c *ℤ w) -ℤ c *ℤ w ≡ pos 0
whole_error r f c k w e =
    let m = whole_shift r f (c *ℤ w) in
    let d = pos (2 ^ f) in
    let h = errors_lie r f (c *ℤ w) in
    let s = errors_small r f in
    let g : d *ℤ m -ℤ c *ℤ w ≡ d *ℤ (m -ℤ k *ℤ w) =
    ap (λ z. d *ℤ m -ℤ z *ℤ w) e
    ∙ ring (env (d ∷ m ∷ k ∷ w ∷ [])) (plus (times (var 0) (var 1)) (minus (times (times (var 2) (var 0)) (var 3)))) (times (var 0) (plus (var 1) (minus (times (var 2) (var 3))))) refl in
    g ∙ none_between (2 ^ f) (m -ℤ k *ℤ w) (omega (arith, ints, g, h.least, s.low)) (omega (arith, ints, g, h.most, s.high))

is_zero : (z : ℤ) → not (int_eq z (pos 0)) ≡ false → z ≡ pos 0
is_zero z e = search rules

multiple : (f : ℕ) (c : ℤ) → is_rough f c ≡ false → c ≡ floor_of c (2 ^ f) *ℤ pos (2 ^ f)
multiple f c e =
    let p = parted c (2 ^ f) (pow_pos f) in
    let z = is_zero (int_rem_euclid c (pos (2 ^ f))) e in
    omega (arith, ints, p, z)

error_cases : (b : Bool) (r : Rounding) (f : ℕ) (c w : ℤ) → is_rough f c ≡ b
    → Between (one_if b *ℤ (error_range r f).low) (one_if b *ℤ (error_range r f).high) (pos (2 ^ f) *ℤ whole_shift r f (c *ℤ w) -ℤ c *ℤ w)
error_cases true r f c w e =
    let h = errors_lie r f (c *ℤ w) in
    record { least = omega (arith, ints, h.least); most = omega (arith, ints, h.most) }
error_cases false r f c w e =
    let z = whole_error r f c (floor_of c (2 ^ f)) w (multiple f c e) in
    record { least = omega (arith, ints, z); most = omega (arith, ints, z) }

-- the error of a rounded product
pub product_errors_lie : (r : Rounding) (f : ℕ) (c w : ℤ)
    → Between (one_if (is_rough f c) *ℤ (error_range r f).low) (one_if (is_rough f c) *ℤ (error_range r f).high) (pos (2 ^ f) *ℤ whole_shift r f (c *ℤ w) -ℤ c *ℤ w)
product_errors_lie r f c w = error_cases (is_rough f c) r f c w refl
