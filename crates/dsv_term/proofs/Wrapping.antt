-- What wraps at more bits and is then cut to fewer is the whole number modulo 2 to the fewer bits.
use Rattle.std.proofs.Common.{◌≡◌, ℕ, ◌+◌, ◌-◌, ◌*◌, ◌/◌, ◌%◌, ◌^◌, ◌<◌, ◌≤◌, suc, refl, arith, ap, sym, ◌∙◌, ℤ, pos, negsuc, neg_ℤ, ◌+ℤ◌, ◌-ℤ◌, ◌*ℤ◌, unsigned_abs}
use Rattle.std.specs.Int.{w128, cast_unsigned, cast_signed}
use Rattle.std.specs.Prelude.{FitsSigned}
use Rattle.std.proofs.Math.Pow.{mod-mod-pow}
use Rattle.std.proofs.Math.Nat.{mul_comm, mul_assoc, add-mul}
use Rattle.std.proofs.lemmas.Int.{int_rem_euclid_is, ints, to_z-of_z}
use Rattle.std.proofs.lemmas.Nat.{pow_pos, pow-add}
use Rattle.std.proofs.lemmas.Nat.Bits.{ones_shr}
use Rattle.dsv_term.specs.Word.{IsWidth, residue}

-- a word fits the 128 bits in which it is computed
pub narrow : {w : ℕ} → IsWidth w → w ≤ 128
narrow {w} h = omega (arith, h.narrow)

pub mask_is : (top w : ℕ) → w ≤ top → (2 ^ top - 1) / 2 ^ (top - w) ≡ 2 ^ w - 1
mask_is top w h = ones_shr top (top - w) (omega arith) ∙ ap (λ k. 2 ^ k - 1) (omega arith)

-- cut twice
pub mod_twice : (top w n : ℕ) → w ≤ top → n % 2 ^ top % 2 ^ w ≡ n % 2 ^ w
mod_twice top w n h =
    let e : top ≡ (top - w) + w = omega arith in
    ap (λ t. n % 2 ^ t % 2 ^ w) e ∙ mod-mod-pow n (top - w) w

pow_split : (top w : ℕ) → w ≤ top → 2 ^ (top - w) * 2 ^ w ≡ 2 ^ top
pow_split top w h = sym (pow-add 2 (top - w) w) ∙ ap (λ k. 2 ^ k) (omega arith)

-- a number that differs by a multiple of 2 to the width
pub residue_is : (w : ℕ) (z : ℤ) (k m : ℕ) → z +ℤ pos (k * 2 ^ w) ≡ pos m → residue w z ≡ m % 2 ^ w
residue_is w z k m e = ap unsigned_abs (int_rem_euclid_is z (pos (2 ^ w)) (2 ^ w) k m (pow_pos w) refl e)

pub difference_wraps : (top w a b : ℕ) → w ≤ top → b < 2 ^ top → (a + (2 ^ top - b)) % 2 ^ top % 2 ^ w ≡ residue w (pos a -ℤ pos b)
difference_wraps top w a b h small =
    let s = pow_split top w h in
    mod_twice top w (a + (2 ^ top - b)) h ∙ sym (residue_is w (pos a -ℤ pos b) (2 ^ (top - w)) (a + (2 ^ top - b)) (omega (arith, ints)))

negation_is : (w n k m : ℕ) → m + n ≡ k * 2 ^ w → residue w (neg_ℤ (pos n)) ≡ m % 2 ^ w
negation_is w n k m e = residue_is w (neg_ℤ (pos n)) k m (omega (arith, ints))

pub negation_wraps : (top w n : ℕ) → w ≤ top → n < 2 ^ top → (0 + (2 ^ top - n)) % 2 ^ top % 2 ^ w ≡ residue w (neg_ℤ (pos n))
negation_wraps top w n h small =
    let s = pow_split top w h in
    mod_twice top w (0 + (2 ^ top - n)) h ∙ sym (negation_is w n (2 ^ (top - w)) (0 + (2 ^ top - n)) (omega arith))

-- a signed number as a call passes it
pub passed : (z : ℤ) → FitsSigned w128 z → cast_unsigned w128 (cast_signed w128 (cast_unsigned w128 z)) ≡ cast_unsigned w128 z
passed z fits = ap (cast_unsigned w128) (to_z-of_z w128 z fits)

-- the bits of a signed number, cut
pub cast_wraps : (w : ℕ) (z : ℤ) → w ≤ 128 → FitsSigned w128 z → cast_unsigned w128 z % 2 ^ w ≡ residue w z
cast_wraps w (pos n) h fits = refl
cast_wraps w (negsuc n) h fits =
    let s = pow_split 128 w h in
    let small = fits.sfits in
    sym (negation_is w (suc n) (2 ^ (128 - w)) (2 ^ 128 - suc n) (omega arith))

product_split : (all k part s n : ℕ) → k * part ≡ all → s ≤ all → (all - s) * n + s * n ≡ k * n * part
product_split all k part s n e h =
    let f : (all - s) + s ≡ k * part = omega arith in
    sym (add-mul (all - s) s n) ∙ (ap (λ x. x * n) f ∙ (mul_assoc k part n ∙ (ap (λ x. k * x) (mul_comm part n) ∙ sym (mul_assoc k n part))))

pub product_wraps : (w : ℕ) (c : ℤ) (n : ℕ) → w ≤ 128 → FitsSigned w128 c → (cast_unsigned w128 c * n) % 2 ^ 128 % 2 ^ w ≡ residue w (c *ℤ pos n)
product_wraps w (pos m) n h fits = mod_twice 128 w (m * n) h
product_wraps w (negsuc m) n h fits =
    let s = pow_split 128 w h in
    let small = fits.sfits in
    mod_twice 128 w ((2 ^ 128 - suc m) * n) h
    ∙ sym (negation_is w (suc m * n) (2 ^ (128 - w) * n) ((2 ^ 128 - suc m) * n) (product_split (2 ^ 128) (2 ^ (128 - w)) (2 ^ w) (suc m) n s (omega arith)))
