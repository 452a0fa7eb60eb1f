-- Ranges of inputs.
use Rattle.std.proofs.Common.{◌≡◌, ℕ, ◌^◌, ◌↔◌, [], ◌∷◌, true, false, refl, sym, ap, ◌∙◌, arith, Result, Ok, Err, IfOk, if◌then◌else◌, int_lt}
use Rattle.std.proofs.Math.IntN.{ℤ, pos, ◌+ℤ◌, ◌-ℤ◌, ◌*ℤ◌, neg_ℤ}
use Rattle.std.proofs.lemmas.Int.{ints, clamps}
use Rattle.std.specs.Int.{int_max, int_min}
use lib.Signed.{◌<ℤ◌, ◌≤ℤ◌}
use Rattle.dsv_algebra.specs.Floor.{IsFloor}
use Rattle.dsv_algebra.proofs.Normaliser.{ring, env, var, num, plus, times, minus}
use Rattle.dsv_algebra.proofs.Signs.{mul_not_negative, positive_factor}
use Rattle.dsv_fraction.specs.Ratio.{Ratio}
use Rattle.dsv_word.specs.declared.format.Format.{Format}
use Rattle.dsv_word.specs.Quotients.{IsCeiling}
use Rattle.dsv_word.specs.Words.{width, lo, hi}
use Rattle.dsv_quantiser.specs.declared.range.InputRange.{InputRange}
use Rattle.dsv_quantiser.specs.declared.refusal.QuantRefusal.{QuantRefusal}
use Rattle.dsv_quantiser.specs.declared.refusal.QuantRefusal.TheVariants as refusal
use Rattle.dsv_quantiser.specs.Quantising.{clamped_range}
use Rattle.dsv_quantiser.specs.Meaning.{IsRangeOf}
use Rattle.dsv_quantiser.specs.Parts.{IsClamped}

pub empty_range : (f : Format) (low high x y : ℤ) → x ≡ int_max low (lo (width f)) → y ≡ int_min high (hi (width f)) → int_lt y x ≡ true
    → Err (refusal.RangeEmpty x y) ≡ clamped_range f low high
empty_range f low high x y e g h =
    sym (ap (λ z. if int_lt (int_min high (hi (width f))) z then Err (refusal.RangeEmpty z (int_min high (hi (width f)))) else Ok (record { lo = z; hi = int_min high (hi (width f)) })) (sym e)
    ∙ ap (λ z. if int_lt z x then Err (refusal.RangeEmpty x z) else Ok (record { lo = x; hi = z })) (sym g)
    ∙ ap (λ t. if t then Err (refusal.RangeEmpty x y) else Ok (record { lo = x; hi = y })) h)

pub some_range : (f : Format) (low high x y : ℤ) → x ≡ int_max low (lo (width f)) → y ≡ int_min high (hi (width f)) → int_lt y x ≡ false
    → Ok (record { lo = x; hi = y }) ≡ clamped_range f low high
some_range f low high x y e g h =
    sym (ap (λ z. if int_lt (int_min high (hi (width f))) z then Err (refusal.RangeEmpty z (int_min high (hi (width f)))) else Ok (record { lo = z; hi = int_min high (hi (width f)) })) (sym e)
    ∙ ap (λ z. if int_lt z x then Err (refusal.RangeEmpty x z) else Ok (record { lo = x; hi = z })) (sym g)
    ∙ ap (λ t. if t then Err (refusal.RangeEmpty x y) else Ok (record { lo = x; hi = y })) h)

-- ---- what it means
pub range_clamped : (f : Format) (low high x y : ℤ) → x ≡ int_max low (lo (width f)) → y ≡ int_min high (hi (width f)) → int_lt y x ≡ false
    → IsClamped f low high (record { lo = x; hi = y })
range_clamped f low high x y e g h = record {
  low_end = omega (arith, ints, clamps);
  order = omega (arith, ints);
  high_end = omega (arith, ints, clamps);
  inputs = λ w is. (λ p. (omega (arith, ints, clamps), omega (arith, ints, clamps)), λ p. (omega (arith, ints, clamps), omega (arith, ints, clamps)));
}

-- w is at most the floor of v / d exactly where w d is at most v
under_floor : (v : ℤ) (d : ℕ) (h w : ℤ) → IsFloor v d h → (w ≤ℤ h) ↔ ((w *ℤ pos d) ≤ℤ v)
under_floor v d h w is =
    let step : (h +ℤ pos 1) *ℤ pos d ≡ h *ℤ pos d +ℤ pos d =
    ring (env (h ∷ pos d ∷ [])) (times (plus (var 0) (num (pos 1))) (var 1)) (plus (times (var 0) (var 1)) (var 1)) refl in
    let positive : pos 0 <ℤ pos d = omega (arith, ints, is.below, is.above) in (
      λ p.
          let gap : pos d *ℤ (h -ℤ w) ≡ h *ℤ pos d -ℤ w *ℤ pos d =
          ring (env (h ∷ pos d ∷ w ∷ [])) (times (var 1) (plus (var 0) (minus (var 2)))) (plus (times (var 0) (var 1)) (minus (times (var 2) (var 1)))) refl in
          let some : pos 0 ≤ℤ (pos d *ℤ (h -ℤ w)) = mul_not_negative (pos d) (h -ℤ w) (omega (arith, ints)) (omega (arith, ints)) in
          omega (arith, ints, is.below),
      λ p.
          let gap : pos d *ℤ (h +ℤ pos 1 -ℤ w) ≡ (h +ℤ pos 1) *ℤ pos d -ℤ w *ℤ pos d =
          ring (env (h ∷ pos d ∷ w ∷ [])) (times (var 1) (plus (plus (var 0) (num (pos 1))) (minus (var 2)))) (plus (times (plus (var 0) (num (pos 1))) (var 1)) (minus (times (var 2) (var 1)))) refl in
          let some : pos 0 <ℤ (pos d *ℤ (h +ℤ pos 1 -ℤ w)) = omega (arith, ints, is.above) in
          let less : pos 0 <ℤ (h +ℤ pos 1 -ℤ w) = positive_factor (pos d) (h +ℤ pos 1 -ℤ w) positive some in
          omega (arith, ints),
    )

-- the same of the ceiling
over_ceiling : (v : ℤ) (d : ℕ) (h w : ℤ) → IsCeiling v d h → (h ≤ℤ w) ↔ (v ≤ℤ (w *ℤ pos d))
over_ceiling v d h w is =
    let turned : neg_ℤ w *ℤ pos d ≡ neg_ℤ (w *ℤ pos d) = ring (env (w ∷ pos d ∷ [])) (times (minus (var 0)) (var 1)) (minus (times (var 0) (var 1))) refl in
    let both = under_floor (neg_ℤ v) d (neg_ℤ h) (neg_ℤ w) is in (
      λ p. let q : (neg_ℤ w *ℤ pos d) ≤ℤ neg_ℤ v = both.0 (omega (arith, ints)) in omega (arith, ints),
      λ p. let q : neg_ℤ w ≤ℤ neg_ℤ h = both.1 (omega (arith, ints)) in omega (arith, ints),
    )

pub range_meant : (f : Format) (min max : Ratio) (low high : ℤ) (r : InputRange) → IsCeiling (min.num *ℤ pos (2 ^ f.frac_bits)) min.den low
    → IsFloor (max.num *ℤ pos (2 ^ f.frac_bits)) max.den high → IsClamped f low high r → IsRangeOf f min max r
range_meant f min max low high r up down is = record {
  low = is.low_end;
  order = is.order;
  high = is.high_end;
  inputs = λ w word.
      let lower = over_ceiling (min.num *ℤ pos (2 ^ f.frac_bits)) min.den low w up in
      let upper = under_floor (max.num *ℤ pos (2 ^ f.frac_bits)) max.den high w down in
      (λ p. let q = (is.inputs w word).0 p in (lower.0 q.0, upper.0 q.1), λ p. (is.inputs w word).1 (lower.1 p.0, upper.1 p.1));
}

pub range_given : (f : Format) (min max : Ratio) (low high : ℤ) (o : Result InputRange QuantRefusal) → IfOk o (IsClamped f low high)
    → IsCeiling (min.num *ℤ pos (2 ^ f.frac_bits)) min.den low → IsFloor (max.num *ℤ pos (2 ^ f.frac_bits)) max.den high → IfOk o (IsRangeOf f min max)
range_given f min max low high (Ok r) is up down = range_meant f min max low high r up down is
range_given f min max low high (Err e) is up down = is
