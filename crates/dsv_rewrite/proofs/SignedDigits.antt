-- A number is twice what stands above its lowest signed digit, and that digit.
use Rattle.std.proofs.Common.{◌≡◌, ℕ, ◌-◌, ◌/◌, ◌%◌, ◌<◌, inl, inr, refl, arith, ap, ◌∙◌}
use Rattle.std.specs.Int.{int_div_euclid, int_rem_euclid}
use Rattle.std.proofs.Math.IntN.{ℤ, pos, negsuc, neg_ℤ, ◌+ℤ◌, ◌-ℤ◌}
use Rattle.std.specs.Prelude.{◌≤ℤ◌}
use Rattle.std.proofs.lemmas.Int.{ints}
use Rattle.std.proofs.lemmas.Nat.{div-add-mod', mod_below}
use Rattle.std.proofs.lemmas.Bool.{cases_lt}
use Rattle.dsv_algebra.proofs.Floors.{floored_is}
use Rattle.dsv_rewrite.specs.declared.digits.Digit.{Digit}
use Rattle.dsv_rewrite.specs.declared.digits.Digit.TheVariants.{Minus, Zero, Plus}
use Rattle.dsv_rewrite.specs.Digits.{lowest_digit, digit_value, above_digit}
use Rattle.dsv_rewrite.specs.Ready.{IsSmall}

halved : (z k : ℤ) → z ≡ k +ℤ k → int_div_euclid z (pos 2) ≡ k
halved z k e = let f = floored_is z 2 (omega arith) in omega (arith, ints, f.below, f.above)

-- what is left modulo 4
record IsRest (c q : ℤ) (r : ℕ) : Type 0 where
  below : r < 4
  is : c ≡ (q +ℤ q) +ℤ (q +ℤ q) +ℤ pos r
  rest : int_rem_euclid c (pos 4) ≡ pos r

record HasRest (c : ℤ) : Type 0 where
  by : ℤ
  left : ℕ
  is : IsRest c by left

rest_of : (c : ℤ) → HasRest c
rest_of (pos n) = record { by = pos (n / 4); left = n % 4; is = record { below = mod_below n 4 (omega arith); is = (let d = div-add-mod' n 4 in omega (arith, ints)); rest = refl } }
rest_of (negsuc n) =
    let b = mod_below n 4 (omega arith) in
    record { by = negsuc (n / 4); left = 4 - 1 - n % 4; is = record { below = omega arith; is = (let d = div-add-mod' n 4 in omega (arith, ints)); rest = refl } }

-- Twice what stands above the lowest digit, and that digit.
pub record IsSplit (c : ℤ) : Type 0 where
  pub is : c ≡ (above_digit c +ℤ above_digit c) +ℤ digit_value (lowest_digit c)

split_rest : (c q : ℤ) (r : ℕ) → IsRest c q r → IsSplit c
split_rest c q r h = elim (cases_lt r 1) [
  | inl a ↦
      let e : int_rem_euclid c (pos 4) ≡ pos 0 = h.rest ∙ ap pos (omega arith) in
      let z : r ≡ 0 = omega arith in
      let i = h.is in
      let k = halved (c -ℤ pos 0) (q +ℤ q) (omega (arith, ints)) in
      record { is = rw e (rw k (omega (arith, ints))) }
  | inr a ↦ elim (cases_lt r 2) [
    | inl b ↦
        let e : int_rem_euclid c (pos 4) ≡ pos 1 = h.rest ∙ ap pos (omega arith) in
        let z : r ≡ 1 = omega arith in
        let i = h.is in
        let k = halved (c -ℤ pos 1) (q +ℤ q) (omega (arith, ints)) in
        record { is = rw e (rw k (omega (arith, ints))) }
    | inr b ↦ elim (cases_lt r 3) [
      | inl d ↦
          let e : int_rem_euclid c (pos 4) ≡ pos 2 = h.rest ∙ ap pos (omega arith) in
          let z : r ≡ 2 = omega arith in
          let i = h.is in
          let k = halved (c -ℤ pos 0) (q +ℤ q +ℤ pos 1) (omega (arith, ints)) in
          record { is = rw e (rw k (omega (arith, ints))) }
      | inr d ↦
          let l = h.below in
          let e : int_rem_euclid c (pos 4) ≡ pos 3 = h.rest ∙ ap pos (omega arith) in
          let z : r ≡ 3 = omega arith in
          let i = h.is in
          let k = halved (c -ℤ negsuc 0) (q +ℤ q +ℤ pos 2) (omega (arith, ints)) in
          record { is = rw e (rw k (omega (arith, ints))) }
    ]
  ]
]

pub digit_split : (c : ℤ) → IsSplit c
digit_split c = let r = rest_of c in split_rest c r.by r.left r.is

digit_cases : (d : ℤ) (c a : ℤ) → neg_ℤ (pos 1) ≤ℤ d → d ≤ℤ pos 1 → c ≡ (a +ℤ a) +ℤ d → IsSmall c → IsSmall a
digit_cases d c a l h e s = record { low = omega (arith, ints, s.low); high = omega (arith, ints, s.high) }

pub above_small : (c : ℤ) → IsSmall c → IsSmall (above_digit c)
above_small c s = by (lowest_digit c) (digit_split c).is
  where
    by : (d : Digit) → c ≡ (above_digit c +ℤ above_digit c) +ℤ digit_value d → IsSmall (above_digit c)
    by Minus e = digit_cases (negsuc 0) c (above_digit c) (omega (arith, ints)) (omega (arith, ints)) e s
    by Zero e = digit_cases (pos 0) c (above_digit c) (omega (arith, ints)) (omega (arith, ints)) e s
    by Plus e = digit_cases (pos 1) c (above_digit c) (omega (arith, ints)) (omega (arith, ints)) e s
