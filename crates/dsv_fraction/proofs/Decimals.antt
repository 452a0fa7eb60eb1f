-- A text that passes the tests of a decimal.
use Rattle.std.proofs.Common.{◌≡◌, ◌∙◌, ℕ, ◌+◌, ◌≤◌, Bool, true, false, List, ◌++◌, length, drop, refl, sym, ap, arith, length-append}
use Rattle.std.specs.Prelude.{Some, None, if◌then◌else◌, Result, Ok, Err, IsErrAnd, nat_lt}
use Rattle.std.specs.Int.RustNames.{unsigned_abs}
use Rattle.std.proofs.Math.IntN.{ℤ, pos, ◌-ℤ◌}
use Rattle.dsv_fraction.specs.Ratio.{Ratio}
use Rattle.dsv_fraction.specs.Arithmetic.{bounded_ratio}
use Rattle.dsv_text.specs.Bytes.{has_byte}
use Rattle.dsv_text.specs.Digits.{digits_value, leading_digits}
use Rattle.dsv_fraction.specs.Number.{sign_len, whole_len, is_number}
use Rattle.dsv_fraction.specs.Decimal.{digits_after_point, exponent_of, decimal_value, decimal_of, or_too_wide}
use Rattle.dsv_fraction.specs.declared.decimal.DecimalRefusal.{DecimalRefusal}
use Rattle.dsv_fraction.specs.declared.decimal.DecimalRefusal.TheVariants as refusal

not_above : (m n : ℕ) → n ≤ m → nat_lt m n ≡ false
not_above m n h = grind arith

small_is : (e z : ℤ) → Some e ≡ (if nat_lt 30 (unsigned_abs z) then None else Some z) → (e ≡ z) × (nat_lt 30 (unsigned_abs z) ≡ false)
small_is e z = elim (nat_lt 30 (unsigned_abs z)) as (λ b. Some e ≡ (if b then None else Some z) → (e ≡ z) × (b ≡ false)) [ true ↦ (λ h. cc) | false ↦ (λ h. (cc, refl)) ]

passed : (text : List ℕ) → is_number text ≡ true
    → let body = drop (sign_len text) text in
    let digits = leading_digits body ++ digits_after_point body in
    let exponent = exponent_of (drop (whole_len body) body) in
    length digits ≤ 18 → nat_lt 30 (unsigned_abs exponent) ≡ false
    → decimal_of text ≡ or_too_wide (bounded_ratio (decimal_value (has_byte 45 text) (digits_value 0 digits) (exponent -ℤ pos (length (digits_after_point body)))))
passed text a p q =
    let body = drop (sign_len text) text in
    let digits = leading_digits body ++ digits_after_point body in
    rw (a, not_above 18 (length digits) p, q) refl

given : (text body : List ℕ) → body ≡ drop (sign_len text) text → is_number text ≡ true
    → length (leading_digits body ++ digits_after_point body) ≤ 18 → nat_lt 30 (unsigned_abs (exponent_of (drop (whole_len body) body))) ≡ false
    → or_too_wide (bounded_ratio (decimal_value (has_byte 45 text) (digits_value 0 (leading_digits body ++ digits_after_point body)) (exponent_of (drop (whole_len body) body) -ℤ pos (length (digits_after_point body))))) ≡ decimal_of text
given text body e a p q = rw e (sym (passed text a (rw e at p) (rw e at q)))

-- what the last step of reading a decimal gives
pub read_is : (text body tail before after : List ℕ) (negative : Bool) (e z : ℤ)
    → true ≡ is_number text → body ≡ drop (sign_len text) text → tail ≡ drop (whole_len body) body
    → before ≡ leading_digits body → after ≡ digits_after_point body → length before + length after ≤ 18
    → Some e ≡ (if nat_lt 30 (unsigned_abs (exponent_of tail)) then None else Some (exponent_of tail)) → z ≡ e
    → negative ≡ has_byte 45 text
    → or_too_wide (bounded_ratio (decimal_value negative (digits_value 0 (leading_digits body ++ digits_after_point body)) (z -ℤ pos (length (digits_after_point body))))) ≡ decimal_of text
read_is text body tail before after negative e z a b t i j h x y s =
    let small = small_is e (exponent_of tail) x in
    let few : length (leading_digits body ++ digits_after_point body) ≤ 18 =
    omega (arith, h, ap length i, ap length j, length-append (leading_digits body) (digits_after_point body)) in
    rw (y, small.0, s, t) (given text body b (sym a) few (rw t at small.1))

pub err_is : (o : Result Ratio DecimalRefusal) → IsErrAnd o (λ e. e ≡ refusal.TooWide) → o ≡ Err refusal.TooWide
err_is (Ok r) h = absurd h
err_is (Err e) h = rw h refl

pub body_is : (text body : List ℕ) (m n : ℕ) → m ≡ n → body ≡ drop m text → body ≡ drop n text
body_is text body m n e f = f ∙ ap (λ k. drop k text) e
