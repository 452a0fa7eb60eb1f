-- What the text of a decimal number says.
use Rattle.std.specs.Prelude.{◌≡◌, ◌<◌, ℕ, suc, ◌^◌, Bool, not, ◌==◌}
use Rattle.std.specs.Prelude.{nat_lt, if◌then◌else◌, List, [], ◌++◌, length}
use Rattle.std.specs.Prelude.{drop, Result, Ok, Err, ℤ, pos, negsuc, ◌-ℤ◌}
use Rattle.std.specs.Int.RustNames.{unsigned_abs}
use Rattle.dsv_fraction.specs.Ratio.{Ratio, part_limit}
use Rattle.dsv_fraction.specs.Arithmetic.{with_sign, times, bounded_ratio}
use Rattle.dsv_text.specs.Bytes.{has_byte}
use Rattle.dsv_text.specs.Digits.{digits_len, digits_value, leading_digits}
use Rattle.dsv_fraction.specs.Number.{sign_len, whole_len, exponent_len, is_number, prefix_len}
use Rattle.dsv_fraction.specs.declared.fraction.TooWide.{TooWide}
use Rattle.dsv_fraction.specs.declared.decimal.DecimalRefusal.{DecimalRefusal}
use Rattle.dsv_fraction.specs.declared.decimal.DecimalRefusal.TheVariants as refusal

-- the most digits that a decimal has before its exponent
abbrev pub most_digits : ℕ
most_digits = 18

-- the greatest size of a decimal's exponent
abbrev pub greatest_exponent : ℕ
greatest_exponent = 30

-- the digits after the point
abbrev pub digits_after_point : List ℕ → List ℕ
digits_after_point body = let rest = drop (digits_len body) body in
    if has_byte 46 rest then leading_digits (drop 1 rest) else []

-- the exponent that a text begins with, 0 where there is none
abbrev pub exponent_of : List ℕ → ℤ
exponent_of tail =
    let rest = drop 1 tail in
    if exponent_len tail == 0 then pos 0
    else with_sign (has_byte 45 rest)
    (digits_value 0 (leading_digits (drop (sign_len rest) rest)))

abbrev pub whole_ratio : ℤ → Ratio
whole_ratio z = record { num = z; den = 1 }

-- a whole number that doesn't pass 2^127
pub record IsWhole (r : Ratio) : Type 0 where
  pub is : r.den ≡ 1
  pub narrow : unsigned_abs r.num < part_limit

abbrev pub ten_to : ℕ → Ratio
ten_to k = record { num = pos (10 ^ k); den = 1 }

abbrev pub tenth_to : ℕ → Ratio
tenth_to k = record { num = pos 1; den = 10 ^ k }

abbrev pub power_of_ten : ℤ → Ratio
power_of_ten (pos k) = ten_to k
power_of_ten (negsuc k) = tenth_to (suc k)

abbrev pub or_too_wide : Result Ratio TooWide → Result Ratio DecimalRefusal
or_too_wide (Ok r) = Ok r
or_too_wide (Err e) = Err refusal.TooWide

-- sign times digits times 10^(exponent - places)
abbrev pub decimal_value : Bool → ℕ → ℤ → Ratio
decimal_value negative digits shift =
    times (whole_ratio (with_sign negative digits)) (power_of_ten shift)

-- the decimal that the text is, or the first refusal
abbrev pub decimal_of : List ℕ → Result Ratio DecimalRefusal
decimal_of text =
    let body = drop (sign_len text) text in
    let after = digits_after_point body in
    let digits = leading_digits body ++ after in
    let exponent = exponent_of (drop (whole_len body) body) in
    if not (is_number text) then Err (refusal.NotDecimal (prefix_len text))
    else if nat_lt most_digits (length digits) then Err refusal.Digits
    else if nat_lt greatest_exponent (unsigned_abs exponent) then Err refusal.Exponent
    else or_too_wide (bounded_ratio
    (decimal_value (has_byte 45 text) (digits_value 0 digits) (exponent -ℤ pos (length after))))
