-- What a number of a file says, and where it breaks the rule of its field.
use Rattle.std.specs.Prelude.{ℕ, Bool, ◌&&◌, nat_lt, nat_le, if◌then◌else◌}
use Rattle.std.specs.Prelude.{List, [], ◌∷◌, ◌++◌, length, take, drop, Option}
use Rattle.std.specs.Prelude.{Some, None, Result, Ok, Err, pos, int_lt}
use Rattle.std.specs.Int.RustNames.{unsigned_abs}
use Rattle.dsv_fraction.specs.Ratio.{Ratio}
use Rattle.dsv_text.specs.Bytes.{has_byte}
use Rattle.dsv_text.specs.Digits.{is_digits, short_number}
use Rattle.dsv_fraction.specs.Number.{sign_len}
use Rattle.dsv_fraction.specs.Decimal.{decimal_of}
use Rattle.dsv_fraction.specs.declared.decimal.DecimalRefusal.{DecimalRefusal}
use Rattle.dsv_fraction.specs.declared.decimal.DecimalRefusal.TheVariants as decimal
use Rattle.dsv_token.specs.declared.refusal.FileRefusal.{FileRefusal}
use Rattle.dsv_token.specs.declared.refusal.FileRefusal.TheVariants as refusal
use Rattle.dsv_token.specs.declared.token.Token.{Token}
use Rattle.dsv_text.specs.Stages.{◌>>=◌}
use Rattle.dsv_reader.specs.Limits.{most_digits, most_coefficients, time_limit}
use Rattle.dsv_reader.specs.declared.numbers.SpelledNumber.{SpelledNumber}
use Rattle.dsv_reader.specs.declared.numbers.Coefficient.{Coefficient}

abbrev pub digit_0 : ℕ
digit_0 = 48

-- the token's bytes
abbrev pub text_at : List ℕ → Token → List ℕ
text_at bytes t = take t.len (drop t.at bytes)

-- after its sign digits alone, more than one, the first of them 0: C reads it as octal
abbrev pub is_octal : List ℕ → Bool
is_octal text = let body = drop (sign_len text) text in
    is_digits body && nat_lt 1 (length body) && has_byte digit_0 body

abbrev pub no_number : {A : Type 0} → Token → Result A FileRefusal
no_number t = Err (refusal.Number t.at)

abbrev pub by_number : Token → Option ℕ → Result SpelledNumber FileRefusal
by_number t (Some n) = Ok (record { value = n; at = t.at })
by_number t None = no_number t

-- 1 to 18 digits, without sign, point, exponent or suffix
abbrev pub whole_number_at : List ℕ → Token → Result SpelledNumber FileRefusal
whole_number_at bytes t = let text = text_at bytes t in
    if is_octal text then no_number t else by_number t (short_number most_digits text)

-- a whole number from the least to the greatest
abbrev pub bounded_at : ℕ → ℕ → List ℕ → Token → Result ℕ FileRefusal
bounded_at least greatest bytes t = whole_number_at bytes t >>= λ w. if nat_le least w.value
    && nat_le w.value greatest then Ok w.value else no_number t

abbrev pub by_decimal : Token → Result Ratio DecimalRefusal → Result Coefficient FileRefusal
by_decimal t (Ok r) = Ok (record { value = r; at = t.at })
by_decimal t (Err decimal.TooWide) = Err (refusal.FractionWide t.at)
by_decimal t (Err r) = no_number t

abbrev pub decimal_at : List ℕ → Token → Result Coefficient FileRefusal
decimal_at bytes t = let text = text_at bytes t in
    if is_octal text then no_number t else by_decimal t (decimal_of text)

-- positive, with both parts below 2^62
abbrev pub is_time : Ratio → Bool
is_time r = int_lt (pos 0) r.num && nat_lt (unsigned_abs r.num) time_limit
    && nat_lt r.den time_limit

abbrev pub by_time : Token → Result Ratio DecimalRefusal → Result Ratio FileRefusal
by_time t (Ok r) = if is_time r then Ok r else no_number t
by_time t (Err r) = no_number t

abbrev pub time_at : List ℕ → Token → Result Ratio FileRefusal
time_at bytes t = let text = text_at bytes t in
    if is_octal text then no_number t else by_time t (decimal_of text)

-- ---- the numbers of a field
-- the one number of a field that wants one
abbrev pub only_of : ℕ → List Token → Result Token FileRefusal
only_of place [] = Err (refusal.Number place)
only_of place (t ∷ ts) = Ok t

-- the numbers of a list after those that were read
abbrev pub coefficients_from : List ℕ → List Token → List Coefficient
    → Result (List Coefficient) FileRefusal
coefficients_from bytes [] out = Ok out
coefficients_from bytes (t ∷ ts) out = decimal_at bytes t
    >>= λ c. coefficients_from bytes ts (out ++ c ∷ [])

-- the numbers of a list, which has one to nine
abbrev pub coefficients_of : List ℕ → ℕ → List Token → Result (List Coefficient) FileRefusal
coefficients_of bytes place ts =
    if nat_le 1 (length ts) && nat_le (length ts) most_coefficients
    then coefficients_from bytes ts [] else Err (refusal.Length place)

-- no number of a field that is passed over is octal
abbrev pub passed_over : List ℕ → List Token → Result (Unit {0}) FileRefusal
passed_over bytes [] = Ok tt
passed_over bytes (t ∷ ts) = if is_octal (text_at bytes t) then no_number t
    else passed_over bytes ts
