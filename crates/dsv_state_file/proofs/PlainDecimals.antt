-- A decimal has no space and no line feed.
use Rattle.std.proofs.Common.{◌≡◌, ℕ, Bool, true, false, List, ◌++◌, Result, Ok, Err, refl}
use Rattle.std.specs.Prelude.{codes, not, if◌then◌else◌}
use Rattle.dsv_fraction.specs.Ratio.{Ratio}
use Rattle.dsv_fraction.specs.Decimal.{decimal_of}
use Rattle.dsv_fraction.specs.Number.{is_number, prefix_len}
use Rattle.dsv_fraction.specs.NumberText.{IsSign, IsBody, IsMark, IsExponent, IsSuffix, IsNumberText}
use Rattle.dsv_fraction.specs.declared.decimal.DecimalRefusal.{DecimalRefusal}
use Rattle.dsv_fraction.specs.declared.decimal.DecimalRefusal.TheVariants as refusal
use Rattle.dsv_fraction.proofs.LongestNumbers.{whole_law}
use Rattle.dsv_lines.specs.Texts.{IsPlain}
use Rattle.dsv_lines.proofs.WrittenLines.{plain-append}
use Rattle.dsv_lines.proofs.WrittenNumerals.{digits_plain}

sign_plain : (sign : List ℕ) → IsSign sign → IsPlain sign
sign_plain sign IsSign.none = refl
sign_plain sign IsSign.plus = refl
sign_plain sign IsSign.minus = refl

body_plain : (body : List ℕ) → IsBody body → IsPlain body
body_plain body (IsBody.whole ds h k) = digits_plain ds h
body_plain body (IsBody.pointed before after h i k) = plain-append before (codes "." ++ after) (digits_plain before h) (digits_plain after i)

mark_plain : (mark : List ℕ) → IsMark mark → IsPlain mark
mark_plain mark IsMark.small = refl
mark_plain mark IsMark.large = refl

exponent_plain : (exponent : List ℕ) → IsExponent exponent → IsPlain exponent
exponent_plain exponent IsExponent.none = refl
exponent_plain exponent (IsExponent.power mark sign ds m s h k) =
    plain-append mark (sign ++ ds) (mark_plain mark m) (plain-append sign ds (sign_plain sign s) (digits_plain ds h))

suffix_plain : (suffix : List ℕ) → IsSuffix suffix → IsPlain suffix
suffix_plain suffix IsSuffix.none = refl
suffix_plain suffix IsSuffix.small_f = refl
suffix_plain suffix IsSuffix.large_f = refl
suffix_plain suffix IsSuffix.small_l = refl
suffix_plain suffix IsSuffix.large_l = refl

number_plain : (text : List ℕ) → IsNumberText text → IsPlain text
number_plain text n =
    let parts : IsPlain (n.sign ++ (n.body ++ (n.exponent ++ n.suffix))) =
    plain-append n.sign (n.body ++ (n.exponent ++ n.suffix)) (sign_plain n.sign n.is_sign)
    (plain-append n.body (n.exponent ++ n.suffix) (body_plain n.body n.is_body)
    (plain-append n.exponent n.suffix (exponent_plain n.exponent n.is_exponent) (suffix_plain n.suffix n.is_suffix))) in
    rw (n.split) parts

number_step : (text : List ℕ) (value : Ratio) (rest : Result Ratio DecimalRefusal) (b : Bool)
    → (if not b then Err (refusal.NotDecimal (prefix_len text)) else rest) ≡ Ok value → b ≡ true
number_step text value rest true e = refl
number_step text value rest false e = absurd (cc)

pub decimal_plain : (text : List ℕ) (value : Ratio) → decimal_of text ≡ Ok value → IsPlain text
decimal_plain text value e = number_plain text ((whole_law text).0 (number_step text value _ (is_number text) e))
