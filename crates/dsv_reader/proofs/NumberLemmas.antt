-- The number that a token spells, by whether C reads its text as octal.
use Rattle.std.proofs.Common.{◌≡◌, ℕ, suc, ◌+◌, ◌<◌, true, false, List, [], ◌∷◌, ◌++◌, length, drop, get_or, drop-cons, refl, sym, ap, ◌∙◌, arith}
use Rattle.std.specs.Prelude.{Result, Ok, Err}
use Rattle.dsv_fraction.specs.Ratio.{Ratio}
use Rattle.dsv_fraction.specs.Decimal.{decimal_of}
use Rattle.dsv_fraction.specs.declared.decimal.DecimalRefusal.{DecimalRefusal}
use Rattle.dsv_token.specs.declared.refusal.FileRefusal.{FileRefusal}
use Rattle.dsv_token.specs.declared.token.Token.{Token}
use Rattle.dsv_reader.specs.Numbers.{text_at, is_octal, no_number, by_decimal, decimal_at, by_time, time_at, coefficients_from}
use Rattle.dsv_reader.specs.declared.numbers.Coefficient.{Coefficient}

pub octal_decimal : (bytes : List ℕ) (t : Token) → is_octal (text_at bytes t) ≡ true → decimal_at bytes t ≡ no_number t
octal_decimal bytes t e = rw e refl

pub plain_decimal : (bytes : List ℕ) (t : Token) (spelled : Result Ratio DecimalRefusal) → is_octal (text_at bytes t) ≡ false
    → spelled ≡ decimal_of (text_at bytes t) → by_decimal t spelled ≡ decimal_at bytes t
plain_decimal bytes t spelled e s = ap (by_decimal t) s ∙ rw e refl

pub octal_time : (bytes : List ℕ) (t : Token) → is_octal (text_at bytes t) ≡ true → time_at bytes t ≡ no_number t
octal_time bytes t e = rw e refl

pub plain_time : (bytes : List ℕ) (t : Token) (spelled : Result Ratio DecimalRefusal) → is_octal (text_at bytes t) ≡ false
    → spelled ≡ decimal_of (text_at bytes t) → by_time t spelled ≡ time_at bytes t
plain_time bytes t spelled e s = ap (by_time t) s ∙ rw e refl

-- ---- the coefficients of a list

from_place : (bytes : List ℕ) (ts : List Token) (i : ℕ) (d : Token) (out : List Coefficient) → i < length ts
    → coefficients_from bytes (drop i ts) out ≡ coefficients_from bytes (get_or ts i d ∷ drop (i + 1) ts) out
from_place bytes ts i d out h =
    let e : suc i ≡ i + 1 = omega arith in
    ap (λ l. coefficients_from bytes l out) (drop-cons ts i d h ∙ ap (λ k. get_or ts i d ∷ drop k ts) e)

pub coefficient_read : (bytes : List ℕ) (ts : List Token) (i : ℕ) (d : Token) (out : List Coefficient) (c : Coefficient) → i < length ts
    → decimal_at bytes (get_or ts i d) ≡ Ok c
    → coefficients_from bytes (drop (i + 1) ts) (out ++ c ∷ []) ≡ coefficients_from bytes (drop i ts) out
coefficient_read bytes ts i d out c h e = sym (from_place bytes ts i d out h ∙ rw e refl)

pub coefficient_refused : (bytes : List ℕ) (ts : List Token) (i : ℕ) (d : Token) (out : List Coefficient) (r : FileRefusal) → i < length ts
    → decimal_at bytes (get_or ts i d) ≡ Err r
    → Err r ≡ coefficients_from bytes (drop i ts) out
coefficient_refused bytes ts i d out r h e = sym (from_place bytes ts i d out h ∙ rw e refl)
