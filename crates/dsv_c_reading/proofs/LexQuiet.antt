-- Bytes inside a comment.
use Rattle.std.proofs.Common.{◌≡◌, ◌∙◌, ap, refl, arith, ℕ, suc, ◌+◌, ◌%◌, ◌^◌, ◌<◌, Bool, true, false, List, [], ◌∷◌, ◌++◌, Some, None, decimal, option_and_then}
use Rattle.std.specs.Prelude.{not, ◌==◌, ◌&&◌, option_map, if◌then◌else◌}
use Rattle.std.specs.List.{list_all}
use Rattle.std.specs.Fmt.{signed_decimal}
use Rattle.std.specs.Int.RustNames.{unsigned_abs}
use Rattle.std.specs.Str.{byte}
use Rattle.std.proofs.Math.IntN.{ℤ, pos, negsuc}
use Rattle.std.proofs.lemmas.Bool.{and_parts, and_from}
use Rattle.std.proofs.lemmas.Bool.Decides.{nat_tests}
use Rattle.std.proofs.lemmas.List.Folds.{list_all-append}
use Rattle.dsv_text.specs.Bytes.{is_digit}
use Rattle.dsv_lines.proofs.WrittenNumerals.{decimal_is}
use Rattle.dsv_c_reading.specs.Machines.{gone, after_out, steps}
use Rattle.dsv_c_reading.proofs.Runs.{steps_on}
use Rattle.dsv_c_reading.specs.Lexemes.{comment, may_join_lines, leaves, in_comment, lex_next}

-- no byte that ends a comment, or that may join lines
abbrev pub is_quiet : ℕ → Bool
is_quiet b = not (may_join_lines b) && not (b == byte "*")

-- such a text in a comment
pub record IsQuiet (text : List ℕ) : Type 0 where
  pub bytes : list_all is_quiet text ≡ true

not_true : (p : Bool) → not p ≡ true → p ≡ false
not_true true h = absurd (cc)
not_true false h = refl

quiet_byte : (b : ℕ) → is_quiet b ≡ true → in_comment false b ≡ leaves [] (comment false)
quiet_byte b h =
    let p = and_parts (not (may_join_lines b)) (not (b == byte "*")) h in
    ap (λ (p : Bool). if p then None else leaves [] (comment (b == byte "*"))) (not_true (may_join_lines b) p.0) ∙ ap (λ (p : Bool). leaves [] (comment p)) (not_true (b == byte "*") p.1)

pub quiet_runs : (text : List ℕ) → IsQuiet text → steps lex_next (comment false) text ≡ Some (gone [] (comment false))
quiet_runs text q = by text q.bytes
  where
    by : (text : List ℕ) → list_all is_quiet text ≡ true → steps lex_next (comment false) text ≡ Some (gone [] (comment false))
    by [] h = refl
    by (b ∷ bs) h =
        let p = and_parts (is_quiet b) (list_all is_quiet bs) h in
        ap (option_and_then (steps_on lex_next bs)) (quiet_byte b p.0) ∙ ap (option_map (after_out [])) (by bs p.1)

pub quiet_join : {x y : List ℕ} → IsQuiet x → IsQuiet y → IsQuiet (x ++ y)
quiet_join {x = x} {y = y} p q = record { bytes = list_all-append is_quiet x y ∙ and_from (list_all is_quiet x) (list_all is_quiet y) p.bytes q.bytes }

-- ---- numbers
quiet_digit : (d : ℕ) → is_digit d ≡ true → is_quiet d ≡ true
quiet_digit d h = grind (arith, nat_tests)

quiet_digits : (ds : List ℕ) → list_all is_digit ds ≡ true → list_all is_quiet ds ≡ true
quiet_digits [] h = refl
quiet_digits (d ∷ ds) h =
    let p = and_parts (is_digit d) (list_all is_digit ds) h in
    and_from (is_quiet d) (list_all is_quiet ds) (quiet_digit d p.0) (quiet_digits ds p.1)

pub quiet_decimal : (n : ℕ) → n < 10 ^ 64 → IsQuiet (decimal n)
quiet_decimal n h = record { bytes = quiet_digits (decimal n) (decimal_is n h).digits }

pub quiet_signed : (z : ℤ) → unsigned_abs z < 10 ^ 64 → IsQuiet (signed_decimal z)
quiet_signed (pos n) h = quiet_decimal n h
quiet_signed (negsuc n) h = record { bytes = (quiet_decimal (suc n) h).bytes }

-- a byte of the digit of a rest by 10
pub quiet_rest : (n : ℕ) → is_quiet (48 + n % 10) ≡ true
quiet_rest n = let h : n % 10 < 10 = omega arith in small (n % 10) h
  where
    small : (k : ℕ) → k < 10 → is_quiet (48 + k) ≡ true
    small k h = quiet_digit (48 + k) (grind (arith, nat_tests))
