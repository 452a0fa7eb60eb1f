-- The last byte of a number is a suffix's just where the number has one.
use Rattle.std.proofs.Common.{◌≡◌, ◌∙◌, ap, ℕ, ◌+◌, ◌-◌, ◌<◌, true, false, List, [], ◌∷◌, ◌++◌, length, drop, refl, arith, codes, inl, inr, length-append}
use Rattle.std.specs.Prelude.{◌==◌, ◌↔◌, ◌⊎◌}
use Rattle.std.specs.List.{list_all}
use Rattle.std.proofs.Math.Seq.{drop-append-add}
use Rattle.std.proofs.lemmas.Bool.{and_parts, both_ways}
use Rattle.std.proofs.lemmas.Bool.Decides.{nat_tests}
use Rattle.std.proofs.lemmas.List.{append-nil}
use Rattle.dsv_text.specs.Bytes.{is_digit}
use Rattle.dsv_fraction.specs.Number.{suffix_len}
use Rattle.dsv_fraction.specs.NumberText.{AreDigits, IsBody, IsExponent, IsSuffix, IsNumberText}
use Rattle.dsv_state_file.specs.Decimals.{has_suffix}

-- ---- the last byte of a text in parts
last_of_append : (xs ys : List ℕ) → 0 < length ys → drop (length (xs ++ ys) - 1) (xs ++ ys) ≡ drop (length ys - 1) ys
last_of_append xs ys h =
    let e : length (xs ++ ys) - 1 ≡ length xs + (length ys - 1) = omega (arith, length-append xs ys, h) in
    ap (λ k. drop k (xs ++ ys)) e ∙ drop-append-add xs ys (length ys - 1)

has_suffix-append : (xs ys : List ℕ) → 0 < length ys → has_suffix (xs ++ ys) ≡ has_suffix ys
has_suffix-append xs ys h = ap (λ t. suffix_len t == 1) (last_of_append xs ys h)

some_left : (xs ys : List ℕ) → 0 < length xs → 0 < length (xs ++ ys)
some_left xs ys h = omega (arith, length-append xs ys, h)

some_right : (xs ys : List ℕ) → 0 < length ys → 0 < length (xs ++ ys)
some_right xs ys h = omega (arith, length-append xs ys, h)

-- ---- parts of a number
digit_ends : (d : ℕ) → is_digit d ≡ true → has_suffix (d ∷ []) ≡ false
digit_ends d h = grind (arith, nat_tests)

digits_end : (ds : List ℕ) → AreDigits ds → 0 < length ds → has_suffix ds ≡ false
digits_end [] h k = absurd (omega (arith, k))
digits_end (d ∷ []) h k = digit_ends d (and_parts (is_digit d) true h).0
digits_end (d ∷ e ∷ ds) h k =
    has_suffix-append (d ∷ []) (e ∷ ds) (omega arith) ∙ digits_end (e ∷ ds) (and_parts (is_digit d) (list_all is_digit (e ∷ ds)) h).1 (omega arith)

point_ends : (after : List ℕ) → AreDigits after → has_suffix (codes "." ++ after) ≡ false
point_ends [] h = refl
point_ends (d ∷ ds) h = has_suffix-append (codes ".") (d ∷ ds) (omega arith) ∙ digits_end (d ∷ ds) h (omega arith)

body_ends : (body : List ℕ) → IsBody body → has_suffix body ≡ false
body_ends body (IsBody.whole ds h k) = digits_end ds h k
body_ends body (IsBody.pointed before after h i k) = has_suffix-append before (codes "." ++ after) (omega arith) ∙ point_ends after i

body_some : (body : List ℕ) → IsBody body → 0 < length body
body_some body (IsBody.whole ds h k) = k
body_some body (IsBody.pointed before after h i k) = some_right before (codes "." ++ after) (omega arith)

exponent_ends : (body exponent : List ℕ) → IsBody body → IsExponent exponent → has_suffix (body ++ exponent) ≡ false
exponent_ends body exponent b IsExponent.none = ap has_suffix (append-nil body) ∙ body_ends body b
exponent_ends body exponent b (IsExponent.power mark sign ds m s h k) =
    has_suffix-append body (mark ++ (sign ++ ds)) (some_right mark (sign ++ ds) (some_right sign ds k))
    ∙ has_suffix-append mark (sign ++ ds) (some_right sign ds k) ∙ has_suffix-append sign ds k ∙ digits_end ds h k

suffix_cases : (suffix : List ℕ) → IsSuffix suffix → (suffix ≡ []) ⊎ ((0 < length suffix) × (has_suffix suffix ≡ true))
suffix_cases suffix IsSuffix.none = inl refl
suffix_cases suffix IsSuffix.small_f = inr (omega arith, refl)
suffix_cases suffix IsSuffix.large_f = inr (omega arith, refl)
suffix_cases suffix IsSuffix.small_l = inr (omega arith, refl)
suffix_cases suffix IsSuffix.large_l = inr (omega arith, refl)

-- ---- the whole number
without_suffix : (sign body exponent suffix : List ℕ) → IsBody body → IsExponent exponent → suffix ≡ []
    → has_suffix (sign ++ (body ++ (exponent ++ suffix))) ≡ false
without_suffix sign body exponent suffix b e none =
    ap (λ t. has_suffix (sign ++ (body ++ t))) (ap (λ t. exponent ++ t) none ∙ append-nil exponent)
    ∙ has_suffix-append sign (body ++ exponent) (some_left body exponent (body_some body b)) ∙ exponent_ends body exponent b e

with_suffix : (sign body exponent suffix : List ℕ) → 0 < length suffix → has_suffix suffix ≡ true → has_suffix (sign ++ (body ++ (exponent ++ suffix))) ≡ true
with_suffix sign body exponent suffix some h =
    has_suffix-append sign (body ++ (exponent ++ suffix)) (some_right body (exponent ++ suffix) (some_right exponent suffix some))
    ∙ has_suffix-append body (exponent ++ suffix) (some_right exponent suffix some) ∙ has_suffix-append exponent suffix some ∙ h

pub suffix_law : (text : List ℕ) (number : IsNumberText text) → (has_suffix text ≡ false) ↔ (number.suffix ≡ [])
suffix_law text number = (
  λ h. elim (suffix_cases number.suffix number.is_suffix) [
    | inl none ↦ none
    | inr some ↦ absurd (both_ways (has_suffix text) h (ap has_suffix number.split ∙ with_suffix number.sign number.body number.exponent number.suffix some.0 some.1))
  ],
  λ none. ap has_suffix number.split ∙ without_suffix number.sign number.body number.exponent number.suffix number.is_body number.is_exponent none,
)
