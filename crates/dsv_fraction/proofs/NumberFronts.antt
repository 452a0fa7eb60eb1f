-- What is measured of a number's text is a number's text.
use Rattle.std.proofs.Common.{◌≡◌, ℕ, ◌+◌, ◌-◌, ◌<◌, ◌≤◌, Bool, true, false, not, ◌&&◌, ◌||◌, ◌==◌, cond, List, [], ◌∷◌, ◌++◌, length, take, drop, refl, sym, ap, ◌∙◌, subst, arith, append_assoc, length-drop}
use Rattle.std.proofs.lemmas.Bool.{cond_both, and_parts, eqb-true}
use Rattle.std.proofs.lemmas.List.{length-take-le}
use Rattle.std.proofs.Math.Seq.{take-add}
use Rattle.std.specs.Prelude.{codes}
use Rattle.dsv_text.specs.Bytes.{has_byte}
use Rattle.dsv_text.specs.Digits.{digits_len}
use Rattle.dsv_text.proofs.DigitLemmas.{digits_within, leading_are_digits}
use Rattle.dsv_fraction.specs.Number.{sign_len, suffix_len, whole_len, has_mark, exponent_len, number_len}
use Rattle.dsv_fraction.specs.NumberText.{AreDigits, IsSign, IsBody, IsMark, IsExponent, IsSuffix, IsNumberText}

-- a part of such a length stands at the front of the text
pub record Begins (P : List ℕ → Type 0) (n : ℕ) (text : List ℕ) : Type 0 where
  pub is : P (take n text)
  pub within : n ≤ length text

both_within : (n m : ℕ) (text : List ℕ) → n ≤ length text → m ≤ length (drop n text) → n + m ≤ length text
both_within n m text h k = let e : length (drop n text) ≡ length text - n = length-drop n text in omega (arith, h, k, e)

pub digits_prefix : (text : List ℕ) → Begins AreDigits (digits_len text) text
digits_prefix text = record { is = leading_are_digits text; within = digits_within text }

sign_at : (b : ℕ) (bs : List ℕ) (p q : Bool) → (b == 43) ≡ p → (b == 45) ≡ q → Begins IsSign (cond (p || q) 1 0) (b ∷ bs)
sign_at b bs true q h k = record { is = subst (λ x. IsSign (x ∷ [])) (sym (eqb-true b 43 h)) IsSign.plus; within = omega arith }
sign_at b bs false true h k = record { is = subst (λ x. IsSign (x ∷ [])) (sym (eqb-true b 45 k)) IsSign.minus; within = omega arith }
sign_at b bs false false h k = record { is = IsSign.none; within = omega arith }

pub sign_prefix : (text : List ℕ) → Begins IsSign (sign_len text) text
sign_prefix [] = record { is = IsSign.none; within = omega arith }
sign_prefix (b ∷ bs) = sign_at b bs (b == 43) (b == 45) refl refl

suffix_at : (b : ℕ) (bs : List ℕ) (p q r s : Bool) → (b == 102) ≡ p → (b == 70) ≡ q → (b == 108) ≡ r → (b == 76) ≡ s →
    Begins IsSuffix (cond (p || q || r || s) 1 0) (b ∷ bs)
suffix_at b bs true q r s h i j k = record { is = subst (λ x. IsSuffix (x ∷ [])) (sym (eqb-true b 102 h)) IsSuffix.small_f; within = omega arith }
suffix_at b bs false true r s h i j k = record { is = subst (λ x. IsSuffix (x ∷ [])) (sym (eqb-true b 70 i)) IsSuffix.large_f; within = omega arith }
suffix_at b bs false false true s h i j k = record { is = subst (λ x. IsSuffix (x ∷ [])) (sym (eqb-true b 108 j)) IsSuffix.small_l; within = omega arith }
suffix_at b bs false false false true h i j k = record { is = subst (λ x. IsSuffix (x ∷ [])) (sym (eqb-true b 76 k)) IsSuffix.large_l; within = omega arith }
suffix_at b bs false false false false h i j k = record { is = IsSuffix.none; within = omega arith }

pub suffix_prefix : (text : List ℕ) → Begins IsSuffix (suffix_len text) text
suffix_prefix [] = record { is = IsSuffix.none; within = omega arith }
suffix_prefix (b ∷ bs) = suffix_at b bs (b == 102) (b == 70) (b == 108) (b == 76) refl refl refl refl

-- ---- the body

-- a body's length by its digits and its point
abbrev pub by_point : List ℕ → ℕ → ℕ → ℕ
by_point text n p =
    let m = cond (p == 0) 0 (digits_len (drop (n + p) text)) in
    cond (n + m == 0) 0 (n + p + m)

point_first : (text : List ℕ) → has_byte 46 text ≡ true → (take 1 text ≡ codes ".") × (1 ≤ length text)
point_first [] h = absurd (cc)
point_first (b ∷ bs) h = (ap (λ x. x ∷ []) (eqb-true b 46 h), omega arith)

plain_body : (text : List ℕ) → 0 < by_point text (digits_len text) 0 → Begins IsBody (by_point text (digits_len text) 0) text
plain_body text =
    let n = digits_len text in
    cond_both (n + 0 == 0) 0 (n + 0 + 0) (λ k. 0 < k → Begins IsBody k text)
    (λ e h. absurd (omega (arith, h)))
    (λ e h.
    let z : n ≡ n + 0 + 0 = omega arith in
    let l : length (take n text) ≡ n = length-take-le n text (digits_within text) in
    subst (λ k. Begins IsBody k text) z (record { is = IsBody.whole (take n text) (leading_are_digits text) (omega (arith, l, h)); within = digits_within text }))

pointed_text : (text : List ℕ) (n m : ℕ) → take 1 (drop n text) ≡ codes "." → take (n + 1 + m) text ≡ take n text ++ (codes "." ++ take m (drop (n + 1) text))
pointed_text text n m p =
    take-add (n + 1) m text ∙ ap (λ t. t ++ take m (drop (n + 1) text)) (take-add n 1 text ∙ ap (λ t. take n text ++ t) p)
    ∙ append_assoc (take n text) (codes ".") (take m (drop (n + 1) text))

pointed_body : (text : List ℕ) → has_byte 46 (drop (digits_len text) text) ≡ true → 0 < by_point text (digits_len text) 1 → Begins IsBody (by_point text (digits_len text) 1) text
pointed_body text b =
    let n = digits_len text in
    let rest = drop (n + 1) text in
    let m = digits_len rest in
    let p = point_first (drop n text) b in
    cond_both (n + m == 0) 0 (n + 1 + m) (λ k. 0 < k → Begins IsBody k text)
    (λ e h. absurd (omega (arith, h)))
    (λ e h.
    let some : 0 < n + m = grind (arith, e) in
    let ln : length (take n text) ≡ n = length-take-le n text (digits_within text) in
    let lm : length (take m rest) ≡ m = length-take-le m rest (digits_within rest) in
    let w : n + 1 ≤ length text = both_within n 1 text (digits_within text) p.1 in
    record {
      is = subst IsBody (sym (pointed_text text n m p.0)) (IsBody.pointed (take n text) (take m rest) (leading_are_digits text) (leading_are_digits rest) (omega (arith, some, ln, lm)));
      within = both_within (n + 1) m text w (digits_within rest);
    })

body_at : (text : List ℕ) (t : Bool) → has_byte 46 (drop (digits_len text) text) ≡ t →
    0 < by_point text (digits_len text) (cond t 1 0) → Begins IsBody (by_point text (digits_len text) (cond t 1 0)) text
body_at text true b h = pointed_body text b h
body_at text false b h = plain_body text h

pub body_prefix : (text : List ℕ) → 0 < whole_len text → Begins IsBody (whole_len text) text
body_prefix text h = body_at text (has_byte 46 (drop (digits_len text) text)) refl h

-- ---- the exponent

mark_at : (b : ℕ) (bs : List ℕ) (p q : Bool) → (b == 101) ≡ p → (b == 69) ≡ q → (p || q) ≡ true → IsMark (take 1 (b ∷ bs))
mark_at b bs true q h k e = subst (λ x. IsMark (x ∷ [])) (sym (eqb-true b 101 h)) IsMark.small
mark_at b bs false true h k e = subst (λ x. IsMark (x ∷ [])) (sym (eqb-true b 69 k)) IsMark.large
mark_at b bs false false h k e = absurd (cc)

power_text : (text : List ℕ) (s n : ℕ) → take (1 + s + n) text ≡ take 1 text ++ (take s (drop 1 text) ++ take n (drop (1 + s) text))
power_text text s n =
    take-add (1 + s) n text ∙ ap (λ t. t ++ take n (drop (1 + s) text)) (take-add 1 s text)
    ∙ append_assoc (take 1 text) (take s (drop 1 text)) (take n (drop (1 + s) text))

pub exponent_prefix : (text : List ℕ) → Begins IsExponent (exponent_len text) text
exponent_prefix [] = record { is = IsExponent.none; within = omega arith }
exponent_prefix (b ∷ bs) =
    let text : List ℕ = b ∷ bs in
    let s = sign_len (drop 1 text) in
    let rest = drop (1 + s) text in
    let n = digits_len rest in
    let sign = sign_prefix (drop 1 text) in
    let digits = digits_prefix rest in
    cond_both (has_mark text && not (n == 0)) (1 + s + n) 0 (λ k. Begins IsExponent k text)
    (λ e.
    let p = and_parts (has_mark text) (not (n == 0)) e in
    let some : 0 < n = grind (arith, p.1) in
    let ln : length (take n rest) ≡ n = length-take-le n rest digits.within in
    let w : 1 + s ≤ length text = both_within 1 s text (omega arith) sign.within in
    record {
      is = subst IsExponent (sym (power_text text s n)) (IsExponent.power (take 1 text) (take s (drop 1 text)) (take n rest) (mark_at b bs (b == 101) (b == 69) refl refl p.0) sign.is digits.is (omega (arith, some, ln)));
      within = both_within (1 + s) n text w digits.within;
    })
    (λ e. record { is = IsExponent.none; within = omega arith })

-- ---- the number

number_text : (text : List ℕ) (s n e f : ℕ) → take (s + n + e + f) text ≡ take s text ++ (take n (drop s text) ++ (take e (drop (s + n) text) ++ take f (drop (s + n + e) text)))
number_text text s n e f =
    let a = take s text in
    let b = take n (drop s text) in
    let c = take e (drop (s + n) text) in
    let d = take f (drop (s + n + e) text) in
    take-add (s + n + e) f text ∙ ap (λ t. t ++ d) (take-add (s + n) e text ∙ ap (λ t. t ++ c) (take-add s n text))
    ∙ append_assoc (a ++ b) c d ∙ append_assoc a b (c ++ d)

-- what a length of 0 or more says of the front
abbrev Measured : List ℕ → ℕ → Type 0
Measured text len = (0 < len → IsNumberText (take len text)) × (len ≤ length text)

number_measured : (text : List ℕ) → Measured text (number_len text)
number_measured text =
    let s = sign_len text in
    let n = whole_len (drop s text) in
    let e = exponent_len (drop (s + n) text) in
    let f = suffix_len (drop (s + n + e) text) in
    let sign = sign_prefix text in
    let exponent = exponent_prefix (drop (s + n) text) in
    let suffix = suffix_prefix (drop (s + n + e) text) in
    cond_both (n == 0) 0 (s + n + e + f) (Measured text)
    (λ z. (λ h. absurd (omega (arith, h)), omega arith))
    (λ z.
    let some : 0 < n = grind (arith, z) in
    let body = body_prefix (drop s text) some in
    let w : s + n ≤ length text = both_within s n text sign.within body.within in
    let x : s + n + e ≤ length text = both_within (s + n) e text w exponent.within in (
      λ h. record {
        sign = take s text;
        body = take n (drop s text);
        exponent = take e (drop (s + n) text);
        suffix = take f (drop (s + n + e) text);
        split = number_text text s n e f;
        is_sign = sign.is;
        is_body = body.is;
        is_exponent = exponent.is;
        is_suffix = suffix.is;
      },
      both_within (s + n + e) f text x suffix.within,
    ))

pub number_prefix : (text : List ℕ) → 0 < number_len text → IsNumberText (take (number_len text) text)
number_prefix text = (number_measured text).0

pub number_within : (text : List ℕ) → number_len text ≤ length text
number_within text = (number_measured text).1
