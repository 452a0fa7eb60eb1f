-- The bytes that a number begins with.
use Rattle.std.proofs.Common.{◌≡◌, ℕ, suc, ◌+◌, ◌<◌, ◌≤◌, Bool, true, false, ◌&&◌, ◌||◌, ◌==◌, nat_le, cond, inl, inr, List, [], ◌∷◌, drop, refl, ap, ◌∙◌, arith}
use Rattle.std.proofs.lemmas.Bool.{cond_both, cases_Bool, both_ways, and_parts, or_cases, ne_eqb, eqb-true, leb-true}
use Rattle.dsv_text.specs.Bytes.{is_digit, is_letter}
use Rattle.dsv_text.specs.Digits.{digits_len}
use Rattle.dsv_fraction.specs.Number.{sign_len, point_len, suffix_len, whole_len, exponent_len, number_len}
use Rattle.dsv_token.specs.Pieces.{BeginsOther}
use Rattle.dsv_token.proofs.Runs.{either}

-- ---- the first byte

-- a number by its sign and its whole part
abbrev by_whole : ℕ → List ℕ → ℕ → ℕ
by_whole s text n =
    let e = exponent_len (drop (s + n) text) in
    cond (n == 0) 0 (s + n + e + suffix_len (drop (s + n + e) text))

no_whole : (text : List ℕ) → whole_len (drop (sign_len text) text) ≡ 0 → number_len text ≡ 0
no_whole text e = ap (λ n. by_whole (sign_len text) text n) e

some_whole : (text : List ℕ) → 0 < whole_len (drop (sign_len text) text) → 0 < number_len text
some_whole text h =
    let s = sign_len text in
    let n = whole_len (drop s text) in
    let e = exponent_len (drop (s + n) text) in
    cond_both (n == 0) 0 (s + n + e + suffix_len (drop (s + n + e) text)) (λ x. 0 < x) (λ k. let z : n ≡ 0 = eqb-true n 0 k in omega (arith, z, h)) (λ k. omega (arith, h))

digits_none : (b : ℕ) (bs : List ℕ) → is_digit b ≡ false → digits_len (b ∷ bs) ≡ 0
digits_none b bs h = either (is_digit b) (suc (digits_len bs)) 0 (λ n. n ≡ 0) (λ e. absurd (both_ways (is_digit b) h e)) (λ e. refl)

digits_some : (b : ℕ) (bs : List ℕ) → is_digit b ≡ true → 0 < digits_len (b ∷ bs)
digits_some b bs h = either (is_digit b) (suc (digits_len bs)) 0 (λ n. 0 < n) (λ e. omega arith) (λ e. absurd (both_ways (is_digit b) e h))

-- a whole part by its digits and its point
abbrev by_digits : List ℕ → ℕ → ℕ → ℕ
by_digits text n p =
    let m = cond (p == 0) 0 (digits_len (drop (n + p) text)) in
    cond (n + m == 0) 0 (n + p + m)

no_digits : (text : List ℕ) → digits_len text ≡ 0 → point_len text ≡ 0 → whole_len text ≡ 0
no_digits text e f =
    ap (λ n. by_digits text n (point_len (drop n text))) e ∙ ap (λ p. by_digits text 0 p) f

-- a whole part that begins with a point, by the digits after it
abbrev by_point : ℕ → ℕ
by_point m = cond (0 + m == 0) 0 (0 + 1 + m)

-- a point before no digit is no number
pub point_alone : (rest : List ℕ) → BeginsOther is_digit rest → number_len (46 ∷ rest) ≡ 0
point_alone [] h = refl
point_alone (b ∷ bs) h = no_whole (46 ∷ b ∷ bs) (ap by_point (digits_none b bs h))

point_digit : (b : ℕ) (bs : List ℕ) → is_digit b ≡ true → number_len (46 ∷ b ∷ bs) ≡ 0 → ⊥
point_digit b bs d h =
    let m = digits_len (b ∷ bs) in
    let k : 0 < m = digits_some b bs d in
    let w : 0 < by_point m = cond_both (0 + m == 0) 0 (0 + 1 + m) (λ x. 0 < x) (λ e. let z : 0 + m ≡ 0 = eqb-true (0 + m) 0 e in omega (arith, z, k)) (λ e. omega arith) in
    let n : 0 < number_len (46 ∷ b ∷ bs) = some_whole (46 ∷ b ∷ bs) w in
    omega (arith, n, h)

-- a point that begins no number stands before no digit
pub point_number : (rest : List ℕ) → number_len (46 ∷ rest) ≡ 0 → BeginsOther is_digit rest
point_number [] h = tt
point_number (b ∷ bs) h = elim (cases_Bool (is_digit b)) [ inl d ↦ absurd (point_digit b bs d h) | inr d ↦ d ]

-- no number begins with a letter
pub apart : (class : ℕ → Bool) (b c : ℕ) → class b ≡ true → class c ≡ false → (b == c) ≡ false
apart class b c h k = ne_eqb b c (λ e. both_ways (class b) (ap class e ∙ k) h)

letter_or_digit : (b : ℕ) → is_letter b ≡ true → is_digit b ≡ true → ⊥
letter_or_digit b h d =
    let p = and_parts (nat_le 48 b) (nat_le b 57) d in
    let low : 48 ≤ b = leb-true 48 b p.0 in
    let high : b ≤ 57 = leb-true b 57 p.1 in
    elim (or_cases (b == 95 || nat_le 97 b && nat_le b 122) (nat_le 65 b && nat_le b 90) h) [
      | inl l ↦ elim (or_cases (b == 95) (nat_le 97 b && nat_le b 122) l) [
        | inl e ↦ let f : b ≡ 95 = eqb-true b 95 e in omega (arith, f, high)
        | inr e ↦ let f : 97 ≤ b = leb-true 97 b (and_parts (nat_le 97 b) (nat_le b 122) e).0 in omega (arith, f, high)
      ]
      | inr r ↦ let f : 65 ≤ b = leb-true 65 b (and_parts (nat_le 65 b) (nat_le b 90) r).0 in omega (arith, f, high)
    ]

letter_no_digit : (b : ℕ) → is_letter b ≡ true → is_digit b ≡ false
letter_no_digit b h = elim (cases_Bool (is_digit b)) [ inl d ↦ absurd (letter_or_digit b h d) | inr d ↦ d ]

pub letter_no_number : (b : ℕ) (bs : List ℕ) → is_letter b ≡ true → number_len (b ∷ bs) ≡ 0
letter_no_number b bs h =
    let p : (b == 43) ≡ false = apart is_letter b 43 h refl in
    let q : (b == 45) ≡ false = apart is_letter b 45 h refl in
    let r : (b == 46) ≡ false = apart is_letter b 46 h refl in
    let s : is_digit b ≡ false = letter_no_digit b h in
    let z : sign_len (b ∷ bs) ≡ 0 = rw (p, q) refl in
    let w : whole_len (b ∷ bs) ≡ 0 = no_digits (b ∷ bs) (digits_none b bs s) (rw r refl) in
    no_whole (b ∷ bs) (ap (λ n. whole_len (drop n (b ∷ bs))) z ∙ w)

-- what begins no number isn't the first byte of one
pub no_start : (b c : ℕ) (bs : List ℕ) → number_len (c ∷ bs) ≡ 0 → 0 < number_len (b ∷ bs) → (b == c) ≡ false
no_start b c bs z h = ne_eqb b c (λ e. let k : 0 < number_len (c ∷ bs) = rw e at h in omega (arith, k, z))
