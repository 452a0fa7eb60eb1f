-- Steps of reading numbers out of a model.
use Rattle.std.proofs.Common.{◌≡◌, ℕ, suc, ◌+◌, ◌-◌, ◌*◌, ◌^◌, ◌<◌, ◌≤◌, Bool, true, false, List, [], ◌∷◌, refl, arith, ap, sym, ◌∙◌, length, map, drop, get_or, drop-cons, length-drop}
use mir.Val.{bool_byte}
use Rattle.std.specs.Prelude.{All, slice_index}
use Rattle.std.proofs.lemmas.List.{length-map}
use Rattle.dsv_term.specs.Limits.{max_width}
use Rattle.dsv_term.specs.Word.{IsWidth}
use Rattle.dsv_blast.proofs.NodeValues.{width-at}
use Rattle.std.proofs.Math.Nat.{pow-le-pow_right}
use Rattle.dsv_cnf.specs.Literal.{Literal, literal_value}
use Rattle.dsv_blast.specs.Words.{bits_value, bit, number_of}
use Rattle.dsv_blast.specs.Blast.{bits_at, input_values}
use Rattle.dsv_blast.proofs.Copies.{bits-small}

-- one bit more, from the highest on
pub number-step : (v : ℕ → Bool) (ls : List Literal) (n i : ℕ) (d : Literal) → n ≡ length ls → i < n
    → number_of (bits_value v (drop (n - (i + 1)) ls)) ≡ bit (literal_value v (get_or ls (n - 1 - i) d)) + 2 * number_of (bits_value v (drop (n - i) ls))
number-step v ls n i d e h =
    let k = n - (i + 1) in
    let a : n - 1 - i ≡ k = omega arith in
    let b : n - i ≡ suc k = omega arith in
    let lt : k < length ls = omega arith in
    rw (a, b) (ap (λ ms. number_of (bits_value v ms)) (drop-cons ls k d lt))

pub number-narrow : (v : ℕ → Bool) (ls : List Literal) (k : ℕ) → 1 ≤ k → length ls ≤ 128 → number_of (bits_value v (drop k ls)) < 2 ^ 127
number-narrow v ls k some h =
    let s = bits-small v (drop k ls) in
    let j : length (drop k ls) ≤ 127 = omega (arith, length-drop k ls) in
    let p : 2 ^ length (drop k ls) ≤ 2 ^ 127 = pow-le-pow_right {n = 2} (omega arith) j in
    omega (arith, s, p)

pub values-step : (v : ℕ → Bool) (places : List (List Literal)) (i : ℕ) → i < length places → input_values (drop i places) v ≡ number_of (bits_value v (bits_at places i)) ∷ input_values (drop (i + 1) places) v
values-step v places i h = let e : suc i ≡ i + 1 = omega arith in ap (λ ps. input_values ps v) (drop-cons places i [] h) ∙ ap (λ k. number_of (bits_value v (bits_at places i)) ∷ input_values (drop k places) v) e

pub place-narrow : (places : List (List Literal)) (i : ℕ) → i < length places → All IsWidth (map length places) → length (bits_at places i) ≤ max_width
place-narrow places i h w =
    let k : i < length (map length places) = omega (arith, length-map places length) in
    let s = w i 0 k in
    let n : slice_index (map length places) i ≤ max_width = s.narrow in
    rw (← width-at places i) n

pub number-next : (v : ℕ → Bool) (ls : List Literal) (i m number : ℕ) (t : Bool) (l : Literal) → i < length ls → l ≡ get_or ls (length ls - 1 - i) l → t ≡ literal_value v l → m ≡ bit t
    → number ≡ number_of (bits_value v (drop (length ls - i) ls)) → m + 2 * number ≡ number_of (bits_value v (drop (length ls - (i + 1)) ls))
number-next v ls i m number t l h e f g k =
    let value : literal_value v (get_or ls (length ls - 1 - i) l) ≡ t = ap (literal_value v) (sym e) ∙ sym f in
    rw (g, k) (ap (λ b. bit b + 2 * number_of (bits_value v (drop (length ls - i) ls))) (sym value) ∙ sym (number-step v ls (length ls) i l refl h))

pub below-two : (m : ℕ) (t : Bool) → m ≡ bit t → m < 2
below-two m true e = omega arith
below-two m false e = omega arith

-- a truth as a number
pub byte-is : (t : Bool) → bool_byte t ≡ bit t
byte-is true = refl
byte-is false = refl
