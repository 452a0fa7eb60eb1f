-- The words of a side are no greater than what is asked of words that are expanded.
use Rattle.std.proofs.Common.{◌≡◌, ℕ, ◌-◌, ◌^◌, ◌<◌, ◌≤◌, List, [], ◌∷◌, length, drop, subst, sym, arith}
use Rattle.std.specs.Prelude.{slice_index_or}
use Rattle.std.specs.Int.RustNames.{unsigned_abs}
use Rattle.std.specs.List.{All}
use Rattle.std.proofs.Math.IntN.{ℤ, pos, negsuc, neg_ℤ, ◌-ℤ◌}
use Rattle.std.proofs.Math.Nat.{pow-le-pow_right}
use Rattle.std.proofs.lemmas.Int.{ints}
use Rattle.std.proofs.lemmas.List.Elements.{All-cons, All-weaker}
use lib.Signed.{◌≤ℤ◌}
use Rattle.dsv_delta.specs.ZCoefficients.{greatest_word}
use Rattle.dsv_word.specs.declared.format.Format.{Format}
use Rattle.dsv_word.specs.Words.{width, IsWord}
use Rattle.dsv_quantiser.specs.QuantisedView.{QuantisedView, IsQuantisedView, unit}

abbrev IsWithin : ℤ → Type 0
IsWithin w = unsigned_abs w ≤ greatest_word

sized : (c : ℤ) (h : ℕ) → h ≤ greatest_word → neg_ℤ (pos h) ≤ℤ c → c ≤ℤ (pos h -ℤ pos 1) → IsWithin c
sized (pos n) h p a b = omega (arith, ints)
sized (negsuc n) h p a b = omega (arith, ints)

word_within : (f : Format) (c : ℤ) → IsWord f c → IsWithin c
word_within f c w =
    let few : width f - 1 ≤ 47 = omega (arith, f.lawful) in
    let two : 0 < 2 = omega arith in
    let small : 2 ^ (width f - 1) ≤ 2 ^ 47 = pow-le-pow_right two few in
    sized c (2 ^ (width f - 1)) small w.low w.high

one_within : (f : Format) → IsWithin (unit f)
one_within f =
    let few : f.frac_bits ≤ 47 = omega (arith, f.lawful) in
    let two : 0 < 2 = omega arith in
    pow-le-pow_right two few

words_within : (f : Format) (ws : List ℤ) → All (IsWord f) ws → All IsWithin ws
words_within f ws h = All-weaker (IsWord f) IsWithin (word_within f) ws h

after_one : (f : Format) (ws : List ℤ) → 1 ≤ length ws → slice_index_or ws 0 (pos 0) ≡ unit f → All (IsWord f) (drop 1 ws) → All IsWithin ws
after_one f [] some e h = absurd (omega arith)
after_one f (w ∷ ws) some e h = All-cons IsWithin w ws (subst IsWithin (sym e) (one_within f)) (words_within f ws h)

pub b_within : (q : QuantisedView) → IsQuantisedView q → All (λ w. unsigned_abs w ≤ greatest_word) q.b
b_within q h = words_within q.format q.b h.b_words

pub a_within : (q : QuantisedView) → IsQuantisedView q → All (λ w. unsigned_abs w ≤ greatest_word) q.a
a_within q h = after_one q.format q.a h.some h.leading h.a_words

pub ruleset sizes = (b_within, a_within)
