-- The sizes of products.
use Rattle.std.proofs.Common.{◌≡◌, ℕ, ◌-◌, ◌^◌, ◌<◌, ◌≤◌, Bool, true, false, List, length, drop, arith}
use Rattle.std.specs.Prelude.{MatchBool, slice_index_or}
use Rattle.std.specs.Int.RustNames.{unsigned_abs}
use Rattle.std.specs.List.{All}
use Rattle.std.proofs.lemmas.List.Elements.{All-weaker, All-drop}
use Rattle.std.proofs.Math.IntN.{ℤ, pos, negsuc, neg_ℤ, ◌*ℤ◌, ◌-ℤ◌}
use Rattle.std.proofs.lemmas.Int.{ints, unsigned_abs-mul, fits_signed_from_abs, to_z-of_z}
use Rattle.std.proofs.lemmas.Nat.{mul-le, pow_pos}
use lib.Signed.{◌≤ℤ◌}
use mir.Syntax.{w64, w128}
use mir.Val.{SFits, to_z, of_z}
use Rattle.dsv_word.specs.declared.format.Format.{Format}
use Rattle.dsv_word.specs.Words.{width, hi, IsWord}
use Rattle.dsv_word.proofs.Powers.{power_small}
use Rattle.dsv_quantiser.specs.QuantisedView.{QuantisedView, IsQuantisedView}
use Rattle.dsv_names.specs.Realisations.{is_delta}
use Rattle.dsv_meaning.specs.Summands.{IsSmallNumber}

sized : (c : ℤ) (h : ℕ) → h ≤ 2 ^ 48 → neg_ℤ (pos h) ≤ℤ c → c ≤ℤ (pos h -ℤ pos 1) → unsigned_abs c ≤ 2 ^ 48
sized (pos n) h p a b = omega (arith, ints)
sized (negsuc n) h p a b = omega (arith, ints)

-- a word is at most 2^48 in size
word_size : (f : Format) (c : ℤ) → IsWord f c → unsigned_abs c ≤ 2 ^ 48
word_size f c w = sized c (2 ^ (width f - 1)) (power_small (width f - 1) (omega (arith, f.lawful))) w.low w.high

pub word_is_small : (f : Format) (c : ℤ) → IsWord f c → IsSmallNumber c
word_is_small f c w = word_size f c w

pub words_are_small : (f : Format) (cs : List ℤ) → All (IsWord f) cs → All IsSmallNumber cs
words_are_small f cs h = All-weaker (IsWord f) IsSmallNumber (word_is_small f) cs h

-- the coefficients after the first of either list
pub forward_is_small : (q : QuantisedView) → IsQuantisedView q → All IsSmallNumber (drop 1 q.b)
forward_is_small q h = words_are_small q.format (drop 1 q.b) (All-drop (IsWord q.format) 1 q.b h.b_words)

pub feedback_is_small : (q : QuantisedView) → IsQuantisedView q → All IsSmallNumber (drop 1 q.a)
feedback_is_small q h = words_are_small q.format (drop 1 q.a) h.a_words

-- a word as a call passes it
passed_is_small : (f : Format) (c : ℤ) → IsWord f c → IsSmallNumber (to_z w64 (of_z w64 c))
passed_is_small f c w =
    let small = word_is_small f c w in
    rw (to_z-of_z w64 c (fits_signed_from_abs w64 c (omega (arith, small)))) small

pub first_is_small : (q : QuantisedView) → IsQuantisedView q → IsSmallNumber (to_z w64 (of_z w64 (slice_index_or q.b 0 (pos 0))))
first_is_small q h =
    let some : 0 < length q.b = omega (arith, h.one_length, h.some) in
    passed_is_small q.format (slice_index_or q.b 0 (pos 0)) (h.b_words 0 (pos 0) some)

-- ---- products
pub fits_size : (w : ℤ) → SFits w64 w → unsigned_abs w ≤ 2 ^ 63
fits_size (pos n) h = let k = h.sfits in omega (arith, k)
fits_size (negsuc n) h = let k = h.sfits in omega (arith, k)

pub product_size : (c w : ℤ) → IsSmallNumber c → unsigned_abs w ≤ 2 ^ 63 → unsigned_abs (c *ℤ w) ≤ 2 ^ 111
product_size c w small h =
    rw (unsigned_abs-mul c w) (omega (arith, mul-le (unsigned_abs c) (unsigned_abs w) (2 ^ 48) (2 ^ 63) small h))

pub small_fits : (v : ℤ) → unsigned_abs v ≤ 2 ^ 111 → SFits w128 v
small_fits (pos n) h = record { sfits = omega arith }
small_fits (negsuc n) h = record { sfits = omega arith }

pub between_fits : (v : ℤ) → neg_ℤ (pos (2 ^ 116)) ≤ℤ v → v ≤ℤ pos (2 ^ 116) → SFits w128 v
between_fits (pos n) l h = record { sfits = omega (arith, ints) }
between_fits (negsuc n) l h = record { sfits = omega (arith, ints) }

word_by : (f : Format) (d : ℤ) (b : Bool) → MatchBool b ((pos 1 ≤ℤ d) × (d ≤ℤ hi (width f))) (d ≡ pos 0) → IsWord f d
word_by f d true h = let p = pow_pos (width f - 1) in let l : pos 1 ≤ℤ d = h.0 in record { low = omega (arith, ints); high = h.1 }
word_by f d false h = let p = pow_pos (width f - 1) in let e : d ≡ pos 0 = h in record { low = omega (arith, ints); high = omega (arith, ints) }

pub delta_is_word : (q : QuantisedView) (d : ℤ) → IsQuantisedView q → d ≡ q.delta → IsWord q.format d
delta_is_word q d h e = rw e (word_by q.format q.delta (is_delta q.realisation) h.delta)

pub delta_is_small : (q : QuantisedView) (d : ℤ) → IsQuantisedView q → d ≡ q.delta → IsSmallNumber (to_z w64 (of_z w64 d))
delta_is_small q d h e = passed_is_small q.format d (delta_is_word q d h e)
