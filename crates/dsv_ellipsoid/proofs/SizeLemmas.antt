-- The sizes of the numbers that a check computes.
use Rattle.std.proofs.Common.{◌≡◌, ℕ, ◌-◌, ◌^◌, ◌≤◌, Bool, true, false, if◌then◌else◌, int_lt, length, drop, sym, arith}
use Rattle.std.specs.List.{All}
use Rattle.std.specs.Int.RustNames.{unsigned_abs}
use Rattle.std.proofs.Math.IntN.{ℤ, pos, ◌*ℤ◌}
use lib.Signed.{◌≤ℤ◌}
use Rattle.std.proofs.lemmas.Int.{ints, unsigned_abs-mul}
use Rattle.std.proofs.lemmas.Nat.{mul-le, pow_pos}
use Rattle.dsv_word.specs.declared.format.Format.{Format}
use Rattle.dsv_word.specs.Words.{width, hi, IsWord}
use Rattle.dsv_quantiser.specs.QuantisedView.{QuantisedView, IsQuantisedView}
use Rattle.dsv_meaning.specs.Summands.{IsSmallNumber}
use Rattle.dsv_meaning.proofs.Sizes.{word_is_small, words_are_small, feedback_is_small}
use Rattle.dsv_linear.specs.declared.range.Range.{Range}
use Rattle.dsv_linear.specs.Known.{is_word, are_words}
use Rattle.dsv_linear.proofs.Words.{is_word-true}
use Rattle.dsv_forms.proofs.Passing.{within_neg}
use Rattle.dsv_forms.proofs.Places.{both_tests}
use Rattle.dsv_ellipsoid.specs.Intervals.{AreWords, lesser, greater, input_interval, output_interval}
use Rattle.dsv_ellipsoid.specs.Walks.{HasSmallEnds}

pub product_size : (a b : ℤ) → IsSmallNumber a → IsSmallNumber b → unsigned_abs (a *ℤ b) ≤ 2 ^ 96
product_size a b h k = rw (unsigned_abs-mul a b) (omega (arith, mul-le (unsigned_abs a) (unsigned_abs b) (2 ^ 48) (2 ^ 48) h k))

pub ends_are_words : (f : Format) (r : Range) → are_words f r ≡ true → AreWords f r
ends_are_words f r h =
    let both = both_tests (is_word f r.low) (is_word f r.high) h in
    record { low = is_word-true f r.low both.0; high = is_word-true f r.high both.1 }

pub ends_are_small : (f : Format) (r : Range) → are_words f r ≡ true → HasSmallEnds r
ends_are_small f r h =
    let w = ends_are_words f r h in
    record { low = word_is_small f r.low w.low; high = word_is_small f r.high w.high }

pub inputs_are_small : (q : QuantisedView) → IsQuantisedView q → HasSmallEnds (input_interval q)
inputs_are_small q h =
    let low = word_is_small q.format q.xlo (record { low = h.low; high = omega (arith, ints, h.order, h.high) }) in
    let high = word_is_small q.format q.xhi (record { low = omega (arith, ints, h.low, h.order); high = h.high }) in
    record { low = either_small (int_lt (pos 0) q.xlo) q.xlo low; high = either_small (int_lt q.xhi (pos 0)) q.xhi high }
  where
    either_small : (b : Bool) (z : ℤ) → IsSmallNumber z → IsSmallNumber (if b then pos 0 else z)
    either_small true z h = omega (arith, ints)
    either_small false z h = h

pub outputs_are_small : (f : Format) (bound : ℤ) → pos 0 ≤ℤ bound → bound ≤ℤ hi (width f) → HasSmallEnds (output_interval bound)
outputs_are_small f bound p h =
    let word : IsWord f bound = (let q = pow_pos (width f - 1) in record { low = omega (arith, ints); high = h }) in
    let small = word_is_small f bound word in
    record { low = within_neg (2 ^ 48) bound small; high = small }

-- what is small of a controller's coefficients
pub record AreListsSmall (q : QuantisedView) : Type 0 where
  pub forward : All IsSmallNumber q.b
  pub feedback : All IsSmallNumber (drop 1 q.a)
  pub some : 1 ≤ length q.b
  pub few : length q.b ≤ 9
  pub same : length q.a ≡ length q.b

pub lists_are_small : (q : QuantisedView) → IsQuantisedView q → AreListsSmall q
lists_are_small q h =
    let some : 1 ≤ length q.b = omega (arith, h.one_length, h.some) in
    record {
      forward = words_are_small q.format q.b h.b_words;
      feedback = feedback_is_small q h;
      some = some;
      few = omega (arith, h.one_length, h.few);
      same = sym h.one_length;
    }

pub lesser_within : (n : ℕ) (a b : ℤ) → unsigned_abs a ≤ n → unsigned_abs b ≤ n → unsigned_abs (lesser a b) ≤ n
lesser_within n a b h k = either (int_lt b a)
  where
    either : (t : Bool) → unsigned_abs (if t then b else a) ≤ n
    either true = k
    either false = h

pub greater_within : (n : ℕ) (a b : ℤ) → unsigned_abs a ≤ n → unsigned_abs b ≤ n → unsigned_abs (greater a b) ≤ n
greater_within n a b h k = either (int_lt a b)
  where
    either : (t : Bool) → unsigned_abs (if t then b else a) ≤ n
    either true = k
    either false = h

pub counted_size : (n : ℕ) (z : ℤ) → n ≤ 9 → IsSmallNumber z → unsigned_abs (pos n *ℤ z) ≤ 2 ^ 60
counted_size n z h k = rw (unsigned_abs-mul (pos n) z) (omega (arith, mul-le (unsigned_abs (pos n)) (unsigned_abs z) 9 (2 ^ 48) h k))
