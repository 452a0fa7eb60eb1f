-- How a controller becomes words, and the first reason for which it can't.
use Rattle.std.specs.Prelude.{ℕ, List, [], ◌∷◌, ◌++◌, length, drop, Bool}
use Rattle.std.specs.Prelude.{◌&&◌, if◌then◌else◌, Result, Ok, Err}
use Rattle.std.specs.Prelude.{Option, Some, None, ℤ, pos, int_lt, int_le}
use Rattle.std.specs.Int.{int_max, int_min}
use Rattle.dsv_text.specs.Stages.{◌>>=◌}
use Rattle.dsv_algebra.specs.Floor.{floor_of}
use Rattle.dsv_fraction.specs.Ratio.{Ratio}
use Rattle.dsv_fraction.specs.declared.fraction.TooWide.{TooWide}
use Rattle.dsv_word.specs.declared.format.Format.{Format}
use Rattle.dsv_word.specs.Quotients.{ceiling_of, rounded_quotient, word_of}
use Rattle.dsv_word.specs.Words.{width, lo, hi}
use Rattle.dsv_delta.specs.declared.refusal.DeltaWide.{DeltaWide}
use Rattle.dsv_delta.specs.Deltas.{Lists, delta_lists}
use Rattle.dsv_reader.specs.Controllers.{ControllerView}
use Rattle.dsv_names.specs.declared.realisation.Realisation.{Realisation}
use Rattle.dsv_names.specs.declared.list_name.ListName.{ListName}
use Rattle.dsv_names.specs.declared.list_name.ListName.TheVariants as list
use Rattle.dsv_quantiser.specs.declared.range.InputRange.{InputRange}
use Rattle.dsv_quantiser.specs.declared.refusal.QuantRefusal.{QuantRefusal}
use Rattle.dsv_quantiser.specs.declared.refusal.QuantRefusal.TheVariants as refusal
use Rattle.dsv_names.specs.Realisations.{is_delta}
use Rattle.dsv_quantiser.specs.QuantisedView.{QuantisedView, unit}

-- ---- one number
-- the whole number that was made, where no part was too wide
abbrev pub or_wide : ListName → ℕ → Result ℤ TooWide → Result ℤ QuantRefusal
or_wide name i (Ok w) = Ok w
or_wide name i (Err e) = Err (refusal.FractionWide name i)

abbrev pub is_word : Format → ℤ → Bool
is_word format w = int_le (lo (width format)) w && int_le w (hi (width format))

abbrev pub fitting_word : Format → ListName → ℕ → ℤ → Result ℤ QuantRefusal
fitting_word format name i w = if is_word format w then Ok w
    else Err (refusal.CoefficientRange name i w)

-- the word of the fraction, which is number i of its list
abbrev pub word_at : Format → ListName → ℕ → Ratio → Result ℤ QuantRefusal
word_at format name i q =
    or_wide name i (word_of (rounded_quotient format.rounding) format.frac_bits q)
    >>= λ w. fitting_word format name i w

-- ---- lists
-- the words of the fractions after those that the list has so far
abbrev pub words_from : Format → ListName → List Ratio → List ℤ → Result (List ℤ) QuantRefusal
words_from format name [] out = Ok out
words_from format name (q ∷ qs) out = word_at format name (length out) q
    >>= λ w. words_from format name qs (out ++ w ∷ [])

-- the words of the numerator
abbrev pub b_words : Format → List Ratio → Result (List ℤ) QuantRefusal
b_words format b = words_from format list.B b []

-- the words of the denominator, whose leading coefficient is 1 and isn't tested
abbrev pub a_words : Format → List Ratio → Result (List ℤ) QuantRefusal
a_words format a = words_from format list.A (drop 1 a) (unit format ∷ [])

-- ---- the inputs
-- the words from the one end to the other, each end moved to the words of the format
abbrev pub clamped_range : Format → ℤ → ℤ → Result InputRange QuantRefusal
clamped_range format low high =
    let xlo = int_max low (lo (width format)) in
    let xhi = int_min high (hi (width format)) in
    if int_lt xhi xlo then Err (refusal.RangeEmpty xlo xhi) else Ok (record { lo = xlo; hi = xhi })

-- the words from min to max
abbrev pub range_of : Format → Ratio → Ratio → Result InputRange QuantRefusal
range_of format min max =
    or_wide list.Min 0 (word_of ceiling_of format.frac_bits min) >>= λ low.
    or_wide list.Max 0 (word_of floor_of format.frac_bits max)
    >>= λ high. clamped_range format low high

-- ---- all of it
-- the controller whose coefficients are these
abbrev pub in_words : ControllerView → Format → Realisation → List Ratio → List Ratio → ℤ
    → Result QuantisedView QuantRefusal
in_words c format realisation b a delta =
    b_words format b >>= λ num.
    a_words format a >>= λ den.
    range_of format c.min c.max >>= λ range.
    Ok (record {
      b = num;
      a = den;
      delta = delta;
      xlo = range.lo;
      xhi = range.hi;
      format = format;
      realisation = realisation;
      wide = c.wide;
    })

-- ---- delta
-- delta's word, which is positive
abbrev pub positive_word : Format → ℤ → Result ℤ QuantRefusal
positive_word format w = if int_le w (pos 0) then Err (refusal.DeltaNotPositive w)
    else fitting_word format list.Delta 0 w

abbrev pub delta_word : Format → Ratio → Result ℤ QuantRefusal
delta_word format delta =
    or_wide list.Delta 0 (word_of (rounded_quotient format.rounding) format.frac_bits delta)
    >>= λ w. positive_word format w

-- the lists in the delta operator, where none of their parts is too wide
abbrev pub converted_lists : Result Lists DeltaWide → Result Lists QuantRefusal
converted_lists (Ok lists) = Ok lists
converted_lists (Err e) = Err (refusal.FractionWide e.list e.index)

-- the controller of a delta form, by the exact delta
abbrev pub with_delta : ControllerView → Format → Realisation → Option Ratio
    → Result QuantisedView QuantRefusal
with_delta c format realisation None = Err (refusal.DeltaNotPositive (pos 0))
with_delta c format realisation (Some delta) =
    delta_word format delta >>= λ word.
    converted_lists (delta_lists c.b c.a delta) >>= λ lists.
    in_words c format realisation lists.b lists.a word

-- the quantised controller, or the first refusal
abbrev pub quantised_of : ControllerView → Format → Realisation → Result QuantisedView QuantRefusal
quantised_of c format realisation = if is_delta realisation
    then with_delta c format realisation c.delta else in_words c format realisation c.b c.a (pos 0)
