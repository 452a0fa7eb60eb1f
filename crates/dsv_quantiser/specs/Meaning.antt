-- What the words of a controller mean.
use Rattle.std.specs.Prelude.{◌≡◌, ℕ, ◌^◌, ◌<◌, ◌≤◌, ◌↔◌, List, length, ℤ, pos}
use Rattle.std.specs.Prelude.{◌*ℤ◌, ◌≤ℤ◌, slice_index_or, MatchBool, Some, Ok, ◌<ℤ◌}
use Rattle.dsv_fraction.specs.Ratio.{Ratio, zero}
use Rattle.dsv_word.specs.declared.format.Format.{Format}
use Rattle.dsv_word.specs.Quotients.{IsRounded}
use Rattle.dsv_word.specs.Words.{width, lo, hi, IsWord}
use Rattle.dsv_reader.specs.Controllers.{ControllerView}
use Rattle.dsv_delta.specs.Deltas.{Lists, delta_lists}
use Rattle.dsv_names.specs.Realisations.{is_delta}
use Rattle.dsv_names.specs.declared.realisation.Realisation.{Realisation}
use Rattle.dsv_quantiser.specs.declared.range.InputRange.{InputRange}
use Rattle.dsv_quantiser.specs.QuantisedView.{QuantisedView, unit}

-- w is a word of the format, and it is q 2^f made whole by the format's rounding
pub record IsWordOf (format : Format) (q : Ratio) (w : ℤ) : Type 0 where
  pub word : IsWord format w
  pub rounded : IsRounded format.rounding (q.num *ℤ pos (2 ^ format.frac_bits)) q.den w

-- q ≤ w / 2^f
abbrev pub IsFrom : Format → Ratio → ℤ → Type 0
IsFrom format q w = (q.num *ℤ pos (2 ^ format.frac_bits)) ≤ℤ (w *ℤ pos q.den)

-- w / 2^f ≤ q
abbrev pub IsTo : Format → Ratio → ℤ → Type 0
IsTo format q w = (w *ℤ pos q.den) ≤ℤ (q.num *ℤ pos (2 ^ format.frac_bits))

-- the range is not empty, and it has the words that stand for a number from min to max, and no
-- others
pub record IsRangeOf (format : Format) (min max : Ratio) (r : InputRange) : Type 0 where
  pub low : lo (width format) ≤ℤ r.lo
  pub order : r.lo ≤ℤ r.hi
  pub high : r.hi ≤ℤ hi (width format)
  pub inputs : (w : ℤ) → IsWord format w → (r.lo ≤ℤ w) × (w ≤ℤ r.hi)
      ↔ IsFrom format min w × IsTo format max w

-- the quantised controller whose coefficients are made of b and a, with that word for delta
pub record IsInWords (c : ControllerView) (format : Format) (realisation : Realisation)
    (b a : List Ratio) (delta : ℤ) (q : QuantisedView) : Type 0 where
  pub same_format : q.format ≡ format
  pub same_realisation : q.realisation ≡ realisation
  pub same_delta : q.delta ≡ delta
  pub same_wide : q.wide ≡ c.wide
  pub leading : slice_index_or q.a 0 (pos 0) ≡ unit format
  pub b_places : length q.b ≡ length b
  pub a_places : length q.a ≡ length a
  pub b_words : (i : ℕ) → i < length b
      → IsWordOf format (slice_index_or b i zero) (slice_index_or q.b i (pos 0))
  pub a_words : (i : ℕ) → 1 ≤ i → i < length a
      → IsWordOf format (slice_index_or a i zero) (slice_index_or q.a i (pos 0))
  pub range : IsRangeOf format c.min c.max (record { lo = q.xlo; hi = q.xhi })

-- the coefficients are those in the delta operator with the exact delta, which is positive, and its
-- word is too
pub record IsOfDelta (c : ControllerView) (format : Format) (realisation : Realisation)
    (q : QuantisedView) : Type 0 where
  pub delta : Ratio
  pub exact : c.delta ≡ Some delta
  pub positive : pos 0 <ℤ delta.num
  pub word : IsWordOf format delta q.delta
  pub positive_word : pos 1 ≤ℤ q.delta
  pub lists : Lists
  pub converted : delta_lists c.b c.a delta ≡ Ok lists
  pub words : IsInWords c format realisation lists.b lists.a q.delta q

-- the quantised controller of the format, as the realisation computes it
abbrev pub IsQuantised : ControllerView → Format → Realisation → QuantisedView → Type 0
IsQuantised c format realisation q =
    MatchBool (is_delta realisation) (IsOfDelta c format realisation q)
    (IsInWords c format realisation c.b c.a (pos 0) q)
