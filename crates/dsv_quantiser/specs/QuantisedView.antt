-- Quantised controllers as contracts see them.
use Rattle.std.specs.Prelude.{◌≡◌, ◌≤◌, ◌^◌, Bool, List, length, drop, All}
use Rattle.std.specs.Prelude.{MatchBool, ℤ, pos, ◌≤ℤ◌, slice_index_or}
use Rattle.dsv_word.specs.declared.format.Format.{Format}
use Rattle.dsv_word.specs.Words.{width, lo, hi, IsWord}
use Rattle.dsv_names.specs.declared.realisation.Realisation.{Realisation}
use Rattle.dsv_names.specs.Realisations.{is_delta}
use Rattle.dsv_fraction.specs.Ratio.{most_coefficients}

-- the words of a controller, the range of its inputs, its format, its realisation, and whether its
-- accumulator is wide
pub record QuantisedView : Type 0 where
  pub b : List ℤ
  pub a : List ℤ
  pub delta : ℤ
  pub xlo : ℤ
  pub xhi : ℤ
  pub format : Format
  pub realisation : Realisation
  pub wide : Bool

-- the word of the number 1, which may lie above the greatest word
abbrev pub unit : Format → ℤ
unit format = pos (2 ^ format.frac_bits)

-- a positive word for the delta forms, and 0 for the direct ones
abbrev pub IsDeltaWord : Format → Realisation → ℤ → Type 0
IsDeltaWord format realisation w =
    MatchBool (is_delta realisation) ((pos 1 ≤ℤ w) × (w ≤ℤ hi (width format))) (w ≡ pos 0)

-- what is true of each quantised controller
pub record IsQuantisedView (q : QuantisedView) : Type 0 where
  pub one_length : length q.b ≡ length q.a
  pub some : 1 ≤ length q.a
  pub few : length q.a ≤ most_coefficients
  pub leading : slice_index_or q.a 0 (pos 0) ≡ unit q.format
  pub b_words : All (IsWord q.format) q.b
  pub a_words : All (IsWord q.format) (drop 1 q.a)
  pub delta : IsDeltaWord q.format q.realisation q.delta
  pub low : lo (width q.format) ≤ℤ q.xlo
  pub order : q.xlo ≤ℤ q.xhi
  pub high : q.xhi ≤ℤ hi (width q.format)
