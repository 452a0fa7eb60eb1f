-- What the words of a state-space controller mean.
use Rattle.std.specs.Prelude.{◌≡◌, ℕ, ◌<◌, List, length, ℤ, pos, slice_index_or, [], ◌∷◌}
use Rattle.dsv_fraction.specs.Ratio.{Ratio, zero}
use Rattle.dsv_word.specs.declared.format.Format.{Format}
use Rattle.dsv_quantiser.specs.Meaning.{IsWordOf, IsRangeOf}
use Rattle.dsv_state_file.specs.StateFiles.{StateFileView}
use Rattle.dsv_state_space.specs.StateView.{StateView}

-- as many words as numbers, each that number times 2^frac_bits made whole by the format's rounding
pub record AreWordsOf (format : Format) (numbers : List Ratio) (words : List ℤ) : Type 0 where
  pub places : length words ≡ length numbers
  pub each : (k : ℕ) → k < length numbers
      → IsWordOf format (slice_index_or numbers k zero) (slice_index_or words k (pos 0))

-- row by row
abbrev pub AreRowsOf : Format → List (List Ratio) → List (List ℤ) → Type 0
AreRowsOf format [] [] = Unit {0}
AreRowsOf format (numbers ∷ matrix) (words ∷ rows) =
    AreWordsOf format numbers words × AreRowsOf format matrix rows
AreRowsOf format _ _ = ⊥

-- the words of a state file in this format
pub record IsInStateWords (file : StateFileView) (format : Format) (s : StateView) : Type 0 where
  pub same_format : s.format ≡ format
  pub a : AreRowsOf format file.a s.a
  pub b : AreWordsOf format file.b s.b
  pub c : AreWordsOf format file.c s.c
  pub d : IsWordOf format file.d s.d
  pub range : IsRangeOf format file.min file.max (record { lo = s.xlo; hi = s.xhi })
