-- The text of a state-space controller's file, apart from how it is read.
use Rattle.std.specs.Prelude.{◌≡◌, ℕ, List, [], ◌∷◌, ◌++◌, map, codes, decimal, Ok}
use Rattle.std.specs.Prelude.{false}
use Rattle.std.specs.List.{flat_map}
use Rattle.dsv_fraction.specs.Ratio.{Ratio}
use Rattle.dsv_fraction.specs.Decimal.{decimal_of}
use Rattle.dsv_lines.specs.Texts.{Line, line_text}
use Rattle.dsv_state_file.specs.Decimals.{has_suffix}
use Rattle.dsv_state_file.specs.StateFiles.{StateFileView, IsStateFile}

-- the text is a decimal without a suffix, and this is its value
pub record IsDecimal (text : List ℕ) (value : Ratio) : Type 0 where
  pub is : decimal_of text ≡ Ok value
  pub bare : has_suffix text ≡ false

-- each text is a decimal without a suffix, and these are their values
abbrev pub AreDecimals : List (List ℕ) → List Ratio → Type 0
AreDecimals [] [] = Unit {0}
AreDecimals (text ∷ texts) (value ∷ values) = IsDecimal text value × AreDecimals texts values
AreDecimals [] (value ∷ values) = ⊥
AreDecimals (text ∷ texts) [] = ⊥

-- the same, row by row
abbrev pub AreRows : List (List (List ℕ)) → List (List Ratio) → Type 0
AreRows [] [] = Unit {0}
AreRows (texts ∷ rows) (values ∷ matrix) = AreDecimals texts values × AreRows rows matrix
AreRows [] (values ∷ matrix) = ⊥
AreRows (texts ∷ rows) [] = ⊥

-- how the numbers of a file are written that may be written in several ways
pub record Numbers : Type 0 where
  pub min : List ℕ
  pub max : List ℕ
  pub a : List (List (List ℕ))
  pub b : List (List ℕ)
  pub c : List (List ℕ)
  pub d : List ℕ

-- the lines of the file, each as its words
abbrev pub state_lines : StateFileView → Numbers → List Line
state_lines file numbers =
    (codes "dsv-state-space" ∷ codes "1" ∷ [])
    ∷ (codes "format" ∷ decimal file.int_bits ∷ decimal file.frac_bits ∷ [])
    ∷ (codes "range" ∷ numbers.min ∷ numbers.max ∷ [])
    ∷ (codes "states" ∷ decimal file.states ∷ [])
    ∷ (map (λ row. codes "a" ∷ row) numbers.a
    ++ (codes "b" ∷ numbers.b)
    ∷ (codes "c" ∷ numbers.c)
    ∷ (codes "d" ∷ numbers.d ∷ [])
    ∷ (codes "end" ∷ [])
    ∷ [])

-- The text is one of the file: its lines, of words joined by one space and ended by a line feed,
-- with any decimals that have the file's values.
pub record IsStateText (text : List ℕ) (file : StateFileView) : Type 0 where
  pub numbers : Numbers
  pub lines : text ≡ flat_map line_text (state_lines file numbers)
  pub min : IsDecimal numbers.min file.min
  pub max : IsDecimal numbers.max file.max
  pub a : AreRows numbers.a file.a
  pub b : AreDecimals numbers.b file.b
  pub c : AreDecimals numbers.c file.c
  pub d : IsDecimal numbers.d file.d
  pub lawful : IsStateFile file
