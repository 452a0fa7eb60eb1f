-- Exact values that are no words.
use Rattle.std.specs.Prelude.{◌≡◌, ℕ, List, take, slice_get, Some, ℤ}
use Rattle.std.specs.List.{All}
use Rattle.dsv_word.specs.declared.format.Format.{Format}
use Rattle.dsv_word.specs.Words.{IsWord}

-- the exact value of this number is v, which is no word, and those before it are words
pub record IsFirstOutside (format : Format) (exact : List ℤ) (value : ℕ) (v : ℤ) : Type 0 where
  pub words : All (IsWord format) (take value exact)
  pub first : slice_get exact value ≡ Some v
  pub outside : IsWord format v → ⊥
