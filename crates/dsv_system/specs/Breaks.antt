-- Overflow: an exact value that is no word.
use Rattle.std.specs.Prelude.{◌≡◌, ℕ, ◌+◌, List, length, map, take, slice_get, Some, ℤ}
use Rattle.std.specs.List.{All, Contains}
use Rattle.dsv_word.specs.declared.format.Format.{Format}
use Rattle.dsv_word.specs.Words.{IsWord}
use Rattle.dsv_system.specs.Runs.{SampleRow}
use Rattle.dsv_system.specs.Systems.{Behaviour, zeros, AreInRange}

-- the row has an exact value that is no word
abbrev pub IsOutside : Format → SampleRow → Type 0
IsOutside f r = (e : ℤ) × Contains r.exact e × (IsWord f e → ⊥)

-- all exact values of the row are words
abbrev pub IsInside : Format → SampleRow → Type 0
IsInside f r = All (IsWord f) r.exact

-- Overflow: these inputs are in range, and from registers of zeros some sample has an exact value
-- that is no word.
pub record Breaks (b : Behaviour) (low high : ℤ) (xs : List ℤ) : Type 0 where
  pub in_range : AreInRange low high xs
  pub broken : (r : SampleRow) × Contains (b.rows (zeros b.many) xs) r × IsOutside b.format r

-- The first break in these rows: no earlier sample than this one has an exact value that is no
-- word, and in this sample the first such value has the number `value` and is `exact`. Samples and
-- values count from 0.
pub record IsFirstBreak (format : Format) (rows : List SampleRow) (sample value : ℕ) (exact : ℤ) :
    Type 0 where
  pub before : All (IsInside format) (take sample rows)
  pub row : SampleRow
  pub here : slice_get rows sample ≡ Some row
  pub words : All (IsWord format) (take value row.exact)
  pub first : slice_get row.exact value ≡ Some exact
  pub outside : IsWord format exact → ⊥

-- Replayed trace: the inputs are in range and one more than the number of the sample; these are the
-- outputs from registers of zeros, and this is their first break.
pub record Replays (b : Behaviour) (low high : ℤ) (inputs outputs : List ℤ) (sample value : ℕ)
    (exact : ℤ) : Type 0 where
  pub in_range : AreInRange low high inputs
  pub many : length inputs ≡ sample + 1
  pub gives : map (λ (r : SampleRow). r.y) (b.rows (zeros b.many) inputs) ≡ outputs
  pub breaks : IsFirstBreak b.format (b.rows (zeros b.many) inputs) sample value exact
