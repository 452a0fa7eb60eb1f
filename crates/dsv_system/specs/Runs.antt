-- Runs of a system over inputs, sample after sample.
use Rattle.std.specs.Prelude.{List, [], ◌∷◌, ℤ}

-- What a sample gives: its output, its exact values (each is that of an operation, before it is
-- fitted into a word), and the past with this sample in it. P is the type of pasts; where a system
-- keeps its registers alone, the past is their words.
pub record Sampled (P : Type 0) : Type 0 where
  pub y : ℤ
  pub exact : List ℤ
  pub past : P

-- a sample as it is shown: input, output and exact values
pub record SampleRow : Type 0 where
  pub x : ℤ
  pub y : ℤ
  pub exact : List ℤ

-- the row of a sample at this input
abbrev pub row_at : {P : Type 0} → Sampled P → ℤ → SampleRow
row_at s x = record { x = x; y = s.y; exact = s.exact }

-- the rows of a run over these inputs, where one sample is `sample` of the past and the input
abbrev pub rows_from : {P : Type 0} → (P → ℤ → Sampled P) → P → List ℤ → List SampleRow
rows_from sample past [] = []
rows_from sample past (x ∷ xs) = row_at (sample past x) x ∷ rows_from sample (sample past x).past xs

-- the past after these inputs
abbrev pub past_after : {P : Type 0} → (P → ℤ → Sampled P) → P → List ℤ → P
past_after sample past [] = past
past_after sample past (x ∷ xs) = past_after sample (sample past x).past xs
