-- Runs in two parts.
use Rattle.std.proofs.Common.{◌≡◌, ℕ, zero, suc, List, [], ◌∷◌, ◌++◌, length, take, refl, ap}
use Rattle.std.proofs.Math.IntN.{ℤ}
use Rattle.dsv_system.specs.Runs.{Sampled, SampleRow, row_at, rows_from, past_after}

pub rows-length : {P : Type 0} (sample : P → ℤ → Sampled P) (past : P) (xs : List ℤ) → length (rows_from sample past xs) ≡ length xs
rows-length sample past [] = refl
rows-length sample past (x ∷ xs) = ap suc (rows-length sample (sample past x).past xs)

pub take-rows : {P : Type 0} (sample : P → ℤ → Sampled P) (past : P) (n : ℕ) (xs : List ℤ) → take n (rows_from sample past xs) ≡ rows_from sample past (take n xs)
take-rows sample past zero xs = refl
take-rows sample past (suc n) [] = refl
take-rows sample past (suc n) (x ∷ xs) = ap (λ rs. row_at (sample past x) x ∷ rs) (take-rows sample (sample past x).past n xs)

pub past-append : {P : Type 0} (sample : P → ℤ → Sampled P) (past : P) (xs ys : List ℤ) → past_after sample past (xs ++ ys) ≡ past_after sample (past_after sample past xs) ys
past-append sample past [] ys = refl
past-append sample past (x ∷ xs) ys = past-append sample (sample past x).past xs ys

pub rows-append : {P : Type 0} (sample : P → ℤ → Sampled P) (past : P) (xs ys : List ℤ) → rows_from sample past (xs ++ ys) ≡ rows_from sample past xs ++ rows_from sample (past_after sample past xs) ys
rows-append sample past [] ys = refl
rows-append sample past (x ∷ xs) ys = ap (λ (rs : List SampleRow). row_at (sample past x) x ∷ rs) (rows-append sample (sample past x).past xs ys)
