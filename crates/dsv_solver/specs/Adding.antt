-- Private contracts alone cite this file: lists of watches with a clause more.
use Rattle.std.specs.Prelude.{ℕ, ◌-◌, ◌==◌, cond, List, [], ◌∷◌}
use Rattle.std.specs.Prelude.{◌++◌, length, take, slice_set}
use Rattle.std.specs.Prelude.{slice_index_or}

-- lists with a clause more at the end of one of them
abbrev pub with_clause : List (List ℕ) → ℕ → ℕ → List (List ℕ)
with_clause lists at clause = slice_set lists at (slice_index_or lists at [] ++ clause ∷ [])

abbrev pub without_last : List (List ℕ) → ℕ → List (List ℕ)
without_last lists at = slice_set lists at (take (length (slice_index_or lists at []) - 1)
    (slice_index_or lists at []))

abbrev pub with_both : List (List ℕ) → ℕ → ℕ → ℕ → List (List ℕ)
with_both lists one other clause = cond (one == other) (with_clause lists one clause) (with_clause
    (with_clause lists one clause) other clause)
