-- Lists that are filled up to eight entries, one entry after the other.
use Rattle.std.proofs.Common.{◌≡◌, ℕ, ◌+◌, ◌<◌, List, [], ◌∷◌, ◌++◌, length, map, set, sym, ap, ◌∙◌, add-one}
use Rattle.std.proofs.Math.IntN.{ℤ}
use Rattle.std.proofs.lemmas.List.{length-map, map-append}
use Rattle.dsv_algebra.specs.Vectors.{Vector}
use Rattle.dsv_forms.specs.Padded.{row_of, matrix_with}
use Rattle.dsv_forms.specs.Poly.{greatest_order}
use Rattle.dsv_forms.specs.Refusals.{places}
use Rattle.dsv_forms.proofs.Filling.{row_more, matrix_more}
use Rattle.dsv_forms.proofs.Passing.{places_many}
use Rattle.dsv_sums.specs.Elimination.{entries_of}

-- as many as places
pub many : {A : Type 0} (f : ℕ → A) (k : ℕ) → length (map f (places k)) ≡ k
many f k = length-map (places k) f ∙ places_many k

pub map_more : {A : Type 0} (f : ℕ → A) (k : ℕ) → map f (places (k + 1)) ≡ map f (places k) ++ f k ∷ []
map_more f k = ap (λ n. map f (places n)) (add-one k) ∙ map-append f (places k) (k ∷ [])

-- a row with one entry more
pub row_next : (f : Vector) (k : ℕ) → k < greatest_order → set (row_of (entries_of k f)) k (f k) ≡ row_of (entries_of (k + 1) f)
row_next f k h = row_more (entries_of k f) k (f k) (many f k) h ∙ ap row_of (sym (map_more f k))

-- a matrix with one row more
pub matrix_next : (f : ℕ → List ℤ) (k : ℕ) → k < greatest_order → set (matrix_with (map f (places k))) k (row_of (f k)) ≡ matrix_with (map f (places (k + 1)))
matrix_next f k h = matrix_more (map f (places k)) k (f k) (many f k) h ∙ ap matrix_with (sym (map_more f k))
