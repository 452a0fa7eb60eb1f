-- The entries of matrices and vectors that are filled up with 0.
use Rattle.std.proofs.Common.{◌≡◌, ℕ, zero, suc, ◌≤◌, inl, inr, List, [], ◌∷◌, ◌++◌, length, map, take, replicate, get_or, refl, ap, ◌∙◌, sym, arith}
use Rattle.std.proofs.Math.IntN.{ℤ, pos}
use Rattle.std.proofs.lemmas.Bool.{cases_lt}
use Rattle.std.proofs.lemmas.List.{get_or-take, get_or_past, length-take}
use Rattle.dsv_algebra.specs.Vectors.{vector_of, matrix_of}
use Rattle.dsv_forms.specs.Poly.{greatest_order}
use Rattle.dsv_forms.specs.Padded.{row_of, matrix_with}

-- a list that is filled up with the value after its end has the same entries
pub repeated : {A : Type 0} (n i : ℕ) (z : A) → get_or (replicate n z) i z ≡ z
repeated zero i z = refl
repeated (suc n) zero z = refl
repeated (suc n) (suc i) z = repeated n i z

more : {A : Type 0} (xs : List A) (n i : ℕ) (z : A) → get_or (xs ++ replicate n z) i z ≡ get_or xs i z
more [] n i z = repeated n i z
more (x ∷ xs) n zero z = refl
more (x ∷ xs) n (suc i) z = more xs n i z

filled : {A : Type 0} (xs : List A) (n i : ℕ) (z : A) → length xs ≤ n → get_or (take n (xs ++ replicate n z)) i z ≡ get_or xs i z
filled xs n i z h = elim (cases_lt i n) [
  | inl l ↦ get_or-take n (xs ++ replicate n z) i z l ∙ more xs n i z
  | inr g ↦ get_or_past (take n (xs ++ replicate n z)) i z (omega (arith, length-take n (xs ++ replicate n z), g)) ∙ sym (get_or_past xs i z (omega (arith, h, g)))
]

pub row_entry : (xs : List ℤ) (j : ℕ) → length xs ≤ greatest_order → vector_of (row_of xs) j ≡ vector_of xs j
row_entry xs j h = filled xs greatest_order j (pos 0) h

empty_row : (j : ℕ) → vector_of (row_of []) j ≡ pos 0
empty_row j = row_entry [] j (omega arith)

past_rows : (n i j : ℕ) → vector_of (get_or (replicate n (row_of [])) i []) j ≡ pos 0
past_rows zero i j = refl
past_rows (suc n) zero j = empty_row j
past_rows (suc n) (suc i) j = past_rows n i j

rows_entry : (rows : List (List ℤ)) (n i j : ℕ) → ((k : ℕ) → length (get_or rows k []) ≤ greatest_order)
    → vector_of (get_or (map row_of rows ++ replicate n (row_of [])) i []) j ≡ vector_of (get_or rows i []) j
rows_entry [] n i j h = past_rows n i j
rows_entry (r ∷ rows) n zero j h = row_entry r j (h 0)
rows_entry (r ∷ rows) n (suc i) j h = rows_entry rows n i j (λ k. h (suc k))

-- the entry of a row, and 0 outside the rows
pub matrix_entry : (rows : List (List ℤ)) (i j : ℕ) → length rows ≤ greatest_order → ((k : ℕ) → length (get_or rows k []) ≤ greatest_order)
    → matrix_of (matrix_with rows) i j ≡ vector_of (get_or rows i []) j
matrix_entry rows i j few short =
    let all = map row_of rows ++ replicate greatest_order (row_of []) in
    elim (cases_lt i greatest_order) [
      | inl l ↦ ap (λ r. vector_of r j) (get_or-take greatest_order all i [] l) ∙ rows_entry rows greatest_order i j short
      | inr g ↦ ap (λ r. vector_of r j) (get_or_past (take greatest_order all) i [] (omega (arith, length-take greatest_order all, g)))
          ∙ ap (λ r. vector_of r j) (sym (get_or_past rows i [] (omega (arith, few, g))))
    ]
