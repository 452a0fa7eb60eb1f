-- The places of a form that its text writes: the rows that a matrix was filled up from.
use Rattle.std.proofs.Common.{◌≡◌, ◌∙◌, ap, ℕ, ◌≤◌, List, [], ◌∷◌, ◌++◌, length, map, take, replicate, get_or, ℤ, pos, refl, arith}
use Rattle.std.specs.List.{All}
use Rattle.std.proofs.lemmas.List.{length-map, length-take, take-take, take_at}
use Rattle.std.proofs.lemmas.List.Elements.{All-head, All-tail, All-append, All-map, All-weaker, All-take, All-replicate}
use Rattle.dsv_forms.specs.Poly.{greatest_order}
use Rattle.dsv_forms.specs.Padded.{row_of, matrix_with, corner}
use Rattle.dsv_certfile.proofs.Filling.{length-filled}

length-matrix_with : (rows : List (List ℤ)) → length (matrix_with rows) ≡ greatest_order
length-matrix_with rows = length-filled greatest_order (map row_of rows) (row_of [])

-- a row of eight
abbrev IsRow : List ℤ → Type 0
IsRow r = length r ≡ greatest_order

matrix_rows : (rows : List (List ℤ)) → All IsRow (matrix_with rows)
matrix_rows rows =
    let fill = replicate greatest_order (row_of []) in
    All-take IsRow greatest_order (map row_of rows ++ fill)
    (All-append IsRow (map row_of rows) fill
    (All-map IsRow row_of rows (λ k d h. length-filled greatest_order (get_or rows k d) (pos 0)))
    (All-replicate IsRow greatest_order (row_of []) refl))

-- a row of so many places
abbrev pub HasPlaces : ℕ → List ℤ → Type 0
HasPlaces d r = length r ≡ d

pub corner_length : (n d : ℕ) (matrix : List (List ℤ)) → length matrix ≡ greatest_order → n ≤ greatest_order → length (corner n d matrix) ≡ n
corner_length n d matrix e h = length-map (take n matrix) (take d) ∙ omega (arith, length-take n matrix, e, h)

pub corner_rows : (n d : ℕ) (matrix : List (List ℤ)) → All IsRow (take n matrix) → d ≤ greatest_order → All (HasPlaces d) (corner n d matrix)
corner_rows n d matrix long h =
    All-map (HasPlaces d) (take d) (take n matrix)
    (All-weaker IsRow (λ r. HasPlaces d (take d r)) (λ r l. omega (arith, length-take d r, l, h)) (take n matrix) long)

-- of a matrix that was filled up
pub filled_length : (n d : ℕ) (matrix rows : List (List ℤ)) → matrix ≡ matrix_with rows → n ≤ greatest_order → length (corner n d matrix) ≡ n
filled_length n d matrix rows e h = corner_length n d matrix (ap length e ∙ length-matrix_with rows) h

pub filled_rows : (n d : ℕ) (matrix rows : List (List ℤ)) → matrix ≡ matrix_with rows → d ≤ greatest_order → All (HasPlaces d) (corner n d matrix)
filled_rows n d matrix rows e h = corner_rows n d matrix (All-take IsRow n matrix (rw e (matrix_rows rows))) h

-- ---- what was filled up is the corner
filled_front : {A : Type 0} (n m : ℕ) (xs : List A) (z : A) → length xs ≡ n → n ≤ m → take n (take m (xs ++ replicate m z)) ≡ xs
filled_front n m xs z e h = take-take n m (xs ++ replicate m z) h ∙ take_at xs (replicate m z) n e

pub take-row_of : (n : ℕ) (xs : List ℤ) → length xs ≡ n → n ≤ greatest_order → take n (row_of xs) ≡ xs
take-row_of n xs e h = filled_front n greatest_order xs (pos 0) e h

take-rows : (d : ℕ) (rows : List (List ℤ)) → d ≤ greatest_order → All (HasPlaces d) rows → map (take d) (map row_of rows) ≡ rows
take-rows d [] h k = refl
take-rows d (r ∷ rows) h k =
    ap (λ x. x ∷ map (take d) (map row_of rows)) (take-row_of d r (All-head (HasPlaces d) r rows k) h)
    ∙ ap (λ xs. r ∷ xs) (take-rows d rows h (All-tail (HasPlaces d) r rows k))

pub corner-matrix_with : (n d : ℕ) (rows : List (List ℤ)) → length rows ≡ n → n ≤ greatest_order → d ≤ greatest_order → All (HasPlaces d) rows
    → corner n d (matrix_with rows) ≡ rows
corner-matrix_with n d rows e h k each =
    ap (map (take d)) (filled_front n greatest_order (map row_of rows) (row_of []) (length-map rows row_of ∙ e) h) ∙ take-rows d rows k each
