-- Rows and matrices that are filled up with 0, entry by entry.
use Rattle.std.proofs.Common.{◌≡◌, ℕ, zero, suc, ◌+◌, ◌<◌, ◌≤◌, List, [], ◌∷◌, ◌++◌, length, map, take, replicate, get_or, set, refl, sym, ap, ◌∙◌, arith}
use Rattle.std.proofs.Math.IntN.{ℤ, pos}
use Rattle.std.proofs.lemmas.List.{length-take, length-map, map-append, map_more}
use Rattle.dsv_forms.specs.Poly.{greatest_order}
use Rattle.dsv_forms.specs.Padded.{row_of, matrix_with}

-- one value more after the n first, if there are at least n
one_more : {A : Type 0} (n m : ℕ) (z : A) → n ≤ m → take n (replicate m z) ≡ take n (z ∷ replicate m z)
one_more zero m z h = refl
one_more (suc n) zero z h = absurd (omega arith)
one_more (suc n) (suc m) z h = ap (λ zs. z ∷ zs) (one_more n m z (omega (arith, h)))

-- the first place after a list that is filled up
set_filled : {A : Type 0} (xs : List A) (n m : ℕ) (y z : A) → length xs < n → n ≤ m
    → set (take n (xs ++ replicate m z)) (length xs) y ≡ take n ((xs ++ y ∷ []) ++ replicate m z)
set_filled xs zero m y z h k = absurd (omega (arith, h))
set_filled xs (suc n) zero y z h k = absurd (omega (arith, k))
set_filled [] (suc n) (suc m) y z h k = ap (λ zs. y ∷ zs) (one_more n m z (omega (arith, k)))
set_filled (x ∷ xs) (suc n) (suc m) y z h k = ap (λ zs. x ∷ zs) (set_filled xs n (suc m) y z (omega (arith, h)) (omega (arith, k)))

pub row_more : (xs : List ℤ) (i : ℕ) (y : ℤ) → length xs ≡ i → i < greatest_order → set (row_of xs) i y ≡ row_of (xs ++ y ∷ [])
row_more xs i y long h = rw (← long) (set_filled xs greatest_order greatest_order y (pos 0) (omega (arith, long, h)) (omega arith))

pub matrix_more : (rows : List (List ℤ)) (i : ℕ) (r : List ℤ) → length rows ≡ i → i < greatest_order → set (matrix_with rows) i (row_of r) ≡ matrix_with (rows ++ r ∷ [])
matrix_more rows i r long h =
    let e : length (map row_of rows) ≡ i = length-map rows row_of ∙ long in
    rw (map-append row_of rows (r ∷ []), ← e) (set_filled (map row_of rows) greatest_order greatest_order (row_of r) (row_of []) (omega (arith, e, h)) (omega arith))

taken : {A B : Type 0} (f : A → B) (xs : List A) (i : ℕ) → i < length xs → length (map f (take i xs)) ≡ i
taken f xs i h = length-map (take i xs) f ∙ length-take i xs ∙ omega (arith, h)

-- the row of a function's values, one more of them
pub row_step : {X : Type 0} (f : X → ℤ) (xs : List X) (i : ℕ) (d : X) → i < length xs → length xs ≤ greatest_order
    → set (row_of (map f (take i xs))) i (f (get_or xs i d)) ≡ row_of (map f (take (i + 1) xs))
row_step f xs i d h few =
    row_more (map f (take i xs)) i (f (get_or xs i d)) (taken f xs i h) (omega (arith, h, few))
    ∙ ap row_of (sym (map_more f xs i d h))

-- the matrix of a function's rows, one more of them
pub matrix_step : {X : Type 0} (f : X → List ℤ) (xs : List X) (i : ℕ) (d : X) → i < length xs → length xs ≤ greatest_order
    → set (matrix_with (map f (take i xs))) i (row_of (f (get_or xs i d))) ≡ matrix_with (map f (take (i + 1) xs))
matrix_step f xs i d h few =
    matrix_more (map f (take i xs)) i (f (get_or xs i d)) (taken f xs i h) (omega (arith, h, few))
    ∙ ap matrix_with (sym (map_more f xs i d h))
