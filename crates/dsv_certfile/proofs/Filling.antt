-- Rows that are filled up with 0, by their entries.
use Rattle.std.proofs.Common.{◌≡◌, ℕ, zero, suc, ◌+◌, ◌<◌, List, [], ◌∷◌, ◌++◌, length, take, drop, replicate, get_or, refl, sym, ◌∙◌, arith, length-append}
use Rattle.std.proofs.Math.IntN.{ℤ, pos}
use Rattle.std.proofs.lemmas.List.{length-take, get_or-take, get_or-drop, length-replicate}
use Rattle.std.proofs.lemmas.List.FromFn.{fill_by_all}
use Rattle.dsv_forms.specs.Poly.{greatest_order}
use Rattle.dsv_forms.specs.Padded.{row_of}
use Rattle.dsv_forms.proofs.Padded.{repeated}

padded : {A : Type 0} (xs : List A) (n i : ℕ) (z : A) → get_or (xs ++ replicate n z) i z ≡ get_or xs i z
padded [] n i z = repeated n i z
padded (x ∷ xs) n zero z = refl
padded (x ∷ xs) n (suc i) z = padded xs n i z

pub length-filled : {A : Type 0} (n : ℕ) (xs : List A) (z : A) → length (take n (xs ++ replicate n z)) ≡ n
length-filled n xs z = omega (arith, length-take n (xs ++ replicate n z), length-append xs (replicate n z), length-replicate n z)

pub row_by_entries : (row xs : List ℤ) → length row ≡ greatest_order → ((k : ℕ) → k < greatest_order → get_or row k (pos 0) ≡ get_or xs k (pos 0)) → row ≡ row_of xs
row_by_entries row xs long same =
    let filled = xs ++ replicate greatest_order (pos 0) in
    fill_by_all (λ k. get_or xs k (pos 0)) row greatest_order (pos 0) long same
    ∙ sym (fill_by_all (λ k. get_or xs k (pos 0)) (row_of xs) greatest_order (pos 0) (length-filled greatest_order xs (pos 0))
    (λ k h. get_or-take greatest_order filled k (pos 0) h ∙ padded xs greatest_order k (pos 0)))

-- the entries from a place on
pub row_from_place : (row xs : List ℤ) (place : ℕ) → length row ≡ greatest_order
    → ((k : ℕ) → k < greatest_order → get_or row k (pos 0) ≡ get_or xs (place + k) (pos 0)) → row ≡ row_of (drop place xs)
row_from_place row xs place long same =
    row_by_entries row (drop place xs) long (λ k h. same k h ∙ sym (get_or-drop place xs k (pos 0)))
