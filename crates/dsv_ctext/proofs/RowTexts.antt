-- The lines of rows.
use Rattle.std.proofs.Common.{◌≡◌, ℕ, suc, List, [], ◌∷◌, ◌++◌, map, length, refl, ap}
use Rattle.std.specs.List.{flat_map}
use Rattle.dsv_system.specs.declared.rows.Row.{Row}
use Rattle.dsv_system.specs.RowViews.{row_of}
use Rattle.dsv_ctext.specs.TestTexts.{input_line, output_line}

abbrev pub row_input : Row → List ℕ
row_input row = input_line (row_of row)

abbrev pub row_output : Row → List ℕ
row_output row = output_line (row_of row)

pub lines_of_map : {A B : Type 0} (text : B → List ℕ) (f : A → B) (xs : List A) → flat_map (λ x. text (f x)) xs ≡ flat_map text (map f xs)
lines_of_map text f [] = refl
lines_of_map text f (x ∷ xs) = ap (λ t. text (f x) ++ t) (lines_of_map text f xs)

pub many_of_map : (rows : List Row) → length (map row_of rows) ≡ length rows
many_of_map [] = refl
many_of_map (r ∷ rows) = ap (λ (n : ℕ). suc n) (many_of_map rows)
