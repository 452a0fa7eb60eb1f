-- The lines of squares, a weight and a row each.
use Rattle.std.proofs.Common.{◌≡◌, ◌∙◌, ap, ℕ, zero, suc, ◌<◌, List, [], ◌∷◌, ◌++◌, length, take, get_or, ℤ, pos, refl, arith}
use Rattle.std.specs.Prelude.{min}
use Rattle.std.specs.List.{flat_map}
use Rattle.std.proofs.lemmas.List.{get_or-take, length-take}
use Rattle.dsv_lines.specs.Texts.{line_text}
use Rattle.dsv_certfile.specs.Texts.{numbers_line, square_lines}
use Rattle.dsv_certfile.specs.declared.keyword.Keyword.TheVariants as keyword

abbrev pub pairs : List ℤ → List (List ℤ) → List (ℤ × List ℤ)
pairs [] rows = []
pairs (w ∷ ws) [] = []
pairs (w ∷ ws) (r ∷ rs) = (w, r) ∷ pairs ws rs

abbrev pub pair_text : ℕ → ℤ × List ℤ → List ℕ
pair_text d p = line_text (numbers_line keyword.Square (p.0 ∷ take d p.1))

pub squares-text : (d : ℕ) (ws : List ℤ) (rows : List (List ℤ)) → flat_map (pair_text d) (pairs ws rows) ≡ flat_map line_text (square_lines d ws rows)
squares-text d [] rows = refl
squares-text d (w ∷ ws) [] = refl
squares-text d (w ∷ ws) (r ∷ rs) = ap (λ t. pair_text d (w, r) ++ t) (squares-text d ws rs)

length-pairs : (ws : List ℤ) (rows : List (List ℤ)) → length (pairs ws rows) ≡ min (length ws) (length rows)
length-pairs [] rows = omega arith
length-pairs (w ∷ ws) [] = omega arith
length-pairs (w ∷ ws) (r ∷ rs) = omega (arith, length-pairs ws rs)

get_or-pairs : (ws : List ℤ) (rows : List (List ℤ)) (i : ℕ) → i < length ws → i < length rows
    → get_or (pairs ws rows) i (pos 0, []) ≡ (get_or ws i (pos 0), get_or rows i [])
get_or-pairs [] rows i h k = absurd (omega (arith, h))
get_or-pairs (w ∷ ws) [] i h k = absurd (omega (arith, k))
get_or-pairs (w ∷ ws) (r ∷ rs) zero h k = refl
get_or-pairs (w ∷ ws) (r ∷ rs) (suc i) h k = get_or-pairs ws rs i (omega (arith, h)) (omega (arith, k))

-- so many squares of eight
abbrev pub squares_of : ℕ → List ℤ → List (List ℤ) → List (ℤ × List ℤ)
squares_of n ws rows = pairs (take n ws) rows

pub length-squares_of : (n : ℕ) (ws : List ℤ) (rows : List (List ℤ)) → length ws ≡ 8 → length rows ≡ 8 → length (squares_of n ws rows) ≡ min 8 n
length-squares_of n ws rows e f = omega (arith, length-pairs (take n ws) rows, length-take n ws, e, f)

pub square_at : (n : ℕ) (ws : List ℤ) (rows : List (List ℤ)) (i : ℕ) → length ws ≡ 8 → length rows ≡ 8 → i < min 8 n
    → get_or (squares_of n ws rows) i (pos 0, []) ≡ (get_or ws i (pos 0), get_or rows i [])
square_at n ws rows i e f h =
    get_or-pairs (take n ws) rows i (omega (arith, length-take n ws, e, f, h)) (omega (arith, f, h))
    ∙ ap (λ w. (w, get_or rows i [])) (get_or-take n ws i (pos 0) (omega (arith, h)))
