-- Rounded elimination: squares for a form, by completing the square at each place in turn, with all
-- numbers whole.
use Rattle.std.specs.Prelude.{ℕ, zero, suc, ◌^◌, ◌==◌, Bool, nat_lt, int_lt, if◌then◌else◌}
use Rattle.std.specs.Prelude.{List, map, Option, Some, None, ℤ, pos, ◌+ℤ◌, ◌-ℤ◌, ◌*ℤ◌}
use Rattle.std.specs.List.{list_all}
use Rattle.std.specs.Int.{int_div_euclid}
use Rattle.dsv_algebra.specs.Vectors.{Vector, Matrix}
use Rattle.dsv_forms.specs.declared.offers.Squares.{Squares}
use Rattle.dsv_forms.specs.Padded.{squares_with}
use Rattle.dsv_forms.specs.Refusals.{places}

-- the multiple of the form that is written as squares
abbrev pub multiple : ℤ
multiple = pos (2 ^ 40)

-- the entry of each row at its own place
abbrev pub row_scale : ℤ
row_scale = pos (2 ^ 20)

abbrev pub greater_of : ℤ → ℤ → ℤ
greater_of a b = if int_lt a b then b else a

-- the greatest entry on the diagonal of d places
abbrev pub greatest_diagonal : ℕ → Matrix → ℤ
greatest_diagonal zero T = pos 0
greatest_diagonal (suc zero) T = T 0 0
greatest_diagonal (suc (suc d)) T = greater_of (greatest_diagonal (suc d) T) (T (suc d) (suc d))

-- what each weight leaves, so that the rest is dominant
abbrev pub margin : ℕ → Matrix → ℤ
margin d T = int_div_euclid (greatest_diagonal d T) (pos (2 ^ 16)) +ℤ pos 1

-- the weight of the square at place k, where U is what is left of the form
abbrev pub weight_at : ℤ → Matrix → ℕ → ℤ
weight_at g U k = int_div_euclid (U k k) multiple -ℤ g

-- the row of the square at place k with the weight w, where U is what is left of the form
abbrev pub row_at : ℤ → Matrix → ℕ → Vector
row_at w U k j =
    if nat_lt j k then pos 0
    else if j == k then row_scale
    else int_div_euclid (U k j) (row_scale *ℤ w)

-- what is left of U without a square
abbrev pub without_square : ℤ → Vector → Matrix → Matrix
without_square w row U i j = U i j -ℤ w *ℤ row i *ℤ row j

-- what is left of the form T after the squares at the first k places, where weights leave g
abbrev pub left_after : ℤ → Matrix → ℕ → Matrix
left_after g T zero = λ i j. multiple *ℤ T i j
left_after g T (suc k) =
    let U = left_after g T k in
    let w = weight_at g U k in
    without_square w (row_at w U k) U

-- the weight and the row of the square at place k
abbrev pub weight : ℤ → Matrix → ℕ → ℤ
weight g T k = weight_at g (left_after g T k) k

abbrev pub row : ℤ → Matrix → ℕ → Vector
row g T k = row_at (weight g T k) (left_after g T k) k

-- all weights are positive
abbrev pub has_squares : ℕ → Matrix → Bool
has_squares d T = list_all (λ k. int_lt (pos 0) (weight (margin d T) T k)) (places d)

-- the first d entries of a vector, and the first d rows of a matrix
abbrev pub entries_of : ℕ → Vector → List ℤ
entries_of d v = map v (places d)

abbrev pub rows_of : ℕ → Matrix → List (List ℤ)
rows_of d T = map (λ i. entries_of d (T i)) (places d)

-- the squares, and the rest that they leave
abbrev pub squares_of : ℕ → Matrix → Squares
squares_of d T =
    let g = margin d T in
    squares_with multiple (entries_of d (weight g T)) (rows_of d (row g T))
    (rows_of d (left_after g T d))

-- the squares that rounded elimination gives for the form T of d places
abbrev pub elimination : ℕ → Matrix → Option Squares
elimination d T = if has_squares d T then Some (squares_of d T) else None
