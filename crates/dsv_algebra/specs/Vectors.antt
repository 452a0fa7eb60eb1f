-- Integer vectors, matrices and quadratic forms of any dimension d. A vector is the function from a
-- place to its entry there; places count from 0, and the first d are read.
use Rattle.std.specs.Prelude.{◌≢◌, ℕ, zero, suc, ◌<◌, List, []}
use Rattle.std.specs.Prelude.{ℤ, pos, ◌+ℤ◌, ◌*ℤ◌, slice_index_or}

abbrev pub Vector : Type 0
Vector = ℕ → ℤ

-- the entry of row i and column j
abbrev pub Matrix : Type 0
Matrix = ℕ → ℕ → ℤ

-- the sum of f 0 to f (d - 1)
abbrev pub sum_to : ℕ → (ℕ → ℤ) → ℤ
sum_to zero f = pos 0
sum_to (suc d) f = sum_to d f +ℤ f d

-- a row times a vector
abbrev pub dot : ℕ → Vector → Vector → ℤ
dot d r v = sum_to d (λ i. r i *ℤ v i)

-- the quadratic form P at v: the sum of P i j times v i times v j
abbrev pub form_at : ℕ → Matrix → Vector → ℤ
form_at d P v = sum_to d (λ i. sum_to d (λ j. P i j *ℤ v i *ℤ v j))

-- one of the first d entries isn't 0
abbrev pub IsNotZero : ℕ → Vector → Type 0
IsNotZero d v = (i : ℕ) × (i < d) × (v i ≢ pos 0)

-- the vector that a list spells, 0 after its end
abbrev pub vector_of : List ℤ → Vector
vector_of xs i = slice_index_or xs i (pos 0)

-- the matrix that a list of rows spells, 0 outside them
abbrev pub matrix_of : List (List ℤ) → Matrix
matrix_of rows i j = slice_index_or (slice_index_or rows i []) j (pos 0)

-- the matrix C^T P C: the form P at C v is this form at v
abbrev pub congruence : ℕ → Matrix → Matrix → Matrix
congruence d P C k l = sum_to d (λ i. sum_to d (λ j. P i j *ℤ C i k *ℤ C j l))
