-- The companion matrix of a polynomial, and forms along the trajectories of polynomials.
--
-- A linear recursion c_0 y(n) + c_1 y(n-1) + .. + c_d y(n-d) = 0 takes the vector of its last d
-- values to the next one by its companion matrix. Times c_0, so that all entries are whole, this
-- matrix has the first row -c_1, .., -c_d and c_0 below the diagonal. So a polynomial is the system
-- with this matrix and the scale c_0.
use Rattle.std.specs.Prelude.{Bool, true, false, ◌&&◌, List, [], ◌∷◌, drop}
use Rattle.std.specs.Prelude.{◌++◌, neg_ℤ, ℕ, zero, suc, ◌==◌, nat_lt}
use Rattle.std.specs.Prelude.{if◌then◌else◌, ℤ, pos, ◌+ℤ◌, ◌-ℤ◌, ◌*ℤ◌}
use Rattle.dsv_algebra.specs.Vectors.{Vector, Matrix}
use Rattle.dsv_algebra.specs.Falling.{StrictlyFalls, IsKeptAway, fall_form}

-- the companion matrix of c 0 to c d
abbrev pub companion : Vector → Matrix
companion c zero j = pos 0 -ℤ c (suc j)
companion c (suc i) j = if i == j then c 0 else pos 0

-- the form P strictly falls along each trajectory of the polynomial c
abbrev pub StrictlyFallsAlong : ℕ → Vector → Matrix → Type 0
StrictlyFallsAlong d c P = StrictlyFalls d (c 0) (companion c) P

-- the form P keeps the trajectory of the polynomial c from the start away from 0
abbrev pub IsKeptAwayAlong : ℕ → Vector → Matrix → Vector → Type 0
IsKeptAwayAlong d c P start = IsKeptAway d (c 0) (companion c) P start

-- the matrix of what P loses in a step of the polynomial c: c_0^2 P - C^T P C
abbrev pub companion_fall_form : ℕ → Vector → Matrix → Matrix
companion_fall_form d c P = fall_form d (c 0) (companion c) P

-- the term, where the test holds
abbrev pub only : Bool → ℤ × ℤ → List (ℤ × ℤ)
only true term = term ∷ []
only false term = []

-- The terms of an entry of the fall form of a polynomial in the entries of P alone: a product of
-- two of the c, and the entry that it is multiplied with. Entries outside the first d places are
-- absent.
abbrev pub fall_terms : ℕ → Vector → Matrix → ℕ → ℕ → List (ℤ × ℤ)
fall_terms d c P i j =
    let below = nat_lt (suc i) d in
    let beside = nat_lt (suc j) d in
    (c 0 *ℤ c 0, P i j)
    ∷ (neg_ℤ (c (suc i) *ℤ c (suc j)), P 0 0)
    ∷ only beside (c (suc i) *ℤ c 0, P 0 (suc j))
    ++ only below (c 0 *ℤ c (suc j), P (suc i) 0)
    ++ only (below && beside) (neg_ℤ (c 0 *ℤ c 0), P (suc i) (suc j))

-- the sum of terms, from left to right after a number
abbrev pub total_from : ℤ → List (ℤ × ℤ) → ℤ
total_from sum [] = sum
total_from sum (term ∷ terms) = total_from (sum +ℤ term.0 *ℤ term.1) terms

-- an entry of the fall form of a polynomial
abbrev pub fall_entry : ℕ → Vector → Matrix → ℕ → ℕ → ℤ
fall_entry d c P i j = total_from (pos 0) (fall_terms d c P i j)

-- the terms of an entry of C^T P C, with the other sign: what the fall form takes from c_0^2 P
abbrev pub image_terms : ℕ → Vector → Matrix → ℕ → ℕ → List (ℤ × ℤ)
image_terms d c P i j = drop 1 (fall_terms d c P i j)
