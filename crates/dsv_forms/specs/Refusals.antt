-- Why an offer isn't accepted: the tests of the check in their order, for any number of places.
use Rattle.std.specs.Prelude.{ℕ, zero, suc, ◌-◌, Bool, true, false, not, ◌||◌, ◌==◌, nat_le}
use Rattle.std.specs.Prelude.{nat_lt, int_lt, List, [], ◌∷◌, ◌++◌, length, map, filter}
use Rattle.std.specs.Prelude.{Option, Some, None, Result, Ok, Err, ℤ, pos, ◌+ℤ◌, ◌*ℤ◌}
use Rattle.std.specs.List.{list_any, list_all, flat_map}
use Rattle.std.specs.Ordering.{int_eq}
use Rattle.dsv_algebra.specs.Narrow.{is_narrow}
use Rattle.dsv_algebra.specs.Vectors.{Vector, Matrix, sum_to, form_at, vector_of, matrix_of}
use Rattle.dsv_algebra.specs.Squares.{square, squares, beside}
use Rattle.dsv_algebra.specs.Companion.{fall_terms, fall_entry}
use Rattle.dsv_forms.specs.declared.offers.Form.{Form}
use Rattle.dsv_forms.specs.declared.offers.Squares.{Squares}
use Rattle.dsv_forms.specs.declared.offers.Falls.{Falls}
use Rattle.dsv_forms.specs.declared.offers.KeptAway.{KeptAway}
use Rattle.dsv_forms.specs.declared.refusal.OfferPart.{OfferPart}
use Rattle.dsv_forms.specs.declared.refusal.OfferPart.TheVariants as part
use Rattle.dsv_forms.specs.declared.refusal.FormRefusal.{FormRefusal}
use Rattle.dsv_forms.specs.declared.refusal.FormRefusal.TheVariants as refusal

-- a test: whether it refuses, and the refusal that it gives
abbrev pub Test : Type 0
Test = Bool × FormRefusal

-- the first refusal whose test refuses
abbrev pub first_of : {R : Type 0} → List (Bool × R) → Option R
first_of [] = None
first_of (test ∷ tests) = elim test.0 [ true ↦ Some test.1 | false ↦ first_of tests ]

abbrev pub refusal_of : {T R : Type 0} → Result T R → Option R
refusal_of (Ok x) = None
refusal_of (Err r) = Some r

-- the first d places
abbrev pub places : ℕ → List ℕ
places zero = []
places (suc d) = places d ++ d ∷ []

-- the places from i up
abbrev pub places_from : ℕ → ℕ → List ℕ
places_from i d = filter (λ j. nat_le i j) (places d)

-- one of the numbers passes 2^126
abbrev pub any_wide : List ℤ → Bool
any_wide = list_any (λ z. not (is_narrow z))

-- the sums of the first number, the first two and so on, after a number
abbrev pub partial_sums : ℤ → List ℤ → List ℤ
partial_sums sum [] = []
partial_sums sum (x ∷ xs) = (sum +ℤ x) ∷ partial_sums (sum +ℤ x) xs

abbrev pub is_symmetric : ℕ → Matrix → Bool
is_symmetric d R = list_all (λ i. list_all (λ j. int_eq (R i j) (R j i)) (places d)) (places d)

-- ---- squares
abbrev pub weights_of : Squares → Vector
weights_of s = vector_of s.weights

abbrev pub rows_of : Squares → ℕ → Vector
rows_of s = matrix_of s.rows

abbrev pub rest_of : Squares → Matrix
rest_of s = matrix_of s.rest

-- no multiple of the form, or a rest that isn't symmetric
abbrev pub bad_rest : ℕ → Squares → Bool
bad_rest d s = int_lt s.m (pos 1) || not (is_symmetric d (rest_of s))

-- the terms of the sum of the first n squares at a place
abbrev pub square_terms : ℕ → Squares → ℕ → ℕ → List ℤ
square_terms n s i j = map (λ k. square (weights_of s k) (rows_of s k) i j) (places n)

-- what the first n squares and the rest have at a place
abbrev pub right_side : ℕ → Squares → ℕ → ℕ → ℤ
right_side n s i j = squares n (weights_of s) (rows_of s) i j +ℤ rest_of s i j

-- the numbers on the way to both sides at a place where the form has the entry x
abbrev pub side_numbers : ℕ → Squares → ℤ → ℕ → ℕ → List ℤ
side_numbers n s x i j =
    (s.m *ℤ x)
    ∷ map (λ k. weights_of s k *ℤ rows_of s k i) (places n)
    ++ square_terms n s i j
    ++ partial_sums (pos 0) (square_terms n s i j)
    ++ right_side n s i j ∷ []

-- the tests of both sides at a place where the form has the entry x, with these numbers on its own
-- way
abbrev pub place_tests : OfferPart → ℕ → Squares → ℤ → List ℤ → ℕ → ℕ → List Test
place_tests p n s x numbers i j =
    (any_wide (numbers ++ side_numbers n s x i j), refusal.Wide p i j)
    ∷ (not (int_eq (s.m *ℤ x) (right_side n s i j)), refusal.Identity p i j)
    ∷ []

-- those of row i, from the diagonal on
abbrev pub row_tests : OfferPart → ℕ → ℕ → Squares → Matrix → (ℕ → ℕ → List ℤ) → ℕ
    → List Test
row_tests p d n s T numbers i =
    flat_map (λ j. place_tests p n s (T i j) (numbers i j) i j) (places_from i d)

-- The tests of both sides, place by place, with n squares for the form T of d places, whose entry
-- at i, j has these numbers on its own way.
abbrev pub side_tests : OfferPart → ℕ → ℕ → Squares → Matrix → (ℕ → ℕ → List ℤ)
    → List Test
side_tests p d n s T numbers = flat_map (row_tests p d n s T numbers) (places d)

-- the sizes beside the diagonal in a row of the rest
abbrev pub sizes_beside : ℕ → Squares → ℕ → List ℤ
sizes_beside d s i = map (λ j. beside (rest_of s) i j) (places d)

-- an entry or a sum that passes 2^126 counts as not dominant
abbrev pub not_dominant : ℕ → Squares → ℕ → Bool
not_dominant d s i =
    any_wide (map (λ j. rest_of s i j) (places d) ++ partial_sums (pos 0) (sizes_beside d s i))
    || int_lt (rest_of s i i) (sum_to d (λ j. beside (rest_of s) i j))

abbrev pub dominance_tests : OfferPart → ℕ → Squares → List Test
dominance_tests p d s = map (λ i. (not_dominant d s i, refusal.Dominance p i)) (places d)

-- ---- a definite part, which has d rows
abbrev pub bad_shape : ℕ → Squares → Bool
bad_shape d s = bad_rest d s || not (s.count == d)

abbrev pub bad_weight : Squares → ℕ → Bool
bad_weight s k = not (int_lt (pos 0) (weights_of s k))

abbrev pub bad_row : Squares → ℕ → Bool
bad_row s k = list_any (λ j. not (int_eq (rows_of s k j) (pos 0))) (places k)
    || int_eq (rows_of s k k) (pos 0)

abbrev pub positive_weight_tests : OfferPart → ℕ → Squares → List Test
positive_weight_tests p d s = map (λ k. (bad_weight s k, refusal.Weight p k)) (places d)

abbrev pub triangle_tests : OfferPart → ℕ → Squares → List Test
triangle_tests p d s = map (λ k. (bad_row s k, refusal.Triangle p k)) (places d)

-- the tests of squares that show the form T to be positive
abbrev pub definite_tests : OfferPart → ℕ → Squares → Matrix → (ℕ → ℕ → List ℤ) → List Test
definite_tests p d s T numbers =
    (bad_shape d s, refusal.Shape p)
    ∷ positive_weight_tests p d s
    ++ triangle_tests p d s
    ++ side_tests p d d s T numbers
    ++ dominance_tests p d s

-- ---- a semidefinite part, which has at most d rows, and any
abbrev pub too_many_rows : ℕ → Squares → Bool
too_many_rows d s = bad_rest d s || nat_lt d s.count

abbrev pub negative_weight : Squares → ℕ → Bool
negative_weight s k = int_lt (weights_of s k) (pos 0)

abbrev pub weak_weight_tests : OfferPart → Squares → List Test
weak_weight_tests p s = map (λ k. (negative_weight s k, refusal.Weight p k)) (places s.count)

-- the tests of squares that show the form T to be nowhere negative
abbrev pub semidefinite_tests : OfferPart → ℕ → Squares → Matrix → (ℕ → ℕ → List ℤ)
    → List Test
semidefinite_tests p d s T numbers =
    (too_many_rows d s, refusal.Shape p)
    ∷ weak_weight_tests p s
    ++ side_tests p d s.count s T numbers
    ++ dominance_tests p d s

-- ---- offers
abbrev pub bad_form : ℕ → Form → Bool
bad_form d form = not (form.d == d) || not (is_symmetric d (matrix_of form.rows))

abbrev pub form_tests : ℕ → Form → List Test
form_tests d form = (bad_form d form, refusal.Shape part.Form) ∷ []

-- the numbers on the way to an entry of the fall form
abbrev pub fall_numbers : ℕ → Vector → Matrix → ℕ → ℕ → List ℤ
fall_numbers d c P i j =
    let terms = fall_terms d c P i j in
    map (λ t. t.0) terms ++ map (λ t. t.0 *ℤ t.1) terms
    ++ partial_sums (pos 0) (map (λ t. t.0 *ℤ t.1) terms)

abbrev pub falls_tests : ℕ → Vector → Falls → List Test
falls_tests d c offer =
    let P = matrix_of offer.form.rows in
    (bad_form d offer.form, refusal.Shape part.Form)
    ∷ definite_tests part.Positive d offer.positive P (λ i j. [])
    ++ definite_tests part.Fall d offer.fall (fall_entry d c P) (fall_numbers d c P)

-- why an offer of a form that falls isn't accepted for the polynomial with these coefficients
abbrev pub falls_refusal : List ℤ → Falls → Option FormRefusal
falls_refusal c offer = first_of (falls_tests (length c - 1) (vector_of c) offer)

-- the terms of the form's value at v, row by row
abbrev pub value_terms : ℕ → Matrix → Vector → List ℤ
value_terms d P v = flat_map (λ i. map (λ j. P i j *ℤ v i *ℤ v j) (places d)) (places d)

-- the numbers on the way to the form's value at v
abbrev pub value_numbers : ℕ → Matrix → Vector → List ℤ
value_numbers d P v =
    flat_map (λ i. map (λ j. P i j *ℤ v i) (places d)) (places d)
    ++ value_terms d P v
    ++ partial_sums (pos 0) (value_terms d P v)

-- the tests of a start, at which the form is to be negative
abbrev pub start_tests : ℕ → Matrix → Vector → List Test
start_tests d P v =
    (any_wide (value_numbers d P v), refusal.Wide part.Start 0 0)
    ∷ (not (int_lt (form_at d P v) (pos 0)), refusal.StartNotNegative (form_at d P v)) ∷ []

abbrev pub kept_away_tests : ℕ → Vector → KeptAway → List Test
kept_away_tests d c offer =
    let P = matrix_of offer.form.rows in
    (bad_form d offer.form, refusal.Shape part.Form)
    ∷ semidefinite_tests part.Fall d offer.fall (fall_entry d c P) (fall_numbers d c P)
    ++ start_tests d P (vector_of offer.start)

-- why an offer of a form that is kept away isn't accepted for the polynomial with these
-- coefficients
abbrev pub kept_away_refusal : List ℤ → KeptAway → Option FormRefusal
kept_away_refusal c offer = first_of (kept_away_tests (length c - 1) (vector_of c) offer)
