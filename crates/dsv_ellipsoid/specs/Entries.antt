-- The entries of the step form and of the first form term by term, as a check computes them.
use Rattle.std.specs.Prelude.{ℕ, suc, Bool, ◌&&◌, ◌==◌, nat_lt, is_none}
use Rattle.std.specs.Prelude.{List, [], ◌∷◌, map, if◌then◌else◌, ℤ, pos, neg_ℤ, ◌*ℤ◌}
use Rattle.std.specs.List.{list_any}
use Rattle.dsv_algebra.specs.Vectors.{Vector}
use Rattle.dsv_algebra.specs.Companion.{only, image_terms}
use Rattle.dsv_forms.specs.Refusals.{places}
use Rattle.dsv_forms.specs.Sums.{Summand, sum_from}
use Rattle.dsv_certfile.specs.declared.ellipsoid.Ellipsoid.{Ellipsoid}
use Rattle.dsv_ellipsoid.specs.Good.{form_of}

-- ---- what stands on the way to a summand
-- a product, which itself is to be narrow
abbrev pub scaled : ℤ → ℤ → Summand
scaled a p = ((a *ℤ p) ∷ [], a *ℤ p)

-- a term: its factor, which is a product of two numbers, and its product with an entry
abbrev pub numbered : ℤ × ℤ → Summand
numbered t = (t.0 ∷ (t.0 *ℤ t.1) ∷ [], t.0 *ℤ t.1)

-- a number alone
abbrev pub bare : ℤ → Summand
bare z = ([], z)

-- ---- the step form

-- for v_i and v_j
abbrev pub inside_summands : ℕ → Vector → Ellipsoid → ℕ → ℕ → List Summand
inside_summands d c o i j =
    scaled o.lambda (form_of o i j) ∷ map numbered (image_terms d c (form_of o) i j)

-- for v_i and the disturbance
abbrev pub side_terms : ℕ → Vector → Ellipsoid → ℕ → List (ℤ × ℤ)
side_terms d c o i =
    (c (suc i), form_of o 0 0) ∷ only (nat_lt (suc i) d) (neg_ℤ (c 0), form_of o 0 (suc i))

abbrev pub side_summands : ℕ → Vector → Ellipsoid → ℕ → List Summand
side_summands d c o i = map (λ t. scaled t.0 t.1) (side_terms d c o i)

-- for the disturbance alone
abbrev pub corner_summands : Ellipsoid → List Summand
corner_summands o = bare o.mu ∷ bare (neg_ℤ (form_of o 0 0)) ∷ []

abbrev pub step_summands : ℕ → Vector → Ellipsoid → ℕ → ℕ → List Summand
step_summands d c o i j =
    if nat_lt i d
    then if nat_lt j d then inside_summands d c o i j else side_summands d c o i
    else if nat_lt j d then side_summands d c o j
    else corner_summands o

-- ---- the first form
abbrev pub first_summands : Ellipsoid → ℕ → ℕ → List Summand
first_summands o i j = scaled o.nu (form_of o i j)
    ∷ (if (i == 0) && (j == 0) then bare (neg_ℤ o.kappa) ∷ [] else [])

-- a number on the way to one of the entries in the first n places passes 2^126
abbrev pub has_wide_entry : ℕ → (ℕ → ℕ → List Summand) → Bool
has_wide_entry n summands = list_any (λ i. list_any (λ j.
    is_none (sum_from (pos 0) (summands i j))) (places n)) (places n)
