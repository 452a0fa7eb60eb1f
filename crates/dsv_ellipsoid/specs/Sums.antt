-- Serves private contracts: the entries of both forms, as the code sums them.
use Rattle.std.specs.Prelude.{◌≡◌, ℕ, ◌+◌, ◌<◌, ◌≤◌, ◌⊎◌, ◌&&◌, ◌==◌, nat_lt}
use Rattle.std.specs.Prelude.{if◌then◌else◌, List, length, Option, Some}
use Rattle.std.specs.Prelude.{slice_index_or}
use Rattle.std.specs.Prelude.{ℤ, pos, neg_ℤ, ◌-ℤ◌}
use Rattle.std.specs.Option.{option_and_then}
use Rattle.dsv_algebra.specs.Narrow.{narrow_of}
use Rattle.dsv_algebra.specs.Vectors.{Vector, matrix_of}
use Rattle.dsv_forms.specs.Poly.{greatest_order}
use Rattle.dsv_forms.specs.Sums.{sum_with, image_sum}
use Rattle.dsv_forms.specs.declared.offers.Form.{Form}
use Rattle.dsv_certfile.specs.declared.ellipsoid.Ellipsoid.{Ellipsoid}
use Rattle.dsv_ellipsoid.specs.declared.entries.FormKind.{FormKind}
use Rattle.dsv_ellipsoid.specs.declared.entries.FormKind.TheVariants as kind
use Rattle.dsv_ellipsoid.specs.Good.{form_of}
use Rattle.dsv_ellipsoid.specs.Entries.{scaled}

abbrev pub inside_sum : ℕ → Vector → Ellipsoid → ℕ → ℕ → Option ℤ
inside_sum d c o i j = option_and_then (λ s. image_sum d c (form_of o) i j s)
    (sum_with (pos 0) (scaled o.lambda (form_of o i j)))

abbrev pub side_sum : ℕ → Vector → Ellipsoid → ℕ → Option ℤ
side_sum d c o i = option_and_then (λ s.
    if nat_lt (i + 1) d then sum_with s (scaled (neg_ℤ (c 0)) (form_of o 0 (i + 1))) else Some s)
    (sum_with (pos 0) (scaled (c (i + 1)) (form_of o 0 0)))

abbrev pub corner_sum : Ellipsoid → Option ℤ
corner_sum o = option_and_then (λ s. narrow_of (s -ℤ form_of o 0 0)) (narrow_of o.mu)

abbrev pub step_sum : ℕ → Vector → Ellipsoid → ℕ → ℕ → Option ℤ
step_sum d c o i j =
    if nat_lt i d
    then if nat_lt j d then inside_sum d c o i j else side_sum d c o i
    else if nat_lt j d then side_sum d c o j
    else corner_sum o

abbrev pub first_sum : Ellipsoid → ℕ → ℕ → Option ℤ
first_sum o i j = option_and_then (λ s.
    if (i == 0) && (j == 0) then narrow_of (s -ℤ o.kappa) else Some s)
    (sum_with (pos 0) (scaled o.nu (form_of o i j)))

-- ---- both forms
abbrev pub sum_of : FormKind → ℕ → Vector → Ellipsoid → ℕ → ℕ → Option ℤ
sum_of kind.Step d c o i j = step_sum d c o i j
sum_of kind.First d c o i j = first_sum o i j

-- how many places the form has, for an order
abbrev pub places_of : FormKind → ℕ → ℕ
places_of kind.Step d = d + 1
places_of kind.First d = d

-- a row of the first n entries that these sums give
pub record IsSummedRow (n : ℕ) (sum : ℕ → ℕ → Option ℤ) (i : ℕ) (row : List ℤ) : Type 0 where
  pub size : length row ≡ greatest_order
  pub entries : (j : ℕ) → j < n → sum i j ≡ Some (slice_index_or row j (pos 0))
  pub after : (j : ℕ) → n ≤ j → slice_index_or row j (pos 0) ≡ pos 0

-- F has these entries in n places, and 0 elsewhere
pub record IsSummed (n : ℕ) (sum : ℕ → ℕ → Option ℤ) (F : Form) : Type 0 where
  pub places : F.d ≡ n
  pub entries : (i j : ℕ) → i < n → j < n → sum i j ≡ Some (matrix_of F.rows i j)
  pub elsewhere : (i j : ℕ) → (n ≤ i) ⊎ (n ≤ j) → matrix_of F.rows i j ≡ pos 0
