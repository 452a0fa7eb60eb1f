-- The offer of a polynomial's Schur-Cohn form, and when its check accepts it.
use Rattle.std.specs.Prelude.{◌≡◌, ℕ, ◌-◌, ◌*◌, ◌^◌, ◌<◌, ◌≤◌, ◌↔◌, false}
use Rattle.std.specs.Prelude.{List, [], ◌∷◌, ◌++◌, length, None, ℤ, pos, ◌<ℤ◌}
use Rattle.std.specs.List.{All}
use Rattle.std.specs.Int.RustNames.{unsigned_abs}
use Rattle.dsv_algebra.specs.Companion.{fall_entry}
use Rattle.dsv_algebra.specs.Vectors.{form_at, vector_of, matrix_of}
use Rattle.dsv_forms.specs.declared.offers.Form.{Form}
use Rattle.dsv_forms.specs.declared.offers.KeptAway.{KeptAway}
use Rattle.dsv_forms.specs.Padded.{form_with, squares_with}
use Rattle.dsv_forms.specs.Poly.{most_coefficients}
use Rattle.dsv_forms.specs.Refusals.{any_wide, side_numbers, fall_numbers, value_numbers}
use Rattle.dsv_forms.specs.Refusals.{kept_away_refusal}
use Rattle.dsv_sums.specs.Elimination.{entries_of, rows_of}
use Rattle.dsv_table.specs.SchurCohn.{schur_cohn, lost_row}

-- the Schur-Cohn form of the polynomial with these coefficients
abbrev pub schur_cohn_form : List ℤ → Form
schur_cohn_form cs =
    let d = length cs - 1 in
    form_with (rows_of d (schur_cohn d (vector_of cs)))

-- that form, kept away from 0 from the start, with the one square that it loses in a step
abbrev pub negative_offer : List ℤ → List ℤ → KeptAway
negative_offer cs start = record {
  form = schur_cohn_form cs;
  start = start;
  fall = squares_with (pos 1) (pos 1 ∷ [])
      (entries_of (length cs - 1) (lost_row (length cs - 1) (vector_of cs)) ∷ []) [];
}

-- The numbers that the check of the offer reckons with are less than 2^126 in size.
pub record HasNarrowNumbers (cs start : List ℤ) : Type 0 where
  pub sides : (i j : ℕ) → i ≤ j → j < length cs - 1
      → (let d = length cs - 1 in
      let P = matrix_of (schur_cohn_form cs).rows in
      any_wide (fall_numbers d (vector_of cs) P i j
      ++ side_numbers 1 (negative_offer cs start).fall (fall_entry d (vector_of cs) P i j) i j)
      ≡ false)
  pub value : any_wide (value_numbers (length cs - 1) (matrix_of (schur_cohn_form cs).rows)
      (vector_of start)) ≡ false

-- the form is negative at the start
abbrev pub IsNegativeAt : List ℤ → List ℤ → Type 0
IsNegativeAt cs start =
    let d = length cs - 1 in
    form_at d (schur_cohn d (vector_of cs)) (vector_of start) <ℤ pos 0

-- For the orders 1 to 8 an offer is accepted exactly where its numbers are narrow and the form is
-- negative at its start.
abbrev pub AreAcceptedWhereNarrow : Type 0
AreAcceptedWhereNarrow = (cs start : List ℤ) → 2 ≤ length cs → length cs ≤ most_coefficients
    → (kept_away_refusal cs (negative_offer cs start) ≡ None
    ↔ (HasNarrowNumbers cs start × IsNegativeAt cs start))

-- The numbers are narrow where no coefficient passes m and no entry of the start w in size, m is at
-- most 2^29 and m times w less than 2^58.
abbrev pub SmallAreNarrow : Type 0
SmallAreNarrow = (m w : ℕ) (cs start : List ℤ) → 2 ≤ length cs → length cs ≤ most_coefficients
    → ((k : ℕ) → unsigned_abs (vector_of cs k) ≤ m)
    → ((k : ℕ) → unsigned_abs (vector_of start k) ≤ w)
    → m ≤ 2 ^ 29 → m * w < 2 ^ 58 → HasNarrowNumbers cs start

-- no coefficient passes 2^29 in size
abbrev pub IsSmall : List ℤ → Type 0
IsSmall cs = All (λ c. unsigned_abs c ≤ 2 ^ 29) cs

-- the form is negative at a place of its diagonal
abbrev pub HasNegativePlace : List ℤ → Type 0
HasNegativePlace cs =
    let d = length cs - 1 in
    (i : ℕ) × (i < d) × (schur_cohn d (vector_of cs) i i <ℤ pos 0)
