-- For private contracts: what a step, elimination and the search have on the way.
use Rattle.std.specs.Prelude.{◌≡◌, ◌≢◌, ℕ, zero, suc, Bool, nat_le, if◌then◌else◌, List, [], map}
use Rattle.std.specs.Prelude.{Option, Some, None, ℤ}
use Rattle.std.specs.List.{list_any}
use Rattle.std.specs.Option.{option_and_then}
use Rattle.std.specs.Int.RustNames.{unsigned_abs}
use Rattle.dsv_algebra.specs.Vectors.{Vector, Matrix}
use Rattle.dsv_forms.specs.declared.offers.Form.{Form}
use Rattle.dsv_forms.specs.declared.offers.Squares.{Squares}
use Rattle.dsv_forms.specs.declared.refusal.OfferPart.{OfferPart}
use Rattle.dsv_forms.specs.Padded.{squares_with}
use Rattle.dsv_forms.specs.Refusals.{places, first_of, definite_tests}
use Rattle.dsv_sums.specs.Elimination.{multiple, margin, weight, row, entries_of, elimination}
use Rattle.dsv_sums.specs.SumForms.{entry_limit, is_too_great, next_entry, next_form}

-- ---- a step
-- the number, where it doesn't pass 2^60
abbrev pub small_of : ℤ → Option ℤ
small_of z = if nat_le entry_limit (unsigned_abs z) then None else Some z

-- the entry after P, where it isn't too great
abbrev pub small_entry : ℕ → Vector → Matrix → ℕ → ℕ → Option ℤ
small_entry d c P i j = if is_too_great d c P i j then None else Some (next_entry d c P i j)

-- an entry in row i after P is too great
abbrev pub is_row_too_great : ℕ → Vector → Matrix → ℕ → Bool
is_row_too_great d c P i = list_any (λ j. is_too_great d c P i j) (places d)

-- the form n steps after this one
abbrev pub form_after : List ℤ → Form → ℕ → Option Form
form_after cs form zero = Some form
form_after cs form (suc n) =
    option_and_then (λ form. next_form cs form) (form_after cs form n)

-- ---- elimination
-- the squares at the first k places, and no rest
abbrev pub first_squares : ℕ → Matrix → ℕ → Squares
first_squares d T k =
    let g = margin d T in
    squares_with multiple (entries_of k (weight g T))
    (map (λ i. entries_of d (row g T i)) (places k)) []

-- the squares that elimination gives, if any, are refused
abbrev pub AreRefused : ℕ → Matrix → Type 0
AreRefused d T = (s : Squares) (p : OfferPart) → elimination d T ≡ Some s
    → first_of (definite_tests p d s T (λ i j. [])) ≢ None
