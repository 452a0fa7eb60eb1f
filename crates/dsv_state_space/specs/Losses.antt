-- Serves private contracts: what a form loses in a step, as the code sums it.
use Rattle.std.specs.Prelude.{◌≡◌, ℕ, ◌<◌, ◌≤◌, List, [], ◌∷◌, length, slice_index_or}
use Rattle.std.specs.Prelude.{Option, ℤ, pos, neg_ℤ}
use Rattle.std.specs.List.{flat_map}
use Rattle.std.specs.Option.{option_and_then}
use Rattle.dsv_algebra.specs.Falling.{fall_form}
use Rattle.dsv_algebra.specs.Vectors.{Matrix}
use Rattle.dsv_forms.specs.Poly.{greatest_order}
use Rattle.dsv_forms.specs.Refusals.{places}
use Rattle.dsv_forms.specs.Sums.{Summand, sum_with, sum_from, product}

-- the products of A_ki and a row of P, taken away
abbrev pub row_summands : ℕ → Matrix → Matrix → ℕ → ℕ → ℕ → List Summand
row_summands d A P i j k =
    flat_map (λ l. product (neg_ℤ (A k i)) (A l j) (P k l) ∷ []) (places d)

-- an entry, term by term
abbrev pub loss_sum : ℕ → ℤ → Matrix → Matrix → ℕ → ℕ → Option ℤ
loss_sum d q A P i j =
    option_and_then (λ s. sum_from s (flat_map (row_summands d A P i j) (places d)))
    (sum_with (pos 0) (product q q (P i j)))

-- row i of what P loses in a step, 0 after its first d entries
pub record IsLossRow (d : ℕ) (q : ℤ) (A P : Matrix) (i : ℕ) (row : List ℤ) : Type 0 where
  pub size : length row ≡ greatest_order
  pub entries : (j : ℕ) → j < d → slice_index_or row j (pos 0) ≡ fall_form d q A P i j
  pub after : (j : ℕ) → d ≤ j → slice_index_or row j (pos 0) ≡ pos 0
