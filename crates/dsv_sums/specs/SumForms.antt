-- Forms that are offered for a polynomial: sums that come near the form which loses the same on the
-- diagonal in each step.
--
-- With the companion matrix C, P_0 is 2^20 on the diagonal, and P_(t+1) is 2^20 on the diagonal
-- plus C^T P_t C / c_0^2, each entry rounded down.
use Rattle.std.specs.Prelude.{ℕ, zero, suc, ◌-◌, ◌+◌, ◌^◌, ◌==◌, Bool, nat_le, ◌||◌}
use Rattle.std.specs.Prelude.{if◌then◌else◌, List, ◌++◌, length, map}
use Rattle.std.specs.Prelude.{Option, Some, None, ℤ, pos, neg_ℤ, ◌+ℤ◌, ◌*ℤ◌}
use Rattle.std.specs.List.{list_any}
use Rattle.std.specs.Option.{option_and_then}
use Rattle.std.specs.Int.{int_div_euclid}
use Rattle.std.specs.Int.RustNames.{unsigned_abs}
use Rattle.dsv_algebra.specs.Vectors.{Vector, Matrix, vector_of, matrix_of}
use Rattle.dsv_algebra.specs.Companion.{fall_entry, total_from, image_terms}
use Rattle.dsv_forms.specs.declared.offers.Form.{Form}
use Rattle.dsv_forms.specs.declared.offers.Falls.{Falls}
use Rattle.dsv_forms.specs.Padded.{form_with}
use Rattle.dsv_forms.specs.Refusals.{places, any_wide, partial_sums, falls_refusal}
use Rattle.dsv_sums.specs.Elimination.{rows_of, elimination}
use Rattle.dsv_sums.specs.declared.search.SumOffer.{SumOffer}

-- ---- the next form

-- an entry of C^T P C
abbrev pub image_entry : ℕ → Vector → Matrix → ℕ → ℕ → ℤ
image_entry d c P i j = neg_ℤ (total_from (pos 0) (image_terms d c P i j))

-- the numbers on the way to it
abbrev pub image_numbers : ℕ → Vector → Matrix → ℕ → ℕ → List ℤ
image_numbers d c P i j =
    let products = map (λ t. t.0 *ℤ t.1) (image_terms d c P i j) in
    products ++ partial_sums (pos 0) products

-- 2^20 on the diagonal
abbrev pub base_entry : ℕ → ℕ → ℤ
base_entry i j = if i == j then pos (2 ^ 20) else pos 0

abbrev pub next_entry : ℕ → Vector → Matrix → ℕ → ℕ → ℤ
next_entry d c P i j = base_entry i j +ℤ int_div_euclid (image_entry d c P i j) (c 0 *ℤ c 0)

-- the least size that an entry may not have
abbrev pub entry_limit : ℕ
entry_limit = 2 ^ 60

-- the entry after P passes 2^60, or a number on the way to it 2^126
abbrev pub is_too_great : ℕ → Vector → Matrix → ℕ → ℕ → Bool
is_too_great d c P i j =
    any_wide (image_numbers d c P i j) || nat_le entry_limit (unsigned_abs (next_entry d c P i j))

-- the form after P, where no entry is too great
abbrev pub next_form : List ℤ → Form → Option Form
next_form cs form =
    let d = length cs - 1 in
    let c = vector_of cs in
    let P = matrix_of form.rows in
    if list_any (λ i. list_any (λ j. is_too_great d c P i j) (places d)) (places d) then None
    else Some (form_with (rows_of d (next_entry d c P)))

-- P_t, where no form on the way has an entry that is too great
abbrev pub sum_form : List ℤ → ℕ → Option Form
sum_form cs zero = Some (form_with (rows_of (length cs - 1) base_entry))
sum_form cs (suc t) = option_and_then (λ form. next_form cs form) (sum_form cs t)

-- ---- offers
-- the offer, where its check accepts it
abbrev pub where_accepted : List ℤ → Falls → Option Falls
where_accepted cs offer = elim (falls_refusal cs offer) [ None ↦ Some offer | Some r ↦ None ]

-- the form with the squares that rounded elimination gives for it and for what it loses in a step,
-- where the check accepts it with them
abbrev pub offer_with : List ℤ → Form → Option Falls
offer_with cs form =
    let d = length cs - 1 in
    let P = matrix_of form.rows in
    option_and_then (λ positive.
    option_and_then (λ fall.
    where_accepted cs (record { form = form; positive = positive; fall = fall }))
    (elimination d (fall_entry d (vector_of cs) P)))
    (elimination d P)

-- how often the search looks: at t = 1, 2, 4, .. 2048
abbrev pub most_looks : ℕ
most_looks = 12

-- the first offer at n looks from look number k on, at t = 2^k, before the search ends
abbrev pub offer_from : List ℤ → ℕ → ℕ → Option SumOffer
offer_from cs k zero = None
offer_from cs k (suc n) =
    elim (sum_form cs (2 ^ k)) [
      | None ↦ None
      | Some form ↦ elim (offer_with cs form) [
        | Some offer ↦ Some (record { look = k; offer = offer })
        | None ↦ offer_from cs (k + 1) n
      ]
    ]

-- the first offer from look number k on
abbrev pub first_offer : List ℤ → ℕ → Option SumOffer
first_offer cs k = offer_from cs k (most_looks - k)
