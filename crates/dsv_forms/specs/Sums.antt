-- Sums that are given up where a number on the way passes 2^126, as the code has them.
use Rattle.std.specs.Prelude.{◌≡◌, ◌<◌, ◌≤◌, ◌⊎◌, min, max, ℕ}
use Rattle.std.specs.Prelude.{List, [], ◌∷◌, if◌then◌else◌}
use Rattle.std.specs.Prelude.{Option, Some, None, ℤ, pos}
use Rattle.std.specs.Prelude.{◌+ℤ◌, ◌*ℤ◌, neg_ℤ, nat_lt, int_lt}
use Rattle.std.specs.Prelude.{not, ◌+◌, Bool, true, false}
use Rattle.std.specs.List.{flat_map}
use Rattle.std.specs.Option.{option_and_then, option_map}
use Rattle.std.specs.Ordering.{int_eq}
use Rattle.dsv_algebra.specs.Narrow.{narrow_limit, narrow_of}
use Rattle.dsv_algebra.specs.Vectors.{Vector, Matrix, matrix_of}
use Rattle.dsv_algebra.specs.Squares.{beside}
use Rattle.dsv_forms.specs.declared.offers.Form.{Form}
use Rattle.dsv_forms.specs.declared.offers.Squares.{Squares}
use Rattle.dsv_forms.specs.declared.refusal.OfferPart.{OfferPart}
use Rattle.dsv_forms.specs.declared.refusal.OfferPart.TheVariants as part
use Rattle.dsv_forms.specs.declared.refusal.FormRefusal.{FormRefusal}
use Rattle.dsv_forms.specs.declared.refusal.FormRefusal.TheVariants as refusal
use Rattle.dsv_forms.specs.Refusals.{first_of, places, any_wide, weights_of, rows_of, rest_of}

-- a number that is added, after the numbers on the way to it
abbrev pub Summand : Type 0
Summand = List ℤ × ℤ

-- one summand more
abbrev pub sum_with : ℤ → Summand → Option ℤ
sum_with sum t = if any_wide t.0 then None else narrow_of (sum +ℤ t.1)

-- a number and the summands
abbrev pub sum_from : ℤ → List Summand → Option ℤ
sum_from sum [] = Some sum
sum_from sum (t ∷ ts) = option_and_then (λ s. sum_from s ts) (sum_with sum t)

-- a product of three numbers
abbrev pub product : ℤ → ℤ → ℤ → Summand
product a b c = ((a *ℤ b) ∷ (a *ℤ b *ℤ c) ∷ [], a *ℤ b *ℤ c)

-- the first n squares at a place
abbrev pub square_summands : ℕ → Squares → ℕ → ℕ → List Summand
square_summands n s i j =
    flat_map (λ k. product (weights_of s k) (rows_of s k i) (rows_of s k j) ∷ []) (places n)

-- the sizes beside the diagonal in a row of a rest
abbrev pub size_summands : ℕ → Matrix → ℕ → List Summand
size_summands d R i = flat_map (λ j. (R i j ∷ [], beside R i j) ∷ []) (places d)

-- a row of the form's value at v
abbrev pub row_summands : ℕ → Matrix → Vector → ℕ → List Summand
row_summands d P v i = flat_map (λ j. product (P i j) (v i) (v j) ∷ []) (places d)

-- the form's value at v
abbrev pub value_summands : ℕ → Matrix → Vector → List Summand
value_summands d P v = flat_map (row_summands d P v) (places d)

-- the summand, where the test holds
abbrev pub summand_where : Bool → Summand → List Summand
summand_where true t = t ∷ []
summand_where false t = []

-- the sum less an entry of C^T P C, term by term
abbrev pub image_sum : ℕ → Vector → Matrix → ℕ → ℕ → ℤ → Option ℤ
image_sum d c P i j sum =
    let below = nat_lt (i + 1) d in
    let after = nat_lt (j + 1) d in
    option_and_then (λ s.
    option_and_then (λ s.
    option_and_then (λ s.
    if below
    then sum_from s (summand_where after (product (neg_ℤ (c 0)) (c 0) (P (i + 1) (j + 1))))
    else Some s)
    (sum_from s (summand_where below (product (c 0) (c (j + 1)) (P (i + 1) 0)))))
    (sum_from s (summand_where after (product (c (i + 1)) (c 0) (P 0 (j + 1))))))
    (sum_with sum (product (neg_ℤ (c (i + 1))) (c (j + 1)) (P 0 0)))

-- an entry of the fall form, term by term
abbrev pub fall_sum : ℕ → Vector → Matrix → ℕ → ℕ → Option ℤ
fall_sum d c P i j =
    option_and_then (λ s. image_sum d c P i j s) (sum_with (pos 0) (product (c 0) (c 0) (P i j)))

-- the number, or one that is too wide
abbrev pub or_too_wide : Option ℤ → ℤ
or_too_wide (Some x) = x
or_too_wide None = pos narrow_limit

-- both sides of the identity with n squares at a place where the form has the entry x
abbrev pub sides_of : ℕ → Squares → ℤ → ℕ → ℕ → Option (ℤ × ℤ)
sides_of n s x i j =
    option_and_then (λ left.
    option_and_then (λ sum.
    option_map (λ right. (left, right)) (narrow_of (sum +ℤ rest_of s i j)))
    (sum_from (pos 0) (square_summands n s i j))) (narrow_of (s.m *ℤ x))

-- why both sides at a place, where there are some, aren't accepted
abbrev pub sides_refusal : OfferPart → ℕ → ℕ → Option (ℤ × ℤ) → Option FormRefusal
sides_refusal p i j None = Some (refusal.Wide p i j)
sides_refusal p i j (Some sides) =
    first_of ((not (int_eq sides.0 sides.1), refusal.Identity p i j) ∷ [])

-- why a value at the start, where there is one, isn't accepted
abbrev pub value_refusal : Option ℤ → Option FormRefusal
value_refusal None = Some (refusal.Wide part.Start 0 0)
value_refusal (Some value) =
    first_of ((not (int_lt value (pos 0)), refusal.StartNotNegative value) ∷ [])

-- F has the entries of what P loses in a step in the first d places, the upper half mirrored, each
-- with a number in its place that is too wide where one on the way is; elsewhere it is 0.
pub record IsFallOrWide (d : ℕ) (c : Vector) (P F : Form) : Type 0 where
  pub entries : (i j : ℕ) → i < d → j < d → matrix_of F.rows i j
      ≡ or_too_wide (fall_sum d c (matrix_of P.rows) (min i j) (max i j))
  pub elsewhere : (i j : ℕ) → (d ≤ i) ⊎ (d ≤ j) → matrix_of F.rows i j ≡ pos 0
