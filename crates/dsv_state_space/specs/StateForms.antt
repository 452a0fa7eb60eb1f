-- Forms that fall along the states of a controller without input: what a form loses in a step of
-- x' = A x, and the tests of an offer.
--
-- With A in words and q = 2^frac_bits the step is A divided by q. So that all numbers are whole,
-- what the form P loses is q^2 P - A^T P A: Lyapunov's test for discrete systems.
use Rattle.std.specs.Prelude.{◌≡◌, ℕ, ◌^◌, ◌<◌, ◌≤◌, ◌⊎◌, List, [], ◌∷◌, ◌++◌}
use Rattle.std.specs.Prelude.{map, Option, None, ℤ, pos, neg_ℤ, ◌*ℤ◌}
use Rattle.std.specs.List.{flat_map}
use Rattle.dsv_algebra.specs.Companion.{total_from}
use Rattle.dsv_algebra.specs.Falling.{StrictlyFalls, fall_form}
use Rattle.dsv_algebra.specs.Vectors.{Matrix, matrix_of}
use Rattle.dsv_forms.specs.Refusals.{Test, first_of, places, any_wide, partial_sums, bad_form}
use Rattle.dsv_forms.specs.Refusals.{definite_tests}
use Rattle.dsv_forms.specs.declared.offers.Falls.{Falls}
use Rattle.dsv_forms.specs.declared.offers.Form.{Form}
use Rattle.dsv_forms.specs.declared.refusal.OfferPart.TheVariants as part
use Rattle.dsv_forms.specs.declared.refusal.FormRefusal.{FormRefusal}
use Rattle.dsv_forms.specs.declared.refusal.FormRefusal.TheVariants as refusal
use Rattle.dsv_state_space.specs.StateView.{StateView, states}

-- two to the number of bits after the point
abbrev pub one_of : StateView → ℤ
one_of s = pos (2 ^ s.format.frac_bits)

-- the form strictly falls along the states: V(v) > 0 and q^2 V(v) > V(A v) for each integer vector
-- v other than 0
abbrev pub FallsAlongStates : StateView → Form → Type 0
FallsAlongStates s P =
    StrictlyFalls (states s) (one_of s) (matrix_of s.a) (matrix_of P.rows)

-- ---- the entries of what a form loses in a step
-- the terms of an entry, each a factor and the entry of P that it is multiplied with: first q^2,
-- and then for k, and in it for l, the product of A_ki and A_lj with the other sign
abbrev pub loss_terms : ℕ → ℤ → Matrix → Matrix → ℕ → ℕ → List (ℤ × ℤ)
loss_terms d q A P i j = (q *ℤ q, P i j)
    ∷ flat_map (λ k. map (λ l. (neg_ℤ (A k i) *ℤ A l j, P k l)) (places d)) (places d)

abbrev pub loss_entry : ℕ → ℤ → Matrix → Matrix → Matrix
loss_entry d q A P i j = total_from (pos 0) (loss_terms d q A P i j)

-- the numbers on the way to an entry: the factors, the products, and the sums from left to right
abbrev pub loss_numbers : ℕ → ℤ → Matrix → Matrix → ℕ → ℕ → List ℤ
loss_numbers d q A P i j =
    let terms = loss_terms d q A P i j in
    map (λ t. t.0) terms ++ map (λ t. t.0 *ℤ t.1) terms
    ++ partial_sums (pos 0) (map (λ t. t.0 *ℤ t.1) terms)

-- F has the entries of q^2 P - A^T P A in its d places, and 0 elsewhere.
pub record IsLossForm (d : ℕ) (q : ℤ) (A : Matrix) (P F : Form) : Type 0 where
  pub places : F.d ≡ d
  pub entries : (i j : ℕ) → i < d → j < d
      → matrix_of F.rows i j ≡ fall_form d q A (matrix_of P.rows) i j
  pub elsewhere : (i j : ℕ) → (d ≤ i) ⊎ (d ≤ j) → matrix_of F.rows i j ≡ pos 0

-- F is what P loses in a step of the controller's states
abbrev pub IsStateLoss : StateView → Form → Form → Type 0
IsStateLoss s = IsLossForm (states s) (one_of s) (matrix_of s.a)

-- ---- the tests of an offer, in their order
-- that no number on the way to an entry in row i of the loss passes 2^126
abbrev pub loss_row_tests : ℕ → ℤ → Matrix → Matrix → ℕ → List Test
loss_row_tests d q A P i =
    map (λ j. (any_wide (loss_numbers d q A P i j), refusal.Wide part.Fall i j)) (places d)

-- that none on the way to any entry does, row by row
abbrev pub loss_tests : ℕ → ℤ → Matrix → Matrix → List Test
loss_tests d q A P = flat_map (loss_row_tests d q A P) (places d)

-- the form's shape, its squares, the numbers of its loss, and the squares of the loss
abbrev pub state_falls_tests : ℕ → ℤ → Matrix → Falls → List Test
state_falls_tests d q A offer =
    let P = matrix_of offer.form.rows in
    (bad_form d offer.form, refusal.Shape part.Form)
    ∷ definite_tests part.Positive d offer.positive P (λ i j. [])
    ++ (loss_tests d q A P
    ++ definite_tests part.Fall d offer.fall (loss_entry d q A P) (λ i j. []))

-- why an offer of a form isn't accepted for the controller
abbrev pub state_falls_refusal : StateView → Falls → Option FormRefusal
state_falls_refusal s offer =
    first_of (state_falls_tests (states s) (one_of s) (matrix_of s.a) offer)

-- The form is positive at every vector of integers but 0, and less after a step; its check accepts
-- it, and `fall` is what it loses in a step. There are so many states.
pub record ShowsStateFall (s : StateView) (many : ℕ) (offer : Falls) (fall : Form) : Type 0 where
  pub counted : many ≡ states s
  pub falls : FallsAlongStates s offer.form
  pub accepted : state_falls_refusal s offer ≡ None
  pub loss : IsStateLoss s offer.form fall
