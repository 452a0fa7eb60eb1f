-- The closed form of a stable polynomial of order 2 is accepted.
use Rattle.std.proofs.Common.{◌≡◌, ℕ, zero, suc, ◌*◌, ◌^◌, ◌<◌, ◌≤◌, Bool, true, false, int_lt, List, [], ◌∷◌, None, refl, arith}
use Rattle.std.proofs.Math.IntN.{ℤ, pos, negsuc, ◌+ℤ◌, ◌-ℤ◌, ◌*ℤ◌}
use Rattle.std.specs.Ordering.{int_eq}
use Rattle.std.proofs.lemmas.Int.{ints}
use Rattle.std.proofs.lemmas.Bool.Decides.{Decides-int_eq}
use lib.Signed.{◌<ℤ◌, ◌≤ℤ◌}
use Rattle.dsv_algebra.specs.Vectors.{Matrix, vector_of, matrix_of}
use Rattle.dsv_algebra.specs.Squares.{square}
use Rattle.dsv_algebra.specs.Companion.{fall_entry}
use Rattle.dsv_algebra.proofs.Normaliser.{Expr, ring, env, var, num, plus, times}
use Rattle.dsv_algebra.proofs.Signs.{mul_positive}
use Rattle.dsv_forms.specs.declared.offers.Squares.{Squares}
use Rattle.dsv_forms.specs.Refusals.{weights_of, rows_of, right_side, bad_weight, bad_row, fall_numbers, falls_refusal}
use Rattle.dsv_forms.proofs.Passing.{Within, Narrow, within_times, within_plus, fall_numbers_narrow, side_numbers_narrow}
use Rattle.dsv_forms.proofs.PassingOffers.{IsDefinitePart, IsDiagonal, same_test, falls_accepted}
use Rattle.dsv_forms.specs.Padded.{matrix_with, squares_with}
use Rattle.dsv_closed_forms.specs.ClosedForm.{gap, fall_scale, second_rows, diagonal, second_that_falls}
use Rattle.dsv_closed_forms.specs.SmallCoefficients.{AreSmall}
use Rattle.dsv_closed_forms.proofs.FirstAccepted.{no_entry, positive_test}
use Rattle.dsv_closed_forms.proofs.SecondForm.{at_two, c0-e, c1-e, c2-e, sum-e, gap-e, r-e, p-e, s-e, loses, coefficient_within, sizes, rows_within}
use Rattle.dsv_closed_forms.proofs.RootAccepted.{wider}

-- what holds at both places holds at each
both : (Q : ℕ → Type 0) → Q 0 → Q 1 → (k : ℕ) → k < 2 → Q k
both Q a b zero l = a
both Q a b (suc zero) l = b
both Q a b (suc (suc k)) l = absurd (omega arith)

least_test : (w : ℤ) → pos 0 <ℤ w → int_lt w (pos 1) ≡ false
least_test w h = grind (arith, ints)

not_true : (b : Bool) → (b ≡ true → ⊥) → b ≡ false
not_true true h = absurd (h refl)
not_true false h = refl

other_test : (w : ℤ) → pos 0 <ℤ w → int_eq w (pos 0) ≡ false
other_test w h = not_true (int_eq w (pos 0)) (λ e. let z : w ≡ pos 0 = (Decides-int_eq w (pos 0)).0 e in omega (arith, ints))

zero_rest : (d : ℕ) (m : ℤ) (weights : List ℤ) (rows : List (List ℤ)) → IsDiagonal d 0 (squares_with m weights rows [])
zero_rest d m weights rows = record { off = λ i j h. no_entry i j; sign = λ i l. rw (no_entry i i) (omega (arith, ints)); small = λ i l. rw (no_entry i i) (omega arith) }

-- ---- the fall form

unit_product : (w : ℤ) → w *ℤ pos 1 ≡ w
unit_product w = ring (env (w ∷ [])) (times (var 0) (num (pos 1))) (var 0) refl

no_product : (w : ℤ) → w *ℤ pos 0 ≡ pos 0
no_product w = ring (env (w ∷ [])) (times (var 0) (num (pos 0))) (num (pos 0)) refl

unit_within : (n : ℕ) (w : ℤ) → Within n w → Within n (w *ℤ pos 1)
unit_within n w h = rw (unit_product w) h

none_within : (n : ℕ) (w : ℤ) → Within n (w *ℤ pos 0)
none_within n w = rw (no_product w) (omega arith)

product_within : (n : ℕ) (w : ℤ) → Within n w → (i j k : ℕ) → i < 2 → k < 2 → Within n (weights_of (squares_with (pos 1) (w ∷ w ∷ []) (diagonal (pos 1)) []) k *ℤ rows_of (squares_with (pos 1) (w ∷ w ∷ []) (diagonal (pos 1)) []) k i)
product_within n w h i j k a b =
    at_two (λ i k. Within n (weights_of (squares_with (pos 1) (w ∷ w ∷ []) (diagonal (pos 1)) []) k *ℤ rows_of (squares_with (pos 1) (w ∷ w ∷ []) (diagonal (pos 1)) []) k i)) (unit_within n w h) (none_within n w) (none_within n w) (unit_within n w h) i k a b

unit_square_within : (n : ℕ) (w : ℤ) → Within n w → (i j : ℕ) → i < 2 → j < 2 → (k : ℕ) → k < 2 → Within n (square (weights_of (squares_with (pos 1) (w ∷ w ∷ []) (diagonal (pos 1)) []) k) (rows_of (squares_with (pos 1) (w ∷ w ∷ []) (diagonal (pos 1)) []) k) i j)
unit_square_within n w h i j a b k c =
    at_two (λ i j. (k : ℕ) → k < 2 → Within n (square (weights_of (squares_with (pos 1) (w ∷ w ∷ []) (diagonal (pos 1)) []) k) (rows_of (squares_with (pos 1) (w ∷ w ∷ []) (diagonal (pos 1)) []) k) i j))
    (both (λ k. Within n (square (weights_of (squares_with (pos 1) (w ∷ w ∷ []) (diagonal (pos 1)) []) k) (rows_of (squares_with (pos 1) (w ∷ w ∷ []) (diagonal (pos 1)) []) k) 0 0)) (unit_within n (w *ℤ pos 1) (unit_within n w h)) (none_within n (w *ℤ pos 0)))
    (both (λ k. Within n (square (weights_of (squares_with (pos 1) (w ∷ w ∷ []) (diagonal (pos 1)) []) k) (rows_of (squares_with (pos 1) (w ∷ w ∷ []) (diagonal (pos 1)) []) k) 0 1)) (none_within n (w *ℤ pos 1)) (unit_within n (w *ℤ pos 0) (none_within n w)))
    (both (λ k. Within n (square (weights_of (squares_with (pos 1) (w ∷ w ∷ []) (diagonal (pos 1)) []) k) (rows_of (squares_with (pos 1) (w ∷ w ∷ []) (diagonal (pos 1)) []) k) 1 0)) (unit_within n (w *ℤ pos 0) (none_within n w)) (none_within n (w *ℤ pos 1)))
    (both (λ k. Within n (square (weights_of (squares_with (pos 1) (w ∷ w ∷ []) (diagonal (pos 1)) []) k) (rows_of (squares_with (pos 1) (w ∷ w ∷ []) (diagonal (pos 1)) []) k) 1 1)) (none_within n (w *ℤ pos 0)) (unit_within n (w *ℤ pos 1) (unit_within n w h)))
    i j a b k c

-- squares of the places themselves with the weight w show the form with w on the diagonal
unit_squares : (w : ℤ) (T : Matrix) (numbers : ℕ → ℕ → List ℤ) → T 0 0 ≡ w → T 0 1 ≡ pos 0 → T 1 0 ≡ pos 0 → T 1 1 ≡ w → pos 0 <ℤ w → Within (2 ^ 119) w
    → ((i j : ℕ) → i < 2 → j < 2 → Narrow (numbers i j)) → IsDefinitePart 2 0 (squares_with (pos 1) (w ∷ w ∷ []) (diagonal (pos 1)) []) T numbers
unit_squares w T numbers a b c d positive small way = record {
  shape = refl;
  weights = both (λ k. bad_weight (squares_with (pos 1) (w ∷ w ∷ []) (diagonal (pos 1)) []) k ≡ false) (positive_test w positive) (positive_test w positive);
  rows = both (λ k. bad_row (squares_with (pos 1) (w ∷ w ∷ []) (diagonal (pos 1)) []) k ≡ false) refl refl;
  way = way;
  sides = λ i j x y. side_numbers_narrow 2 (squares_with (pos 1) (w ∷ w ∷ []) (diagonal (pos 1)) []) (T i j) i j 1 (2 ^ 119) (2 ^ 119) (2 ^ 119) 0 (record {
    scale = omega arith;
    entry = at_two (λ i j. Within (2 ^ 119) (T i j)) (rw a small) (rw b (omega arith)) (rw c (omega arith)) (rw d small) i j x y;
    products = λ k l. product_within (2 ^ 119) w small i j k x l;
    squares = unit_square_within (2 ^ 119) w small i j x y;
    rest = rw (no_entry i j) (omega arith);
    left = omega arith;
    first = omega arith;
    right = omega arith;
  }) (omega arith);
  same = at_two (λ i j. pos 1 *ℤ T i j ≡ right_side 2 (squares_with (pos 1) (w ∷ w ∷ []) (diagonal (pos 1)) []) i j)
      (rw a (ring (env (w ∷ [])) (times (num (pos 1)) (var 0)) (plus (plus (plus (num (pos 0)) (times (times (var 0) (num (pos 1))) (num (pos 1)))) (times (times (var 0) (num (pos 0))) (num (pos 0)))) (num (pos 0))) refl))
      (rw b (ring (env (w ∷ [])) (num (pos 0)) (plus (plus (plus (num (pos 0)) (times (times (var 0) (num (pos 1))) (num (pos 0)))) (times (times (var 0) (num (pos 0))) (num (pos 1)))) (num (pos 0))) refl))
      (rw c (ring (env (w ∷ [])) (num (pos 0)) (plus (plus (plus (num (pos 0)) (times (times (var 0) (num (pos 0))) (num (pos 1)))) (times (times (var 0) (num (pos 1))) (num (pos 0)))) (num (pos 0))) refl))
      (rw d (ring (env (w ∷ [])) (times (num (pos 1)) (var 0)) (plus (plus (plus (num (pos 0)) (times (times (var 0) (num (pos 0))) (num (pos 0)))) (times (times (var 0) (num (pos 1))) (num (pos 1)))) (num (pos 0))) refl));
  rest = zero_rest 2 (pos 1) (w ∷ w ∷ []) (diagonal (pos 1));
  small = omega arith;
}

-- ---- the form itself

abbrev own_squares : ℤ → ℤ → ℤ → Squares
own_squares c0 c1 c2 = squares_with (c0 +ℤ c2) (pos 2 ∷ (gap c0 c1 c2 *ℤ (c0 *ℤ c0 +ℤ c2 *ℤ c2)) ∷ []) ((((c0 +ℤ c2) *ℤ c0) ∷ (c1 *ℤ c2) ∷ []) ∷ (pos 0 ∷ pos 1 ∷ []) ∷ []) []

abbrev side-e : Expr → Expr → Expr → Expr → Expr
side-e x y u v = plus (plus (plus (num (pos 0)) (times (times (num (pos 2)) x) y)) (times (times (times gap-e (plus (times c0-e c0-e) (times c2-e c2-e))) u) v)) (num (pos 0))

own_same : (c0 c1 c2 : ℤ) (i j : ℕ) → i < 2 → j < 2 → (c0 +ℤ c2) *ℤ matrix_of (matrix_with (second_rows c0 c1 c2)) i j ≡ right_side 2 (own_squares c0 c1 c2) i j
own_same c0 c1 c2 = at_two (λ i j. (c0 +ℤ c2) *ℤ matrix_of (matrix_with (second_rows c0 c1 c2)) i j ≡ right_side 2 (own_squares c0 c1 c2) i j)
    (ring (env (c0 ∷ c1 ∷ c2 ∷ [])) (times sum-e r-e) (side-e (times sum-e c0-e) (times sum-e c0-e) (num (pos 0)) (num (pos 0))) refl)
    (ring (env (c0 ∷ c1 ∷ c2 ∷ [])) (times sum-e p-e) (side-e (times sum-e c0-e) (times c1-e c2-e) (num (pos 0)) (num (pos 1))) refl)
    (ring (env (c0 ∷ c1 ∷ c2 ∷ [])) (times sum-e p-e) (side-e (times c1-e c2-e) (times sum-e c0-e) (num (pos 1)) (num (pos 0))) refl)
    (ring (env (c0 ∷ c1 ∷ c2 ∷ [])) (times sum-e s-e) (side-e (times c1-e c2-e) (times c1-e c2-e) (num (pos 1)) (num (pos 1))) refl)

pub record OwnSizes (c0 c1 c2 : ℤ) : Type 0 where
  pub left : Within (2 ^ 47) ((c0 +ℤ c2) *ℤ c0)
  pub right : Within (2 ^ 47) (c1 *ℤ c2)
  pub weight : Within (2 ^ 96) (gap c0 c1 c2 *ℤ (c0 *ℤ c0 +ℤ c2 *ℤ c2))

pub own_sizes : (c0 c1 c2 : ℤ) → AreSmall c0 c1 c2 → OwnSizes c0 c1 c2
own_sizes c0 c1 c2 h =
    let z = sizes c0 c1 c2 h in
    let squares : Within (2 ^ 47) (c0 *ℤ c0 +ℤ c2 *ℤ c2) = within_plus (2 ^ 46) (2 ^ 46) (c0 *ℤ c0) (c2 *ℤ c2) (within_times (2 ^ 23) (2 ^ 23) c0 c0 h.first h.first) (within_times (2 ^ 23) (2 ^ 23) c2 c2 h.third h.third) in
    record {
      left = within_times (2 ^ 24) (2 ^ 23) (c0 +ℤ c2) c0 z.sum h.first;
      right = wider (2 ^ 46) (2 ^ 47) (c1 *ℤ c2) (within_times (2 ^ 23) (2 ^ 23) c1 c2 h.second h.third) (omega arith);
      weight = within_times (2 ^ 49) (2 ^ 47) (gap c0 c1 c2) (c0 *ℤ c0 +ℤ c2 *ℤ c2) z.gap_size squares;
    }

double_within : (x : ℤ) → Within (2 ^ 47) x → Within (2 ^ 96) (pos 2 *ℤ x)
double_within x h = wider (2 * 2 ^ 47) (2 ^ 96) (pos 2 *ℤ x) (within_times 2 (2 ^ 47) (pos 2) x (omega arith) h) (omega arith)

twice_within : (x y : ℤ) → Within (2 ^ 47) x → Within (2 ^ 47) y → Within (2 ^ 96) (pos 2 *ℤ x *ℤ y)
twice_within x y h k = wider (2 * 2 ^ 47 * 2 ^ 47) (2 ^ 96) (pos 2 *ℤ x *ℤ y) (within_times (2 * 2 ^ 47) (2 ^ 47) (pos 2 *ℤ x) y (within_times 2 (2 ^ 47) (pos 2) x (omega arith) h) k) (omega arith)

own_products : (c0 c1 c2 : ℤ) → OwnSizes c0 c1 c2 → (i k : ℕ) → i < 2 → k < 2 → Within (2 ^ 96) (weights_of (own_squares c0 c1 c2) k *ℤ rows_of (own_squares c0 c1 c2) k i)
own_products c0 c1 c2 z =
    let g = gap c0 c1 c2 *ℤ (c0 *ℤ c0 +ℤ c2 *ℤ c2) in
    at_two (λ i k. Within (2 ^ 96) (weights_of (own_squares c0 c1 c2) k *ℤ rows_of (own_squares c0 c1 c2) k i))
    (double_within ((c0 +ℤ c2) *ℤ c0) z.left) (none_within (2 ^ 96) g) (double_within (c1 *ℤ c2) z.right) (unit_within (2 ^ 96) g z.weight)

own_squares_within : (c0 c1 c2 : ℤ) → OwnSizes c0 c1 c2 → (i j : ℕ) → i < 2 → j < 2 → (k : ℕ) → k < 2 → Within (2 ^ 96) (square (weights_of (own_squares c0 c1 c2) k) (rows_of (own_squares c0 c1 c2) k) i j)
own_squares_within c0 c1 c2 z =
    let g = gap c0 c1 c2 *ℤ (c0 *ℤ c0 +ℤ c2 *ℤ c2) in
    let x = (c0 +ℤ c2) *ℤ c0 in
    let y = c1 *ℤ c2 in
    at_two (λ i j. (k : ℕ) → k < 2 → Within (2 ^ 96) (square (weights_of (own_squares c0 c1 c2) k) (rows_of (own_squares c0 c1 c2) k) i j))
    (both (λ k. Within (2 ^ 96) (square (weights_of (own_squares c0 c1 c2) k) (rows_of (own_squares c0 c1 c2) k) 0 0)) (twice_within x x z.left z.left) (none_within (2 ^ 96) (g *ℤ pos 0)))
    (both (λ k. Within (2 ^ 96) (square (weights_of (own_squares c0 c1 c2) k) (rows_of (own_squares c0 c1 c2) k) 0 1)) (twice_within x y z.left z.right) (unit_within (2 ^ 96) (g *ℤ pos 0) (none_within (2 ^ 96) g)))
    (both (λ k. Within (2 ^ 96) (square (weights_of (own_squares c0 c1 c2) k) (rows_of (own_squares c0 c1 c2) k) 1 0)) (twice_within y x z.right z.left) (none_within (2 ^ 96) (g *ℤ pos 1)))
    (both (λ k. Within (2 ^ 96) (square (weights_of (own_squares c0 c1 c2) k) (rows_of (own_squares c0 c1 c2) k) 1 1)) (twice_within y y z.right z.right) (unit_within (2 ^ 96) (g *ℤ pos 1) (unit_within (2 ^ 96) g z.weight)))

-- ---- signs

pub record IsStablePair (c0 c1 c2 : ℤ) : Type 0 where
  pub first : pos 0 <ℤ c0
  pub sum : pos 0 <ℤ (c0 +ℤ c2)
  pub difference : pos 0 <ℤ (c0 -ℤ c2)
  pub gap_sign : pos 0 <ℤ gap c0 c1 c2

squares_positive : (a b : ℤ) → pos 0 <ℤ a → pos 0 ≤ℤ b → pos 0 <ℤ (a +ℤ b)
squares_positive a b h k = omega (arith, ints)

pub square_not_negative : (a : ℤ) → pos 0 ≤ℤ (a *ℤ a)
square_not_negative (pos n) = omega (arith, ints)
square_not_negative (negsuc n) = omega (arith, ints)

pub second_falls : (c0 c1 c2 : ℤ) → AreSmall c0 c1 c2 → IsStablePair c0 c1 c2 → falls_refusal (c0 ∷ c1 ∷ c2 ∷ []) (second_that_falls c0 c1 c2) ≡ None
second_falls c0 c1 c2 small h =
    let offer = second_that_falls c0 c1 c2 in
    let c = vector_of (c0 ∷ c1 ∷ c2 ∷ []) in
    let P = matrix_of offer.form.rows in
    let w = c0 *ℤ c0 *ℤ fall_scale c0 c1 c2 in
    let g = gap c0 c1 c2 *ℤ (c0 *ℤ c0 +ℤ c2 *ℤ c2) in
    let z = sizes c0 c1 c2 small in
    let own = own_sizes c0 c1 c2 small in
    let l = loses c0 c1 c2 in
    let more : pos 0 <ℤ w = mul_positive (c0 *ℤ c0) (fall_scale c0 c1 c2) (mul_positive c0 c0 h.first h.first) (mul_positive (c0 -ℤ c2) (gap c0 c1 c2) h.difference h.gap_sign) in
    let weight : pos 0 <ℤ g = mul_positive (gap c0 c1 c2) (c0 *ℤ c0 +ℤ c2 *ℤ c2) h.gap_sign (squares_positive (c0 *ℤ c0) (c2 *ℤ c2) (mul_positive c0 c0 h.first h.first) (square_not_negative c2)) in
    let row : pos 0 <ℤ ((c0 +ℤ c2) *ℤ c0) = mul_positive (c0 +ℤ c2) c0 h.sum h.first in
    falls_accepted (c0 ∷ c1 ∷ c2 ∷ []) offer 2 0 0 refl (rw (same_test (pos 2 *ℤ (c0 +ℤ c2) *ℤ (c0 *ℤ c0)) (pos 2 *ℤ (c0 +ℤ c2) *ℤ (c0 *ℤ c0)) refl, same_test (pos 2 *ℤ c0 *ℤ (c1 *ℤ c2)) (pos 2 *ℤ c0 *ℤ (c1 *ℤ c2)) refl, same_test (pos 2 *ℤ (c0 +ℤ c2) *ℤ (c2 *ℤ c2) +ℤ fall_scale c0 c1 c2) (pos 2 *ℤ (c0 +ℤ c2) *ℤ (c2 *ℤ c2) +ℤ fall_scale c0 c1 c2) refl) refl)
    (record {
      shape = rw (least_test (c0 +ℤ c2) h.sum) refl;
      weights = both (λ k. bad_weight (own_squares c0 c1 c2) k ≡ false) refl (positive_test g weight);
      rows = both (λ k. bad_row (own_squares c0 c1 c2) k ≡ false) (other_test ((c0 +ℤ c2) *ℤ c0) row) refl;
      way = λ i j a b. tt;
      sides = λ i j a b. side_numbers_narrow 2 (own_squares c0 c1 c2) (P i j) i j (2 ^ 24) (2 ^ 74) (2 ^ 96) (2 ^ 96) 0 (record {
        scale = z.sum;
        entry = rows_within c0 c1 c2 small i j;
        products = λ k e. own_products c0 c1 c2 own i k a e;
        squares = own_squares_within c0 c1 c2 own i j a b;
        rest = rw (no_entry i j) (omega arith);
        left = omega arith;
        first = omega arith;
        right = omega arith;
      }) (omega arith);
      same = own_same c0 c1 c2;
      rest = zero_rest 2 (c0 +ℤ c2) (pos 2 ∷ g ∷ []) ((((c0 +ℤ c2) *ℤ c0) ∷ (c1 *ℤ c2) ∷ []) ∷ (pos 0 ∷ pos 1 ∷ []) ∷ []);
      small = omega arith;
    })
    (unit_squares w (fall_entry 2 c P) (fall_numbers 2 c P) l.first l.upper l.lower l.last more z.loss
    (λ i j a b. fall_numbers_narrow (2 ^ 23) (2 ^ 74) 2 c P i j (coefficient_within c0 c1 c2 small) (rows_within c0 c1 c2 small) (omega arith) (omega arith)))
