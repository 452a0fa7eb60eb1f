-- The closed forms of order 1 are accepted by their checks.
use Rattle.std.proofs.Common.{◌≡◌, ℕ, zero, suc, ◌-◌, ◌*◌, ◌^◌, ◌<◌, ◌≤◌, false, not, ◌==◌, int_lt, List, [], ◌∷◌, length, get_or, None, refl, ◌∙◌, arith}
use Rattle.std.proofs.Math.IntN.{ℤ, pos, negsuc, neg_ℤ, ◌+ℤ◌, ◌-ℤ◌, ◌*ℤ◌}
use Rattle.std.specs.Int.RustNames.{unsigned_abs}
use Rattle.std.proofs.lemmas.Int.{ints}
use Rattle.std.proofs.lemmas.Nat.{mul-le, mul-lt}
use lib.Signed.{◌<ℤ◌, ◌≤ℤ◌}
use Rattle.dsv_algebra.specs.Vectors.{Matrix, vector_of, matrix_of}
use Rattle.dsv_algebra.specs.Companion.{fall_entry}
use Rattle.dsv_algebra.proofs.Normaliser.{ring, env, var, num, plus, times, minus}
use Rattle.dsv_forms.specs.Refusals.{rest_of, weights_of, rows_of, right_side, side_numbers, bad_weight, bad_row, fall_numbers, falls_refusal, kept_away_refusal}
use Rattle.dsv_forms.proofs.Passing.{Within, Narrow, within_times, within_plus, within_neg, fall_numbers_narrow, side_numbers_narrow, bare_numbers_narrow}
use Rattle.dsv_forms.proofs.PassingOffers.{IsDefinitePart, same_test, falls_accepted, value_numbers_narrow, kept_away_accepted}
use Rattle.dsv_forms.specs.Padded.{row_of, matrix_with, squares_with}
use Rattle.dsv_closed_forms.specs.ClosedForm.{form_that_falls, form_that_never_rises}
use Rattle.dsv_forms.proofs.Padded.{row_entry, matrix_entry}

square_of : (c : ℤ) → c *ℤ c ≡ pos (unsigned_abs c * unsigned_abs c)
square_of (pos n) = refl
square_of (negsuc n) = refl

difference : (a b : ℕ) → b ≤ a → pos a -ℤ pos b ≡ pos (a - b)
difference a b h = omega (arith, ints)

-- what holds at the one place holds at each
at_one : (Q : ℕ → ℕ → Type 0) → Q 0 0 → (i j : ℕ) → i < 1 → j < 1 → Q i j
at_one Q h zero zero a b = h
at_one Q h zero (suc j) a b = absurd (omega arith)
at_one Q h (suc i) j a b = absurd (omega arith)

short_row : (x : ℤ) (k : ℕ) → length (get_or ((x ∷ []) ∷ []) k []) ≤ 8
short_row x zero = omega arith
short_row x (suc k) = omega arith

one_entry : (x : ℤ) (i j : ℕ) → matrix_of (matrix_with ((x ∷ []) ∷ [])) i j ≡ vector_of (get_or ((x ∷ []) ∷ []) i []) j
one_entry x i j = matrix_entry ((x ∷ []) ∷ []) i j (omega arith) (short_row x)

alone_within : (n : ℕ) (x : ℤ) (i j : ℕ) → Within n x → Within n (vector_of (get_or ((x ∷ []) ∷ []) i []) j)
alone_within n x zero zero h = h
alone_within n x zero (suc j) h = omega arith
alone_within n x (suc i) j h = omega arith

pub one_within : (n : ℕ) (x : ℤ) (i j : ℕ) → Within n x → Within n (matrix_of (matrix_with ((x ∷ []) ∷ [])) i j)
one_within n x i j h = rw (one_entry x i j) (alone_within n x i j h)

alone_off : (x : ℤ) (i j : ℕ) → (i == j) ≡ false → vector_of (get_or ((x ∷ []) ∷ []) i []) j ≡ pos 0
alone_off x zero zero e = absurd (cc)
alone_off x zero (suc j) e = refl
alone_off x (suc i) j e = refl

pub no_entry : (i j : ℕ) → matrix_of (matrix_with []) i j ≡ pos 0
no_entry i j = matrix_entry [] i j (omega arith) (λ k. omega arith)

pub positive_test : (w : ℤ) → pos 0 <ℤ w → not (int_lt (pos 0) w) ≡ false
positive_test w h = grind (arith, ints)

unit_square : (w : ℤ) → w *ℤ pos 1 *ℤ pos 1 ≡ w
unit_square w = ring (env (w ∷ [])) (times (times (var 0) (num (pos 1))) (num (pos 1))) (var 0) refl

both_same : (w : ℤ) → pos 1 *ℤ w ≡ pos 0 +ℤ w *ℤ pos 1 *ℤ pos 1 +ℤ pos 0
both_same w = ring (env (w ∷ [])) (times (num (pos 1)) (var 0)) (plus (plus (num (pos 0)) (times (times (var 0) (num (pos 1))) (num (pos 1)))) (num (pos 0))) refl

times_unit : (w : ℤ) → w *ℤ pos 1 ≡ w
times_unit w = ring (env (w ∷ [])) (times (var 0) (num (pos 1))) (var 0) refl

-- the square of the one place itself, with the weight w, shows the form w
one_square : (w : ℤ) (T : Matrix) (numbers : ℕ → ℕ → List ℤ) → T 0 0 ≡ w → pos 0 <ℤ w → Within (2 ^ 89) w → ((i j : ℕ) → i < 1 → j < 1 → Narrow (numbers i j))
    → IsDefinitePart 1 0 (squares_with (pos 1) (w ∷ []) ((pos 1 ∷ []) ∷ []) []) T numbers
one_square w T numbers e positive small way = record {
  shape = refl;
  weights = λ k l. at_one (λ k j. bad_weight (squares_with (pos 1) (w ∷ []) ((pos 1 ∷ []) ∷ []) []) k ≡ false) (positive_test w positive) k 0 l (omega arith);
  rows = λ k l. at_one (λ k j. bad_row (squares_with (pos 1) (w ∷ []) ((pos 1 ∷ []) ∷ []) []) k ≡ false) refl k 0 l (omega arith);
  way = way;
  sides = at_one (λ i j. Narrow (side_numbers 1 (squares_with (pos 1) (w ∷ []) ((pos 1 ∷ []) ∷ []) []) (T i j) i j))
      (side_numbers_narrow 1 (squares_with (pos 1) (w ∷ []) ((pos 1 ∷ []) ∷ []) []) (T 0 0) 0 0 1 (2 ^ 89) (2 ^ 89) (2 ^ 89) 0 (record {
        scale = omega arith;
        entry = rw e small;
        products = λ k l. at_one (λ k j. Within (2 ^ 89) (weights_of (squares_with (pos 1) (w ∷ []) ((pos 1 ∷ []) ∷ []) []) k *ℤ rows_of (squares_with (pos 1) (w ∷ []) ((pos 1 ∷ []) ∷ []) []) k 0)) (rw (times_unit w) small) k 0 l (omega arith);
        squares = λ k l. at_one (λ k j. Within (2 ^ 89) (weights_of (squares_with (pos 1) (w ∷ []) ((pos 1 ∷ []) ∷ []) []) k *ℤ rows_of (squares_with (pos 1) (w ∷ []) ((pos 1 ∷ []) ∷ []) []) k 0 *ℤ rows_of (squares_with (pos 1) (w ∷ []) ((pos 1 ∷ []) ∷ []) []) k 0)) (rw (unit_square w) small) k 0 l (omega arith);
        rest = omega arith;
        left = omega arith;
        first = omega arith;
        right = omega arith;
      }) (omega arith));
  same = at_one (λ i j. pos 1 *ℤ T i j ≡ right_side 1 (squares_with (pos 1) (w ∷ []) ((pos 1 ∷ []) ∷ []) []) i j) (rw e (both_same w));
  rest = record { off = λ i j h. no_entry i j; sign = λ i l. rw (no_entry i i) (omega (arith, ints)); small = λ i l. rw (no_entry i i) (omega arith) };
  small = omega arith;
}

two_within : (n : ℕ) (c0 c1 : ℤ) → Within n c0 → Within n c1 → (k : ℕ) → Within n (vector_of (c0 ∷ c1 ∷ []) k)
two_within n c0 c1 a b zero = a
two_within n c0 c1 a b (suc zero) = b
two_within n c0 c1 a b (suc (suc k)) = omega arith

fall_is : (a b : ℤ) → pos 0 +ℤ a *ℤ a *ℤ pos 1 +ℤ neg_ℤ (b *ℤ b) *ℤ pos 1 ≡ a *ℤ a -ℤ b *ℤ b
fall_is a b = ring (env (a ∷ b ∷ [])) (plus (plus (num (pos 0)) (times (times (var 0) (var 0)) (num (pos 1)))) (times (minus (times (var 1) (var 1))) (num (pos 1)))) (plus (times (var 0) (var 0)) (minus (times (var 1) (var 1)))) refl

rise_is : (a b : ℤ) → pos 0 +ℤ a *ℤ a *ℤ negsuc 0 +ℤ neg_ℤ (b *ℤ b) *ℤ negsuc 0 ≡ b *ℤ b -ℤ a *ℤ a
rise_is a b = ring (env (a ∷ b ∷ [])) (plus (plus (num (pos 0)) (times (times (var 0) (var 0)) (num (negsuc 0)))) (times (minus (times (var 1) (var 1))) (num (negsuc 0)))) (plus (times (var 1) (var 1)) (minus (times (var 0) (var 0)))) refl

loss_within : (a b : ℤ) → Within (2 ^ 44) a → Within (2 ^ 44) b → Within (2 ^ 89) (a *ℤ a -ℤ b *ℤ b)
loss_within a b h k =
    let x : Within (2 ^ 88) (a *ℤ a) = within_times (2 ^ 44) (2 ^ 44) a a h h in
    let y : Within (2 ^ 88) (neg_ℤ (b *ℤ b)) = within_neg (2 ^ 88) (b *ℤ b) (within_times (2 ^ 44) (2 ^ 44) b b k k) in
    within_plus (2 ^ 88) (2 ^ 88) (a *ℤ a) (neg_ℤ (b *ℤ b)) x y

pub first_falls : (c0 c1 : ℤ) → unsigned_abs c1 < unsigned_abs c0 → Within (2 ^ 44) c0 → falls_refusal (c0 ∷ c1 ∷ []) (form_that_falls (c0 *ℤ c0 -ℤ c1 *ℤ c1)) ≡ None
first_falls c0 c1 apart small =
    let w = c0 *ℤ c0 -ℤ c1 *ℤ c1 in
    let offer = form_that_falls w in
    let c = vector_of (c0 ∷ c1 ∷ []) in
    let P = matrix_of offer.form.rows in
    let less : Within (2 ^ 44) c1 = omega (arith, apart, small) in
    let a = unsigned_abs c0 in
    let b = unsigned_abs c1 in
    let below : b * b < a * a = mul-lt b b a a apart apart in
    let same : w ≡ pos (a * a - b * b) = rw (square_of c0, square_of c1) (difference (a * a) (b * b) (omega arith)) in
    let more : pos 0 <ℤ w = rw same (omega (arith, ints)) in
    falls_accepted (c0 ∷ c1 ∷ []) offer 1 0 0 refl refl
    (one_square (pos 1) P (λ i j. []) refl (omega (arith, ints)) (omega arith) (λ i j a b. tt))
    (one_square w (fall_entry 1 c P) (fall_numbers 1 c P) (fall_is c0 c1) more (loss_within c0 c1 small less)
    (λ i j a b. fall_numbers_narrow (2 ^ 44) 1 1 c P i j (two_within (2 ^ 44) c0 c1 small less) (λ i j. one_within 1 (pos 1) i j (omega arith)) (omega arith) (omega arith)))

pub plain : (w : ℤ) → pos 1 *ℤ w ≡ pos 0 +ℤ w
plain w = ring (env (w ∷ [])) (times (num (pos 1)) (var 0)) (plus (num (pos 0)) (var 0)) refl

unit_within : (i : ℕ) → Within 1 (vector_of (row_of (pos 1 ∷ [])) i)
unit_within zero = omega arith
unit_within (suc i) = rw (row_entry (pos 1 ∷ []) (suc i) (omega arith)) (omega arith)

pub first_kept_away : (c0 c1 : ℤ) → unsigned_abs c0 ≤ unsigned_abs c1 → Within (2 ^ 44) c1 → kept_away_refusal (c0 ∷ c1 ∷ []) (form_that_never_rises (c1 *ℤ c1 -ℤ c0 *ℤ c0)) ≡ None
first_kept_away c0 c1 apart small =
    let w = c1 *ℤ c1 -ℤ c0 *ℤ c0 in
    let offer = form_that_never_rises w in
    let c = vector_of (c0 ∷ c1 ∷ []) in
    let P = matrix_of offer.form.rows in
    let less : Within (2 ^ 44) c0 = omega (arith, apart, small) in
    let a = unsigned_abs c0 in
    let b = unsigned_abs c1 in
    let below : a * a ≤ b * b = mul-le a a b b apart apart in
    let same : w ≡ pos (b * b - a * a) = rw (square_of c0, square_of c1) (difference (b * b) (a * a) below) in
    let more : pos 0 ≤ℤ w = rw same (omega (arith, ints)) in
    let big : Within (2 ^ 89) w = loss_within c1 c0 small less in
    kept_away_accepted (c0 ∷ c1 ∷ []) offer 1 (2 ^ 89) refl refl
    (record {
      shape = rw (same_test w w refl) refl;
      none = refl;
      way = λ i j a b. fall_numbers_narrow (2 ^ 44) 1 1 c P i j (two_within (2 ^ 44) c0 c1 less small) (λ i j. one_within 1 (negsuc 0) i j (omega arith)) (omega arith) (omega arith);
      sides = at_one (λ i j. Narrow (side_numbers 0 offer.fall (fall_entry 1 c P i j) i j)) (bare_numbers_narrow offer.fall (fall_entry 1 c P 0 0) 0 0 (2 ^ 89) (2 ^ 89) (rw (rise_is c0 c1) big) refl big (omega arith) (omega arith));
      same = at_one (λ i j. pos 1 *ℤ fall_entry 1 c P i j ≡ right_side 0 offer.fall i j) (rw (rise_is c0 c1) (plain w));
      rest = record { off = λ i j h. one_entry w i j ∙ alone_off w i j h; sign = λ i l. at_one (λ i j. pos 0 ≤ℤ rest_of offer.fall i i) more i 0 l (omega arith); small = λ i l. one_within (2 ^ 89) w i i big };
      small = omega arith;
    })
    (value_numbers_narrow 1 1 1 P (vector_of offer.start) (λ i j. one_within 1 (negsuc 0) i j (omega arith)) unit_within (omega arith) (omega arith) (omega arith))
    (omega (arith, ints))
