-- How great the numbers of the offer of a Schur-Cohn form are.
use Rattle.std.proofs.Common.{◌≡◌, ℕ, zero, suc, ◌-◌, ◌*◌, ◌^◌, ◌<◌, ◌≤◌, List, ◌++◌, length, inl, inr, refl, arith}
use Rattle.std.proofs.Math.IntN.{ℤ, pos, neg_ℤ, ◌-ℤ◌, ◌*ℤ◌}
use Rattle.std.proofs.lemmas.Bool.{cases_lt}
use Rattle.std.proofs.lemmas.Nat.{mul-le}
use Rattle.dsv_algebra.specs.Vectors.{Vector, vector_of, matrix_of}
use Rattle.dsv_algebra.specs.Companion.{fall_entry}
use Rattle.dsv_forms.specs.Padded.{matrix_with}
use Rattle.dsv_forms.specs.Poly.{greatest_order}
use Rattle.dsv_forms.specs.Refusals.{weights_of, rows_of as rows_in, side_numbers, fall_numbers, value_numbers}
use Rattle.dsv_forms.proofs.Passing.{Within, within_times, within_plus, within_neg, Narrow, none_wide, narrow_both, fall_numbers_narrow, side_numbers_narrow}
use Rattle.dsv_forms.proofs.PassingOffers.{value_numbers_narrow}
use Rattle.dsv_sums.specs.Elimination.{rows_of}
use Rattle.dsv_table.specs.SchurCohn.{difference, schur_cohn, lost_row}
use Rattle.dsv_schur_cohn.specs.Offer.{schur_cohn_form, negative_offer, SmallAreNarrow}
use Rattle.dsv_schur_cohn.proofs.Accepted.{filled_fall}
use Rattle.dsv_schur_cohn.proofs.Entries.{entry_inside, entry_below, entry_beside, one_row, no_rest}

-- the difference of two products of numbers within m
products_within : (m : ℕ) (a b u v : ℤ) → Within m a → Within m b → Within m u → Within m v → Within (2 * (m * m)) (a *ℤ b -ℤ u *ℤ v)
products_within m a b u v h k l n =
    let first = within_times m m a b h k in
    let second = within_neg (m * m) (u *ℤ v) (within_times m m u v l n) in
    let both = within_plus (m * m) (m * m) (a *ℤ b) (neg_ℤ (u *ℤ v)) first second in
    omega (arith, both)

pub difference_within : (m d : ℕ) (c : Vector) (i j : ℕ) → ((k : ℕ) → Within m (c k)) → Within (2 * (m * m)) (difference d c i j)
difference_within m d c i j h = products_within m (c i) (c j) (c (d - i)) (c (d - j)) (h i) (h j) (h (d - i)) (h (d - j))

pub lost_within : (m d : ℕ) (c : Vector) (j : ℕ) → ((k : ℕ) → Within m (c k)) → Within (2 * (m * m)) (lost_row d c j)
lost_within m d c j h = products_within m (c d) (c (suc j)) (c 0) (c (d - suc j)) (h d) (h (suc j)) (h 0) (h (d - suc j))

pub form_within : (m d : ℕ) (c : Vector) (i j : ℕ) → ((k : ℕ) → Within m (c k)) → Within (2 * (m * m) * suc i) (schur_cohn d c i j)
form_within m d c zero j h = let e = difference_within m d c zero j h in omega (arith, e)
form_within m d c (suc i) zero h = let e = difference_within m d c (suc i) zero h in omega (arith, e)
form_within m d c (suc i) (suc j) h =
    let e = within_plus (2 * (m * m) * suc i) (2 * (m * m)) (schur_cohn d c i j) (difference d c (suc i) (suc j)) (form_within m d c i j h) (difference_within m d c (suc i) (suc j) h) in
    omega (arith, e)

-- an entry of the filled matrix
pub filled_within : (m d : ℕ) (c : Vector) (i j : ℕ) → d ≤ greatest_order → ((k : ℕ) → Within m (c k)) → Within (16 * (m * m)) (matrix_of (matrix_with (rows_of d (schur_cohn d c))) i j)
filled_within m d c i j few h =
    let H = schur_cohn d c in
    elim (cases_lt i d) [
      | inr g ↦ rw (entry_below d H i j few g) (omega arith)
      | inl l ↦ elim (cases_lt j d) [
        | inr g ↦ rw (entry_beside d H i j few l g) (omega arith)
        | inl b ↦ (let e = form_within m d c i j h in
            let most : 2 * (m * m) * suc i ≤ 2 * (m * m) * 8 = mul-le (2 * (m * m)) (suc i) (2 * (m * m)) 8 (omega arith) (omega arith) in
            rw (entry_inside d H i j few l b) (omega (arith, e, most)))
      ]
    ]

-- ---- the numbers of the check

record AreFew (m w d : ℕ) : Type 0 where
  squares : m * m ≤ 2 ^ 58
  fourth : m * m * (m * m) ≤ 2 ^ 116
  first : 16 * (m * m) * w < 2 ^ 126
  whole : 16 * (m * m) * w * w * (d * d) < 2 ^ 126

few_of : (m w d : ℕ) → d ≤ greatest_order → m ≤ 2 ^ 29 → m * w < 2 ^ 58 → AreFew m w d
few_of m w d few h k =
    let a : m * m ≤ 2 ^ 29 * 2 ^ 29 = mul-le m m (2 ^ 29) (2 ^ 29) h h in
    let b : m * m * (m * m) ≤ 2 ^ 58 * 2 ^ 58 = mul-le (m * m) (m * m) (2 ^ 58) (2 ^ 58) (omega (arith, a)) (omega (arith, a)) in
    let q : m * w ≤ 2 ^ 58 - 1 = omega (arith, k) in
    let e : m * (m * w) ≤ 2 ^ 29 * (2 ^ 58 - 1) = mul-le m (m * w) (2 ^ 29) (2 ^ 58 - 1) h q in
    let f : m * w * (m * w) ≤ (2 ^ 58 - 1) * (2 ^ 58 - 1) = mul-le (m * w) (m * w) (2 ^ 58 - 1) (2 ^ 58 - 1) q q in
    let o : d * d ≤ 8 * 8 = mul-le d d 8 8 few few in
    let p : m * w * (m * w) * (d * d) ≤ (2 ^ 58 - 1) * (2 ^ 58 - 1) * (8 * 8) = mul-le (m * w * (m * w)) (d * d) ((2 ^ 58 - 1) * (2 ^ 58 - 1)) (8 * 8) f o in
    let x : 16 * (m * m) * w ≡ 16 * (m * (m * w)) = omega arith in
    let y : 16 * (m * m) * w * w * (d * d) ≡ 16 * (m * w * (m * w) * (d * d)) = omega arith in
    record { squares = omega (arith, a); fourth = omega (arith, b); first = omega (arith, e, x); whole = omega (arith, p, y) }

sides_narrow : (m w d : ℕ) (cs start : List ℤ) (i j : ℕ) → length cs - 1 ≡ d → d ≤ greatest_order → AreFew m w d → ((k : ℕ) → Within m (vector_of cs k)) → i < d → j < d
    → Narrow (side_numbers 1 (negative_offer cs start).fall (fall_entry d (vector_of cs) (matrix_of (matrix_with (rows_of d (schur_cohn d (vector_of cs))))) i j) i j)
sides_narrow m w d cs start i j order few sizes h a b =
    let c = vector_of cs in
    let s = (negative_offer cs start).fall in
    let r = 2 * (m * m) in
    let g = lost_row d c in
    let x = fall_entry d c (matrix_of (matrix_with (rows_of d (schur_cohn d c)))) i j in
    let row : (n : ℕ) → n < d → rows_in s 0 n ≡ g n = λ n l. rw order (one_row d g n few l) in
    let entry : Within (r * r) x = rw (filled_fall d c i j few a b) (within_times r r (g i) (g j) (lost_within m d c i h) (lost_within m d c j h)) in
    let product : Within (1 * r) (weights_of s 0 *ℤ rows_in s 0 i) = rw (row i a) (within_times 1 r (pos 1) (g i) (omega arith) (lost_within m d c i h)) in
    let square : Within (1 * r * r) (weights_of s 0 *ℤ rows_in s 0 i *ℤ rows_in s 0 j) =
    rw (row i a, row j b) (within_times (1 * r) r (pos 1 *ℤ g i) (g j) (within_times 1 r (pos 1) (g i) (omega arith) (lost_within m d c i h)) (lost_within m d c j h)) in
    let fourth = sizes.fourth in
    let squares = sizes.squares in
    let e : r * r ≡ 4 * (m * m * (m * m)) = omega arith in
    side_numbers_narrow 1 s x i j 1 (r * r) (1 * r) (1 * r * r) 0
    (record {
      scale = omega arith;
      entry = entry;
      products = λ k l. at_zero (λ k. Within (1 * r) (weights_of s k *ℤ rows_in s k i)) product k l;
      squares = λ k l. at_zero (λ k. Within (1 * r * r) (weights_of s k *ℤ rows_in s k i *ℤ rows_in s k j)) square k l;
      rest = rw (no_rest i j) (omega arith);
      left = omega (arith, e, fourth);
      first = omega (arith, squares);
      right = omega (arith, e, fourth);
    })
    (omega arith)
  where
    at_zero : (Q : ℕ → Type 0) → Q 0 → (k : ℕ) → k < 1 → Q k
    at_zero Q q zero l = q
    at_zero Q q (suc k) l = absurd (omega arith)

pub small_narrow : SmallAreNarrow
small_narrow m w cs start some few small start_small limit both =
    let d = length cs - 1 in
    let c = vector_of cs in
    let P = matrix_of (schur_cohn_form cs).rows in
    let order : d ≤ greatest_order = omega arith in
    let sizes = few_of m w d order limit both in
    let squares = sizes.squares in
    let fourth = sizes.fourth in
    let e : m * m * (16 * (m * m)) ≡ 16 * (m * m * (m * m)) = omega arith in
    let within : (i j : ℕ) → Within (16 * (m * m)) (P i j) = λ i j. filled_within m d c i j order small in
    record {
      sides = λ i j l b.
          let falls : Narrow (fall_numbers d c P i j) = fall_numbers_narrow m (16 * (m * m)) d c P i j small within (omega (arith, squares)) (omega (arith, e, fourth)) in
          let sides = sides_narrow m w d cs start i j refl order sizes small (omega arith) b in
          none_wide (fall_numbers d c P i j ++ side_numbers 1 (negative_offer cs start).fall (fall_entry d c P i j) i j)
          (narrow_both (fall_numbers d c P i j) (side_numbers 1 (negative_offer cs start).fall (fall_entry d c P i j) i j) falls sides);
      value = none_wide (value_numbers d P (vector_of start)) (value_numbers_narrow d (16 * (m * m)) w P (vector_of start) within start_small sizes.first sizes.whole (omega arith));
    }
