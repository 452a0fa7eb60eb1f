-- Offers that pass all tests of their check: the facts that are enough, for every number of places.
use Rattle.std.proofs.Common.{◌≡◌, ℕ, zero, suc, ◌-◌, ◌*◌, ◌^◌, ◌<◌, ◌≤◌, Bool, true, false, not, ◌==◌, int_lt, if◌then◌else◌, List, [], ◌∷◌, ◌++◌, length, map, length-append, None, refl, ap, ◌∙◌, sym, subst, arith}
use Rattle.std.proofs.Math.IntN.{ℤ, pos, ◌*ℤ◌}
use Rattle.std.specs.Int.RustNames.{unsigned_abs}
use Rattle.std.specs.List.{flat_map}
use Rattle.std.specs.Ordering.{int_eq}
use Rattle.std.proofs.lemmas.Int.{ints}
use Rattle.std.proofs.lemmas.Nat.{mul-le}
use Rattle.std.proofs.lemmas.Bool.Decides.{nat_tests, Decides-int_eq}
use lib.Signed.{◌≤ℤ◌, ◌<ℤ◌}
use Rattle.dsv_algebra.specs.Vectors.{Vector, Matrix, sum_to, form_at, vector_of, matrix_of}
use Rattle.dsv_algebra.specs.Squares.{beside}
use Rattle.dsv_algebra.specs.Companion.{fall_entry}
use Rattle.dsv_forms.specs.declared.offers.Squares.{Squares}
use Rattle.dsv_forms.specs.declared.offers.Falls.{Falls}
use Rattle.dsv_forms.specs.declared.offers.KeptAway.{KeptAway}
use Rattle.dsv_forms.specs.declared.refusal.OfferPart.{OfferPart}
use Rattle.dsv_forms.specs.declared.refusal.OfferPart.TheVariants as part
use Rattle.dsv_forms.specs.declared.refusal.FormRefusal.TheVariants as refusal
use Rattle.dsv_forms.specs.Refusals.{places, places_from, rest_of, right_side, side_numbers, side_tests, sizes_beside, not_dominant, dominance_tests, bad_shape, bad_weight, bad_row, too_many_rows, negative_weight, definite_tests, semidefinite_tests, bad_form, fall_numbers, falls_refusal, value_terms, value_numbers, kept_away_refusal, partial_sums, any_wide, start_tests}
use Rattle.dsv_forms.proofs.Passing.{Passed, none_refuses, passed_both, places_below, places_from_below, passed_map, passed_flat, Within, within_times, Narrow, none_wide, narrow_both, AllWithin, all_narrow, within_map, sums_narrow, places_many, map_many}

pub same_test : (a b : ℤ) → a ≡ b → int_eq a b ≡ true
same_test a b e = (Decides-int_eq a b).1 e

-- ---- both sides

pub sides_pass : (p : OfferPart) (d n : ℕ) (s : Squares) (T : Matrix) (numbers : ℕ → ℕ → List ℤ)
    → ((i j : ℕ) → i < d → j < d → Narrow (numbers i j)) → ((i j : ℕ) → i < d → j < d → Narrow (side_numbers n s (T i j) i j))
    → ((i j : ℕ) → i < d → j < d → s.m *ℤ T i j ≡ right_side n s i j) → Passed (side_tests p d n s T numbers)
sides_pass p d n s T numbers h k same =
    passed_flat d (λ i. flat_map (λ j. (any_wide (numbers i j ++ side_numbers n s (T i j) i j), refusal.Wide p i j) ∷ (not (int_eq (s.m *ℤ T i j) (right_side n s i j)), refusal.Identity p i j) ∷ []) (places_from i d)) (places d) (places_below d) (λ i a.
    passed_flat d (λ j. (any_wide (numbers i j ++ side_numbers n s (T i j) i j), refusal.Wide p i j) ∷ (not (int_eq (s.m *ℤ T i j) (right_side n s i j)), refusal.Identity p i j) ∷ []) (places_from i d) (places_from_below i d) (λ j b. (
      none_wide (numbers i j ++ side_numbers n s (T i j) i j) (narrow_both (numbers i j) (side_numbers n s (T i j) i j) (h i j a b) (k i j a b)),
      (rw (same_test (s.m *ℤ T i j) (right_side n s i j) (same i j a b)) refl, tt),
    )))

-- ---- a rest that has entries on the diagonal alone, none of them negative

pub record IsDiagonal (d e : ℕ) (s : Squares) : Type 0 where
  pub off : (i j : ℕ) → (i == j) ≡ false → rest_of s i j ≡ pos 0
  pub sign : (i : ℕ) → i < d → pos 0 ≤ℤ rest_of s i i
  pub small : (i : ℕ) → i < d → Within e (rest_of s i i)

beside_by : (x : ℤ) (b : Bool) → (b ≡ false → x ≡ pos 0) → (if b then pos 0 else pos (unsigned_abs x)) ≡ pos 0
beside_by x true h = refl
beside_by x false h = rw (h refl) refl

beside_none : (d e : ℕ) (s : Squares) → IsDiagonal d e s → (i j : ℕ) → beside (rest_of s) i j ≡ pos 0
beside_none d e s h i j = beside_by (rest_of s i j) (i == j) (h.off i j)

sum_none : (d : ℕ) (f : ℕ → ℤ) → ((j : ℕ) → f j ≡ pos 0) → sum_to d f ≡ pos 0
sum_none zero f h = refl
sum_none (suc d) f h = rw (sum_none d f h, h d) refl

entry_within : (d e : ℕ) (s : Squares) → IsDiagonal d e s → (i j : ℕ) → i < d → (b : Bool) → (i == j) ≡ b → Within e (rest_of s i j)
entry_within d e s h i j l true k = let same : i ≡ j = grind (k, nat_tests, arith) in subst (λ n. Within e (rest_of s i n)) same (h.small i l)
entry_within d e s h i j l false k = rw (h.off i j k) (omega arith)

zeros_within : (d : ℕ) (f : ℕ → ℤ) (is : List ℕ) → ((j : ℕ) → f j ≡ pos 0) → AllWithin 0 (map f is)
zeros_within d f [] h = tt
zeros_within d f (i ∷ is) h = (rw (h i) (omega arith), zeros_within d f is h)

not_below : (z : ℤ) → pos 0 ≤ℤ z → int_lt z (pos 0) ≡ false
not_below z h = grind (arith, ints)

pub dominance_passes : (p : OfferPart) (d e : ℕ) (s : Squares) → IsDiagonal d e s → e < 2 ^ 126 → Passed (dominance_tests p d s)
dominance_passes p d e s h small = passed_map d (λ i. (not_dominant d s i, refusal.Dominance p i)) (places d) (places_below d) (λ i a.
    let entries = map (λ j. rest_of s i j) (places d) in
    let own : Narrow entries = all_narrow e entries (within_map d e (λ j. rest_of s i j) (places d) (places_below d) (λ j b. entry_within d e s h i j a (i == j) refl)) small in
    let sums : Narrow (partial_sums (pos 0) (sizes_beside d s i)) = sums_narrow 0 0 (pos 0) (sizes_beside d s i) (omega arith) (zeros_within d (λ j. beside (rest_of s) i j) (places d) (beside_none d e s h i)) (omega arith) in
    rw (none_wide (entries ++ partial_sums (pos 0) (sizes_beside d s i)) (narrow_both entries (partial_sums (pos 0) (sizes_beside d s i)) own sums), sum_none d (λ j. beside (rest_of s) i j) (beside_none d e s h i), not_below (rest_of s i i) (h.sign i a)) refl)

-- ---- parts

pub record IsDefinitePart (d e : ℕ) (s : Squares) (T : Matrix) (numbers : ℕ → ℕ → List ℤ) : Type 0 where
  pub shape : bad_shape d s ≡ false
  pub weights : (k : ℕ) → k < d → bad_weight s k ≡ false
  pub rows : (k : ℕ) → k < d → bad_row s k ≡ false
  pub way : (i j : ℕ) → i < d → j < d → Narrow (numbers i j)
  pub sides : (i j : ℕ) → i < d → j < d → Narrow (side_numbers d s (T i j) i j)
  pub same : (i j : ℕ) → i < d → j < d → s.m *ℤ T i j ≡ right_side d s i j
  pub rest : IsDiagonal d e s
  pub small : e < 2 ^ 126

pub definite_passes : (p : OfferPart) (d e : ℕ) (s : Squares) (T : Matrix) (numbers : ℕ → ℕ → List ℤ) → IsDefinitePart d e s T numbers → Passed (definite_tests p d s T numbers)
definite_passes p d e s T numbers h =
    let weights = map (λ k. (bad_weight s k, refusal.Weight p k)) (places d) in
    let rows = map (λ k. (bad_row s k, refusal.Triangle p k)) (places d) in
    let a : Passed (weights ++ rows) = passed_both weights rows (passed_map d (λ k. (bad_weight s k, refusal.Weight p k)) (places d) (places_below d) h.weights) (passed_map d (λ k. (bad_row s k, refusal.Triangle p k)) (places d) (places_below d) h.rows) in
    let b : Passed (weights ++ rows ++ side_tests p d d s T numbers) = passed_both (weights ++ rows) (side_tests p d d s T numbers) a (sides_pass p d d s T numbers h.way h.sides h.same) in
    (h.shape, passed_both (weights ++ rows ++ side_tests p d d s T numbers) (dominance_tests p d s) b (dominance_passes p d e s h.rest h.small))

-- a part that needs no square: the rest alone is the form
pub record IsBarePart (d e : ℕ) (s : Squares) (T : Matrix) (numbers : ℕ → ℕ → List ℤ) : Type 0 where
  pub shape : too_many_rows d s ≡ false
  pub none : s.count ≡ 0
  pub way : (i j : ℕ) → i < d → j < d → Narrow (numbers i j)
  pub sides : (i j : ℕ) → i < d → j < d → Narrow (side_numbers 0 s (T i j) i j)
  pub same : (i j : ℕ) → i < d → j < d → s.m *ℤ T i j ≡ right_side 0 s i j
  pub rest : IsDiagonal d e s
  pub small : e < 2 ^ 126

pub bare_passes : (p : OfferPart) (d e : ℕ) (s : Squares) (T : Matrix) (numbers : ℕ → ℕ → List ℤ) → IsBarePart d e s T numbers → Passed (semidefinite_tests p d s T numbers)
bare_passes p d e s T numbers h =
    let rest : Passed (side_tests p d 0 s T numbers ++ dominance_tests p d s) = passed_both (side_tests p d 0 s T numbers) (dominance_tests p d s) (sides_pass p d 0 s T numbers h.way h.sides h.same) (dominance_passes p d e s h.rest h.small) in
    (h.shape, subst (λ n. Passed (map (λ k. (negative_weight s k, refusal.Weight p k)) (places n) ++ side_tests p d n s T numbers ++ dominance_tests p d s)) (sym h.none) rest)

-- ---- offers

pub falls_accepted : (c : List ℤ) (offer : Falls) (d e f : ℕ) → length c - 1 ≡ d → bad_form d offer.form ≡ false
    → IsDefinitePart d e offer.positive (matrix_of offer.form.rows) (λ i j. [])
    → IsDefinitePart d f offer.fall (fall_entry d (vector_of c) (matrix_of offer.form.rows)) (fall_numbers d (vector_of c) (matrix_of offer.form.rows))
    → falls_refusal c offer ≡ None
falls_accepted c offer d e f order form positive fall =
    let P = matrix_of offer.form.rows in
    let k = vector_of c in
    let a = definite_passes part.Positive d e offer.positive P (λ i j. []) positive in
    let b = definite_passes part.Fall d f offer.fall (fall_entry d k P) (fall_numbers d k P) fall in
    rw order (none_refuses ((bad_form d offer.form, refusal.Shape part.Form) ∷ definite_tests part.Positive d offer.positive P (λ i j. []) ++ definite_tests part.Fall d offer.fall (fall_entry d k P) (fall_numbers d k P))
    (form, passed_both (definite_tests part.Positive d offer.positive P (λ i j. [])) (definite_tests part.Fall d offer.fall (fall_entry d k P) (fall_numbers d k P)) a b))

-- the numbers on the way to a form's value
within_both : (n : ℕ) (xs ys : List ℤ) → AllWithin n xs → AllWithin n ys → AllWithin n (xs ++ ys)
within_both n [] ys h k = k
within_both n (x ∷ xs) ys h k = (h.0, within_both n xs ys h.1 k)

rows_within : (d n : ℕ) (f : ℕ → ℕ → ℤ) (is : List ℕ) → ((i j : ℕ) → Within n (f i j)) → AllWithin n (flat_map (λ i. map (λ j. f i j) (places d)) is)
rows_within d n f [] g = tt
rows_within d n f (i ∷ is) g = within_both n (map (λ j. f i j) (places d)) (flat_map (λ i. map (λ j. f i j) (places d)) is) (within_map d n (λ j. f i j) (places d) (places_below d) (λ j b. g i j)) (rows_within d n f is g)

many_within : (d : ℕ) (f : ℕ → ℕ → ℤ) (is : List ℕ) → length (flat_map (λ i. map (λ j. f i j) (places d)) is) ≡ length is * d
many_within d f [] = omega arith
many_within d f (i ∷ is) =
    let e : length (map (λ j. f i j) (places d)) ≡ d = map_many (λ j. f i j) (places d) ∙ places_many d in
    length-append (map (λ j. f i j) (places d)) (flat_map (λ i. map (λ j. f i j) (places d)) is) ∙ omega (arith, e, many_within d f is)

pub value_numbers_narrow : (d p v : ℕ) (P : Matrix) (x : Vector) → ((i j : ℕ) → Within p (P i j)) → ((i : ℕ) → Within v (x i)) → p * v < 2 ^ 126 → p * v * v * (d * d) < 2 ^ 126 → 1 ≤ d → Narrow (value_numbers d P x)
value_numbers_narrow d p v P x h k a b some =
    let products = flat_map (λ i. map (λ j. P i j *ℤ x i) (places d)) (places d) in
    let terms = value_terms d P x in
    let all : AllWithin (p * v * v) terms = rows_within d (p * v * v) (λ i j. P i j *ℤ x i *ℤ x j) (places d) (λ i j. within_times (p * v) v (P i j *ℤ x i) (x j) (within_times p v (P i j) (x i) (h i j) (k i)) (k j)) in
    let first : AllWithin (p * v) products = rows_within d (p * v) (λ i j. P i j *ℤ x i) (places d) (λ i j. within_times p v (P i j) (x i) (h i j) (k i)) in
    let count : length terms ≡ d * d = many_within d (λ i j. P i j *ℤ x i *ℤ x j) (places d) ∙ ap (λ n. n * d) (places_many d) in
    let q : 1 ≤ d * d = mul-le 1 1 d d some some in
    let one : p * v * v * 1 ≤ p * v * v * (d * d) = mul-le (p * v * v) 1 (p * v * v) (d * d) (omega arith) q in
    narrow_both (products ++ terms) (partial_sums (pos 0) terms)
    (narrow_both products terms (all_narrow (p * v) products first a) (all_narrow (p * v * v) terms all (omega (arith, one, b))))
    (sums_narrow (p * v * v) 0 (pos 0) terms (omega arith) all (rw count (omega (arith, b))))

pub below_zero : (z : ℤ) → z <ℤ pos 0 → int_lt z (pos 0) ≡ true
below_zero z h = grind (arith, ints)

pub kept_away_accepted : (c : List ℤ) (offer : KeptAway) (d f : ℕ) → length c - 1 ≡ d → bad_form d offer.form ≡ false
    → IsBarePart d f offer.fall (fall_entry d (vector_of c) (matrix_of offer.form.rows)) (fall_numbers d (vector_of c) (matrix_of offer.form.rows))
    → Narrow (value_numbers d (matrix_of offer.form.rows) (vector_of offer.start)) → form_at d (matrix_of offer.form.rows) (vector_of offer.start) <ℤ pos 0
    → kept_away_refusal c offer ≡ None
kept_away_accepted c offer d f order form fall numbers negative =
    let P = matrix_of offer.form.rows in
    let k = vector_of c in
    let v = vector_of offer.start in
    let b = bare_passes part.Fall d f offer.fall (fall_entry d k P) (fall_numbers d k P) fall in
    let less : int_lt (form_at d P v) (pos 0) ≡ true = below_zero (form_at d P v) negative in
    let start : Passed (start_tests d P v) = (none_wide (value_numbers d P v) numbers, (rw less refl, tt)) in
    rw order (none_refuses ((bad_form d offer.form, refusal.Shape part.Form) ∷ semidefinite_tests part.Fall d offer.fall (fall_entry d k P) (fall_numbers d k P) ++ start_tests d P v)
    (form, passed_both (semidefinite_tests part.Fall d offer.fall (fall_entry d k P) (fall_numbers d k P)) (start_tests d P v) b start))
