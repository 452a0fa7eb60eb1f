-- The fall form with wide entries in place of those that can't be had.
use Rattle.std.proofs.Common.{◌≡◌, ◌⊎◌, ℕ, suc, ◌+◌, ◌<◌, ◌≤◌, Bool, true, false, not, ◌&&◌, ◌||◌, nat_lt, int_lt, if◌then◌else◌, List, [], ◌∷◌, ◌++◌, map, drop, min, max, Option, Some, None, refl, sym, ap, ◌∙◌, arith, add-one, append_assoc, inl, inr}
use Rattle.std.proofs.Math.IntN.{ℤ, pos, negsuc, ◌+ℤ◌, ◌*ℤ◌, neg_ℤ}
use Rattle.std.proofs.lemmas.Bool.{cases_lt}
use Rattle.std.proofs.lemmas.Bool.Decides.{nat_tests}
use Rattle.std.specs.List.{flat_map}
use Rattle.std.specs.Option.{option_and_then}
use Rattle.std.specs.Ordering.{int_eq}
use Rattle.dsv_algebra.specs.Narrow.{is_narrow, narrow_limit}
use Rattle.dsv_algebra.specs.Vectors.{Vector, Matrix, matrix_of}
use Rattle.dsv_algebra.specs.Companion.{only, total_from, fall_terms, fall_entry}
use Rattle.dsv_algebra.proofs.Normaliser.{ring, env, var, times, minus}
use Rattle.dsv_forms.specs.declared.offers.Form.{Form}
use Rattle.dsv_forms.specs.declared.offers.Squares.{Squares}
use Rattle.dsv_forms.specs.declared.refusal.OfferPart.{OfferPart}
use Rattle.dsv_forms.specs.declared.refusal.FormRefusal.{FormRefusal}
use Rattle.dsv_forms.specs.declared.refusal.FormRefusal.TheVariants as refusal
use Rattle.dsv_forms.specs.Refusals.{Test, first_of, places, is_symmetric, any_wide, partial_sums, weights_of, rows_of, square_terms, fall_numbers, right_side, side_numbers, place_tests, row_tests, side_tests}
use Rattle.dsv_forms.specs.Sums.{Summand, sum_from, sum_with, product, summand_where, image_sum, fall_sum, or_too_wide, IsFallOrWide}
use Rattle.dsv_forms.proofs.Places.{first_same, from_same}
use Rattle.dsv_forms.proofs.Shown.{symmetric_is}
use Rattle.dsv_forms.proofs.SumLemmas.{unless, any_wide-append, sum_from-is, numbers, values, total, term, numbers-terms, values-single}

-- ---- an entry
neg-times : (x y : ℤ) → neg_ℤ x *ℤ y ≡ neg_ℤ (x *ℤ y)
neg-times x y = ring (env (x ∷ y ∷ [])) (times (minus (var 0)) (var 1)) (minus (times (var 0) (var 1))) refl

abbrev pub as_summand : ℤ × ℤ → Summand
as_summand t = term t.0 t.1

abbrev pub summands : List (ℤ × ℤ) → List Summand
summands ts = flat_map (λ t. as_summand t ∷ []) ts

where_summands : (below after : Bool) (p q r t u : ℤ × ℤ)
    → as_summand p ∷ as_summand q ∷ summand_where after (as_summand r) ++ summand_where below (as_summand t) ++ summand_where (below && after) (as_summand u)
    ≡ summands (p ∷ q ∷ only after r ++ only below t ++ only (below && after) u)
where_summands true true p q r t u = refl
where_summands true false p q r t u = refl
where_summands false true p q r t u = refl
where_summands false false p q r t u = refl

-- the summands, with successors for sums with 1
abbrev summands_at : ℕ → Vector → Matrix → ℕ → ℕ → ℕ → ℕ → List Summand
summands_at d c P i j k l =
    let below = nat_lt k d in
    let after = nat_lt l d in
    product (c 0) (c 0) (P i j)
    ∷ product (neg_ℤ (c k)) (c l) (P 0 0)
    ∷ summand_where after (product (c k) (c 0) (P 0 l))
    ++ summand_where below (product (c 0) (c l) (P k 0))
    ++ summand_where (below && after) (product (neg_ℤ (c 0)) (c 0) (P k l))

abbrev fall_summands : ℕ → Vector → Matrix → ℕ → ℕ → List Summand
fall_summands d c P i j = summands_at d c P i j (i + 1) (j + 1)

fall_summands-are : (d : ℕ) (c : Vector) (P : Matrix) (i j : ℕ) → fall_summands d c P i j ≡ summands (fall_terms d c P i j)
fall_summands-are d c P i j =
    let below = nat_lt (suc i) d in
    let after = nat_lt (suc j) d in
    let first : List Summand → List Summand = λ ts. product (c 0) (c 0) (P i j) ∷ ts in
    let rest = summand_where after (product (c (suc i)) (c 0) (P 0 (suc j))) ++ summand_where below (product (c 0) (c (suc j)) (P (suc i) 0)) in
    ap (λ k. summands_at d c P i j k (j + 1)) (add-one i)
    ∙ ap (summands_at d c P i j (suc i)) (add-one j)
    ∙ ap (λ f. product (c 0) (c 0) (P i j) ∷ term f (P 0 0) ∷ rest ++ summand_where (below && after) (product (neg_ℤ (c 0)) (c 0) (P (suc i) (suc j)))) (neg-times (c (suc i)) (c (suc j)))
    ∙ ap (λ f. product (c 0) (c 0) (P i j) ∷ term (neg_ℤ (c (suc i) *ℤ c (suc j))) (P 0 0) ∷ rest ++ summand_where (below && after) (term f (P (suc i) (suc j)))) (neg-times (c 0) (c 0))
    ∙ where_summands below after (c 0 *ℤ c 0, P i j) (neg_ℤ (c (suc i) *ℤ c (suc j)), P 0 0) (c (suc i) *ℤ c 0, P 0 (suc j)) (c 0 *ℤ c (suc j), P (suc i) 0) (neg_ℤ (c 0 *ℤ c 0), P (suc i) (suc j))

pub total-terms : (s : ℤ) (ts : List (ℤ × ℤ)) → total s (map (λ t. t.0 *ℤ t.1) ts) ≡ total_from s ts
total-terms s [] = refl
total-terms s (t ∷ ts) = total-terms (s +ℤ t.0 *ℤ t.1) ts

numbers_of_terms : (ts : List (ℤ × ℤ)) → any_wide (map (λ t. t.0) ts ++ map (λ t. t.0 *ℤ t.1) ts ++ partial_sums (pos 0) (map (λ t. t.0 *ℤ t.1) ts))
    ≡ ((any_wide (map (λ t. t.0) ts) || any_wide (map (λ t. t.0 *ℤ t.1) ts)) || any_wide (partial_sums (pos 0) (map (λ t. t.0 *ℤ t.1) ts)))
numbers_of_terms ts =
    let a = map (λ (t : ℤ × ℤ). t.0) ts in
    let b = map (λ (t : ℤ × ℤ). t.0 *ℤ t.1) ts in
    let p = partial_sums (pos 0) b in
    any_wide-append (a ++ b) p ∙ ap (λ w. w || any_wide p) (any_wide-append a b)

pub terms_sum : (ts : List (ℤ × ℤ)) → sum_from (pos 0) (summands ts)
    ≡ unless (any_wide (map (λ t. t.0) ts ++ map (λ t. t.0 *ℤ t.1) ts ++ partial_sums (pos 0) (map (λ t. t.0 *ℤ t.1) ts))) (total_from (pos 0) ts)
terms_sum ts =
    let f : ℤ × ℤ → ℤ = λ t. t.0 in
    let x : ℤ × ℤ → ℤ = λ t. t.1 in
    let vs : values (summands ts) ≡ map (λ t. t.0 *ℤ t.1) ts = values-single as_summand ts in
    sum_from-is (pos 0) (summands ts)
    ∙ rw (numbers-terms f x ts, vs, total-terms (pos 0) ts, numbers_of_terms ts) refl

-- a sum in stages
with_then : (o : Option ℤ) (t : Summand) (ts : List Summand) (k : ℤ → Option ℤ) → ((s : ℤ) → k s ≡ sum_from s ts)
    → option_and_then k o ≡ option_and_then (λ s. sum_from s ts) o
with_then None t ts k h = refl
with_then (Some s) t ts k h = h s

where_then : (b : Bool) (s : ℤ) (t : Summand) (ts : List Summand) (k : ℤ → Option ℤ) → ((s : ℤ) → k s ≡ sum_from s ts)
    → option_and_then k (sum_from s (summand_where b t)) ≡ sum_from s (summand_where b t ++ ts)
where_then true s t ts k h = once (sum_with s t) ts k h
  where
    once : (o : Option ℤ) (ts : List Summand) (k : ℤ → Option ℤ) → ((s : ℤ) → k s ≡ sum_from s ts)
        → option_and_then k (option_and_then (λ s. sum_from s []) o) ≡ option_and_then (λ s. sum_from s ts) o
    once None ts k h = refl
    once (Some s) ts k h = h s
where_then false s t ts k h = h s

last_where : (below after : Bool) (s : ℤ) (t : Summand) → (if below then sum_from s (summand_where after t) else Some s) ≡ sum_from s (summand_where (below && after) t)
last_where true after s t = refl
last_where false after s t = refl

image_sum-staged : (d : ℕ) (c : Vector) (P : Matrix) (i j : ℕ) (sum : ℤ) → image_sum d c P i j sum ≡ sum_from sum (drop 1 (fall_summands d c P i j))
image_sum-staged d c P i j sum =
    let below = nat_lt (i + 1) d in
    let after = nat_lt (j + 1) d in
    let q = product (neg_ℤ (c (i + 1))) (c (j + 1)) (P 0 0) in
    let r = product (c (i + 1)) (c 0) (P 0 (j + 1)) in
    let t = product (c 0) (c (j + 1)) (P (i + 1) 0) in
    let u = product (neg_ℤ (c 0)) (c 0) (P (i + 1) (j + 1)) in
    let e : ℤ → Option ℤ = λ s. if below then sum_from s (summand_where after u) else Some s in
    let f : ℤ → Option ℤ = λ s. option_and_then e (sum_from s (summand_where below t)) in
    let g : ℤ → Option ℤ = λ s. option_and_then f (sum_from s (summand_where after r)) in
    let us = summand_where (below && after) u in
    let ts = summand_where below t ++ us in
    let rs = summand_where after r ++ ts in
    let h : (s : ℤ) → g s ≡ sum_from s rs =
    λ s. where_then after s r ts f (λ s. where_then below s t us e (λ s. last_where below after s u)) in
    with_then (sum_with sum q) q rs g h
    ∙ ap (λ ts. sum_from sum (q ∷ ts)) (sym (append_assoc (summand_where after r) (summand_where below t) us))

-- the sum less an entry of C^T P C
pub image_sum-terms : (d : ℕ) (c : Vector) (P : Matrix) (i j : ℕ) (sum : ℤ) → image_sum d c P i j sum ≡ sum_from sum (summands (drop 1 (fall_terms d c P i j)))
image_sum-terms d c P i j sum = image_sum-staged d c P i j sum ∙ ap (λ ts. sum_from sum (drop 1 ts)) (fall_summands-are d c P i j)

-- an entry of C^T P C with the other sign
pub image_sum-is : (d : ℕ) (c : Vector) (P : Matrix) (i j : ℕ) → (let ts = drop 1 (fall_terms d c P i j) in image_sum d c P i j (pos 0)
    ≡ unless (any_wide (map (λ t. t.0) ts ++ map (λ t. t.0 *ℤ t.1) ts ++ partial_sums (pos 0) (map (λ t. t.0 *ℤ t.1) ts))) (total_from (pos 0) ts))
image_sum-is d c P i j = image_sum-terms d c P i j (pos 0) ∙ terms_sum (drop 1 (fall_terms d c P i j))

fall_sum-staged : (d : ℕ) (c : Vector) (P : Matrix) (i j : ℕ) → fall_sum d c P i j ≡ sum_from (pos 0) (fall_summands d c P i j)
fall_sum-staged d c P i j =
    let p = product (c 0) (c 0) (P i j) in
    with_then (sum_with (pos 0) p) p (drop 1 (fall_summands d c P i j)) (image_sum d c P i j) (image_sum-staged d c P i j)

pub fall_sum-is : (d : ℕ) (c : Vector) (P : Matrix) (i j : ℕ) → fall_sum d c P i j ≡ unless (any_wide (fall_numbers d c P i j)) (fall_entry d c P i j)
fall_sum-is d c P i j = fall_sum-staged d c P i j ∙ ap (sum_from (pos 0)) (fall_summands-are d c P i j) ∙ terms_sum (fall_terms d c P i j)

-- ---- the tests with it
pub wide_left : (m : ℤ) → int_lt m (pos 1) ≡ false → is_narrow (m *ℤ pos narrow_limit) ≡ false
wide_left (pos m) h = grind (arith, nat_tests)
wide_left (negsuc m) h = cc

first_wide : (z : ℤ) (r : FormRefusal) (others : Bool) (tests : List Test) → is_narrow z ≡ false → first_of ((not (is_narrow z) || others, r) ∷ tests) ≡ Some r
first_wide z r others tests e = rw e refl

wide_first : (w others : Bool) (r : FormRefusal) (tests : List Test) → w ≡ true → first_of ((w || others, r) ∷ tests) ≡ Some r
wide_first w others r tests e = rw e refl

pub place_same : (w : Bool) (p : OfferPart) (n : ℕ) (s : Squares) (x : ℤ) (numbers : List ℤ) (i j : ℕ) → int_lt s.m (pos 1) ≡ false → any_wide numbers ≡ w
    → first_of (place_tests p n s (or_too_wide (unless w x)) [] i j) ≡ first_of (place_tests p n s x numbers i j)
place_same true p n s x numbers i j m e =
    let z = s.m *ℤ pos narrow_limit in
    first_wide z (refusal.Wide p i j) (any_wide (map (λ k. weights_of s k *ℤ rows_of s k i) (places n) ++ square_terms n s i j ++ partial_sums (pos 0) (square_terms n s i j) ++ right_side n s i j ∷ [])) ((not (int_eq z (right_side n s i j)), refusal.Identity p i j) ∷ []) (wide_left s.m m)
    ∙ sym (ap (λ b. first_of ((b, refusal.Wide p i j) ∷ (not (int_eq (s.m *ℤ x) (right_side n s i j)), refusal.Identity p i j) ∷ [])) (any_wide-append numbers (side_numbers n s x i j))
    ∙ wide_first (any_wide numbers) (any_wide (side_numbers n s x i j)) (refusal.Wide p i j) ((not (int_eq (s.m *ℤ x) (right_side n s i j)), refusal.Identity p i j) ∷ []) e)
place_same false p n s x numbers i j m e =
    sym (ap (λ b. first_of ((b, refusal.Wide p i j) ∷ (not (int_eq (s.m *ℤ x) (right_side n s i j)), refusal.Identity p i j) ∷ []))
    (any_wide-append numbers (side_numbers n s x i j) ∙ ap (λ w. w || any_wide (side_numbers n s x i j)) e))

-- ---- the whole form
smaller : (i j : ℕ) → i ≤ j → min i j ≡ i
smaller i j h = omega arith

greater : (i j : ℕ) → i ≤ j → max i j ≡ j
greater i j h = omega arith

min-turned : (i j : ℕ) → min i j ≡ min j i
min-turned i j = omega arith

max-turned : (i j : ℕ) → max i j ≡ max j i
max-turned i j = omega arith

-- F has the entries of T in the first d places, the upper half mirrored, each with a number in its place that is too wide where one on its own way is; elsewhere it is 0
pub record AreEntriesOrWide (d : ℕ) (T : Matrix) (ways : ℕ → ℕ → List ℤ) (F : Form) : Type 0 where
  pub entries : (i j : ℕ) → i < d → j < d → matrix_of F.rows i j ≡ or_too_wide (unless (any_wide (ways (min i j) (max i j))) (T (min i j) (max i j)))
  pub elsewhere : (i j : ℕ) → (d ≤ i) ⊎ (d ≤ j) → matrix_of F.rows i j ≡ pos 0

in_order : (T : Matrix) (d i j : ℕ) → ((i j : ℕ) → i < d → j < d → T i j ≡ T j i) → i < d → j < d → T i j ≡ T (min i j) (max i j)
in_order T d i j turned a b = elim (cases_lt j i) [
  | inl below ↦ turned i j a b ∙ sym (ap (λ k. T k (max i j)) (min-turned i j ∙ smaller j i (omega arith)) ∙ ap (T j) (max-turned i j ∙ greater j i (omega arith)))
  | inr from ↦ sym (ap (λ k. T k (max i j)) (smaller i j from) ∙ ap (T i) (greater i j from))
]

-- the entries of a symmetric form, none of which is given up
pub entries_of : (d : ℕ) (T : Matrix) (F : Form) → ((i j : ℕ) → i < d → j < d → T i j ≡ T j i) → ((i j : ℕ) → i < d → j < d → matrix_of F.rows i j ≡ T i j)
    → ((i j : ℕ) → (d ≤ i) ⊎ (d ≤ j) → matrix_of F.rows i j ≡ pos 0) → AreEntriesOrWide d T (λ i j. []) F
entries_of d T F turned same elsewhere = record { entries = λ i j a b. same i j a b ∙ in_order T d i j turned a b; elsewhere = elsewhere }

-- the fall form of a polynomial
pub fall_entries : (d : ℕ) (c : Vector) (P F : Form) → IsFallOrWide d c P F → AreEntriesOrWide d (fall_entry d c (matrix_of P.rows)) (fall_numbers d c (matrix_of P.rows)) F
fall_entries d c P F w = record {
  entries = λ i j a b. w.entries i j a b ∙ ap or_too_wide (fall_sum-is d c (matrix_of P.rows) (min i j) (max i j));
  elsewhere = w.elsewhere;
}

-- an entry of the upper half
pub entries_upper : (d : ℕ) (T : Matrix) (ways : ℕ → ℕ → List ℤ) (F : Form) → AreEntriesOrWide d T ways F → (i j : ℕ) → i ≤ j → j < d → matrix_of F.rows i j ≡ or_too_wide (unless (any_wide (ways i j)) (T i j))
entries_upper d T ways F w i j h b =
    w.entries i j (omega arith) b
    ∙ ap (λ k. or_too_wide (unless (any_wide (ways k (max i j))) (T k (max i j)))) (smaller i j h)
    ∙ ap (λ k. or_too_wide (unless (any_wide (ways i k)) (T i k))) (greater i j h)

pub entries_turned : (d : ℕ) (T : Matrix) (ways : ℕ → ℕ → List ℤ) (F : Form) → AreEntriesOrWide d T ways F → (i j : ℕ) → i < d → j < d → matrix_of F.rows i j ≡ matrix_of F.rows j i
entries_turned d T ways F w i j a b =
    w.entries i j a b
    ∙ ap (λ k. or_too_wide (unless (any_wide (ways k (max i j))) (T k (max i j)))) (min-turned i j)
    ∙ ap (λ k. or_too_wide (unless (any_wide (ways (min j i) k)) (T (min j i) k))) (max-turned i j)
    ∙ sym (w.entries j i b a)

pub entries_symmetric : (d : ℕ) (T : Matrix) (ways : ℕ → ℕ → List ℤ) (F : Form) → AreEntriesOrWide d T ways F → is_symmetric d (matrix_of F.rows) ≡ true
entries_symmetric d T ways F w = symmetric_is d (matrix_of F.rows) (entries_turned d T ways F w)

-- the same of the fall form
abbrev fall_at : ℕ → Vector → Form → Matrix
fall_at d c P = fall_entry d c (matrix_of P.rows)

abbrev ways_at : ℕ → Vector → Form → ℕ → ℕ → List ℤ
ways_at d c P = fall_numbers d c (matrix_of P.rows)

pub upper : (d : ℕ) (c : Vector) (P F : Form) → IsFallOrWide d c P F → (i j : ℕ) → i ≤ j → j < d
    → matrix_of F.rows i j ≡ or_too_wide (unless (any_wide (fall_numbers d c (matrix_of P.rows) i j)) (fall_entry d c (matrix_of P.rows) i j))
upper d c P F w = entries_upper d (fall_at d c P) (ways_at d c P) F (fall_entries d c P F w)

pub turned : (d : ℕ) (c : Vector) (P F : Form) → IsFallOrWide d c P F → (i j : ℕ) → i < d → j < d → matrix_of F.rows i j ≡ matrix_of F.rows j i
turned d c P F w = entries_turned d (fall_at d c P) (ways_at d c P) F (fall_entries d c P F w)

pub fall_symmetric : (d : ℕ) (c : Vector) (P F : Form) → IsFallOrWide d c P F → is_symmetric d (matrix_of F.rows) ≡ true
fall_symmetric d c P F w = entries_symmetric d (fall_at d c P) (ways_at d c P) F (fall_entries d c P F w)

-- the tests of both sides with the wide entries are those with the entries and the numbers on their way
pub entries_side : (p : OfferPart) (d n : ℕ) (s : Squares) (T : Matrix) (ways : ℕ → ℕ → List ℤ) (F : Form) → AreEntriesOrWide d T ways F → int_lt s.m (pos 1) ≡ false
    → first_of (side_tests p d n s (matrix_of F.rows) (λ i j. [])) ≡ first_of (side_tests p d n s T ways)
entries_side p d n s T ways F w m =
    let R = matrix_of F.rows in
    first_same (row_tests p d n s R (λ i j. [])) (row_tests p d n s T ways) d
    (λ i a. from_same (λ j. place_tests p n s (R i j) [] i j) (λ j. place_tests p n s (T i j) (ways i j) i j) i d
    (λ j q b. ap (λ x. first_of (place_tests p n s x [] i j)) (entries_upper d T ways F w i j q b)
    ∙ place_same (any_wide (ways i j)) p n s (T i j) (ways i j) i j m refl))
