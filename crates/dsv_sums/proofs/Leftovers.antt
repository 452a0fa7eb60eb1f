-- What elimination leaves after its first places, as the code has it.
use Rattle.std.proofs.Common.{◌≡◌, ℕ, zero, suc, ◌+◌, ◌<◌, ◌≤◌, min, max, Bool, true, false, ◌==◌, nat_lt, int_lt, if◌then◌else◌, List, [], ◌∷◌, ◌++◌, length, map, get_or, set, Option, Some, None, inl, inr, refl, sym, ap, ◌∙◌, arith, add-one}
use Rattle.std.proofs.Math.IntN.{ℤ, pos, ◌+ℤ◌, ◌-ℤ◌, ◌*ℤ◌, *ℤ_comm}
use Rattle.std.proofs.Math.ListN.{get_or-append}
use Rattle.std.proofs.Math.Seq.{get_or-append_seam}
use Rattle.std.specs.List.{flat_map}
use Rattle.std.specs.Option.{option_and_then, option_map, MatchOption}
use Rattle.std.proofs.lemmas.Bool.{cases_lt}
use Rattle.std.proofs.lemmas.Bool.Decides.{nat_tests}
use Rattle.std.proofs.lemmas.Int.{ints}
use Rattle.std.proofs.lemmas.List.{get_or_past, map-append, append-nil}
use Rattle.std.proofs.lemmas.List.Concat.{flat_map-append}
use Rattle.dsv_algebra.specs.Narrow.{is_narrow, narrow_of}
use Rattle.dsv_algebra.specs.Squares.{square, squares}
use Rattle.dsv_algebra.specs.Vectors.{Vector, Matrix, vector_of, matrix_of}
use Rattle.dsv_algebra.proofs.Normaliser.{ring, env, var, plus, minus, times}
use Rattle.dsv_algebra.proofs.Sums.{sum_same}
use Rattle.dsv_forms.specs.declared.offers.Squares.{Squares}
use Rattle.dsv_forms.specs.declared.refusal.OfferPart.{OfferPart}
use Rattle.dsv_forms.specs.Padded.{row_of}
use Rattle.dsv_forms.specs.Poly.{greatest_order}
use Rattle.dsv_forms.specs.Refusals.{places, first_of, any_wide, weights_of, rows_of as rows_in, place_tests, row_tests, definite_tests, is_symmetric}
use Rattle.dsv_forms.specs.Sums.{Summand, product, sum_with, sum_from, square_summands, sides_of, sides_refusal}
use Rattle.dsv_forms.proofs.Dominance.{unless_some}
use Rattle.dsv_forms.proofs.Padded.{row_entry, matrix_entry}
use Rattle.dsv_forms.proofs.Places.{none_each, from_each, all_true, all_false}
use Rattle.dsv_forms.proofs.Shown.{definite_passes, symmetric_at}
use Rattle.dsv_forms.proofs.Sides.{place_tests-is, sum_of_squares-is}
use Rattle.dsv_forms.proofs.SumLemmas.{sum_stops, sum_from-append}
use Rattle.dsv_sums.specs.Elimination.{multiple, row_scale, greater_of, greatest_diagonal, margin, row_at, left_after, weight, row, has_squares, entries_of, squares_of, elimination}
use Rattle.dsv_sums.specs.Partial.{first_squares, AreRefused}
use Rattle.dsv_sums.proofs.Filled.{many, row_next, matrix_next}

-- ---- the entries of lists over places
pub get_map : {A : Type 0} (f : ℕ → A) (d k : ℕ) (z : A) → k < d → get_or (map f (places d)) k z ≡ f k
get_map f zero k z h = absurd (omega arith)
get_map f (suc d) k z h = elim (cases_lt k d) [
  | inl l ↦ ap (λ xs. get_or xs k z) (map-append f (places d) (d ∷ []))
      ∙ (let e = many f d in get_or-append (map f (places d)) (f d ∷ []) z k (omega (arith, e, l)))
      ∙ get_map f d k z l
  | inr g ↦ (let same : k ≡ d = omega arith in
      ap (λ xs. get_or xs k z) (map-append f (places d) (d ∷ []))
      ∙ ap (λ n. get_or (map f (places d) ++ f d ∷ []) n z) (same ∙ sym (many f d))
      ∙ get_or-append_seam (map f (places d)) (f d) [] z
      ∙ ap f (sym same))
]

weights_first : (d : ℕ) (T : Matrix) (k l : ℕ) → k ≤ greatest_order → l < k → weights_of (first_squares d T k) l ≡ weight (margin d T) T l
weights_first d T k l few h =
    let w : Vector = weight (margin d T) T in
    let e = many w k in
    row_entry (entries_of k w) l (omega (arith, e, few)) ∙ get_map w k l (pos 0) h

short_rows : (d : ℕ) (R : Matrix) (k n : ℕ) → d ≤ greatest_order → length (get_or (map (λ i. entries_of d (R i)) (places k)) n []) ≤ greatest_order
short_rows d R k n few = elim (cases_lt n k) [
  | inl l ↦ rw (get_map (λ i. entries_of d (R i)) k n [] l, many (R n) d) few
  | inr g ↦ (let e = many (λ i. entries_of d (R i)) k in
      rw (get_or_past (map (λ i. entries_of d (R i)) (places k)) n [] (omega (arith, e, g))) (omega arith))
]

rows_first : (d : ℕ) (T : Matrix) (k l j : ℕ) → d ≤ greatest_order → k ≤ d → l < k → j < d → rows_in (first_squares d T k) l j ≡ row (margin d T) T l j
rows_first d T k l j few h a b =
    let R : Matrix = row (margin d T) T in
    let rows = map (λ i. entries_of d (R i)) (places k) in
    let e = many (λ i. entries_of d (R i)) k in
    matrix_entry rows l j (omega (arith, e, few, h)) (λ n. short_rows d R k n few)
    ∙ ap (λ r. vector_of r j) (get_map (λ i. entries_of d (R i)) k l [] a)
    ∙ get_map (R l) d j (pos 0) b

-- ---- what is left is the multiple of the form without the squares
less_nothing : (x : ℤ) → x ≡ x -ℤ pos 0
less_nothing x = omega (arith, ints)

less_both : (a s q : ℤ) → (a -ℤ s) -ℤ q ≡ a -ℤ (s +ℤ q)
less_both a s q = omega (arith, ints)

left_is : (g : ℤ) (T : Matrix) (k i j : ℕ) → left_after g T k i j ≡ multiple *ℤ T i j -ℤ squares k (weight g T) (row g T) i j
left_is g T zero i j = less_nothing (multiple *ℤ T i j)
left_is g T (suc k) i j =
    let q = weight g T k *ℤ row g T k i *ℤ row g T k j in
    ap (λ u. u -ℤ q) (left_is g T k i j) ∙ less_both (multiple *ℤ T i j) (squares k (weight g T) (row g T) i j) q

-- ---- sums of squares
same_flat : (f g : ℕ → List Summand) (n : ℕ) → ((k : ℕ) → k < n → f k ≡ g k) → flat_map f (places n) ≡ flat_map g (places n)
same_flat f g zero h = refl
same_flat f g (suc n) h =
    flat_map-append f (places n) (n ∷ [])
    ∙ rw (same_flat f g n (λ k l. h k (omega arith)), h n (omega arith)) refl
    ∙ sym (flat_map-append g (places n) (n ∷ []))

-- the square at place l
abbrev own_square : ℤ → Matrix → ℕ → ℕ → ℕ → Summand
own_square g T i j l = product (weight g T l) (row g T l i) (row g T l j)

abbrev own_squares : ℤ → Matrix → ℕ → ℕ → ℕ → List Summand
own_squares g T n i j = flat_map (λ l. own_square g T i j l ∷ []) (places n)

first_summands : (d : ℕ) (T : Matrix) (k n i j : ℕ) → d ≤ greatest_order → k ≤ d → n ≤ k → i < d → j < d → square_summands n (first_squares d T k) i j ≡ own_squares (margin d T) T n i j
first_summands d T k n i j few h m a b =
    let s = first_squares d T k in
    same_flat (λ l. product (weights_of s l) (rows_in s l i) (rows_in s l j) ∷ []) (λ l. own_square (margin d T) T i j l ∷ []) n
    (λ l q. rw (weights_first d T k l (omega arith) (omega arith), rows_first d T k l i few h (omega arith) a, rows_first d T k l j few h (omega arith) b) refl)

-- a sum that is given up stays so
prefix_stops : (g : ℕ → List Summand) (s : ℤ) (k n : ℕ) → k ≤ n → sum_from s (flat_map g (places k)) ≡ None → sum_from s (flat_map g (places n)) ≡ None
prefix_stops g s k zero q h = let e : zero ≡ k = omega arith in ap (λ m. sum_from s (flat_map g (places m))) e ∙ h
prefix_stops g s k (suc n) q h = elim (cases_lt n k) [
  | inl l ↦ (let e : suc n ≡ k = omega arith in ap (λ m. sum_from s (flat_map g (places m))) e ∙ h)
  | inr m ↦ ap (sum_from s) (flat_map-append g (places n) (n ∷ []) ∙ ap (λ ys. flat_map g (places n) ++ ys) (append-nil (g n)))
      ∙ sum_from-append s (flat_map g (places n)) (g n)
      ∙ rw (prefix_stops g s k n m h) refl
]

-- one square with a number on its way that is too wide is enough
by_case : (g : ℕ → Summand) (s : ℤ) (k n : ℕ) (o : Option ℤ) → k < n → ((x : ℤ) → sum_with x (g k) ≡ None) → sum_from s (flat_map (λ l. g l ∷ []) (places k)) ≡ o
    → sum_from s (flat_map (λ l. g l ∷ []) (places n)) ≡ None
by_case g s k n None q h e = prefix_stops (λ l. g l ∷ []) s k n (omega arith) e
by_case g s k n (Some x) q h e = sum_stops (λ l. g l ∷ []) s k n x q e (sym (ap (option_and_then (λ t. sum_from t [])) (h x)))

wide_stops : (g : ℕ → Summand) (s : ℤ) (k n : ℕ) → k < n → any_wide (g k).0 ≡ true → sum_from s (flat_map (λ l. g l ∷ []) (places n)) ≡ None
wide_stops g s k n q h = by_case g s k n (sum_from s (flat_map (λ l. g l ∷ []) (places k))) q (λ x. rw h refl) refl

step_narrow : (a n : Bool) (z v : ℤ) (k : ℤ → Option ℤ) → is_narrow z ≡ n → (is_narrow z ≡ true → Some v ≡ k z → is_narrow v ≡ true)
    → Some v ≡ option_and_then k (if a then None else (if n then Some z else None)) → is_narrow v ≡ true
step_narrow true n z v k e f h = cc
step_narrow false true z v k e f h = f e h
step_narrow false false z v k e f h = cc

pub sum_narrow : (s v : ℤ) (ts : List Summand) → is_narrow s ≡ true → Some v ≡ sum_from s ts → is_narrow v ≡ true
sum_narrow s v [] n h = let e : v ≡ s = cc in ap is_narrow e ∙ n
sum_narrow s v (t ∷ ts) n h = step_narrow (any_wide t.0) (is_narrow (s +ℤ t.1)) (s +ℤ t.1) v (λ u. sum_from u ts) refl (λ m k. sum_narrow (s +ℤ t.1) v ts m k) h

-- ---- refusals
no_sides : (p : OfferPart) (i j : ℕ) (o : Option (ℤ × ℤ)) → o ≡ None → sides_refusal p i j o ≡ None → ⊥
no_sides p i j (Some x) e h = cc
no_sides p i j None e h = cc

-- where both sides at a place have a number on the way that is too wide
sides_refused : (d : ℕ) (T : Matrix) (i j : ℕ) → i ≤ j → j < d → sides_of d (squares_of d T) (T i j) i j ≡ None
    → (p : OfferPart) → first_of (definite_tests p d (squares_of d T) T (λ i j. [])) ≡ None → ⊥
sides_refused d T i j q b h p k =
    let s = squares_of d T in
    let o = definite_passes p d s T (λ i j. []) k in
    let row : first_of (row_tests p d d s T (λ i j. []) i) ≡ None = none_each (row_tests p d d s T (λ i j. [])) d o.sides i (omega arith) in
    let place : first_of (place_tests p d s (T i j) [] i j) ≡ None = from_each (λ j. place_tests p d s (T i j) [] i j) i d row j q b in
    no_sides p i j (sides_of d s (T i j) i j) h (sym (place_tests-is p d s (T i j) i j) ∙ place)

given : (b : Bool) (s t : Squares) → (if b then Some s else None) ≡ Some t → s ≡ t
given true s t h = cc
given false s t h = cc

pub sides_lost : (d : ℕ) (T : Matrix) (i j : ℕ) → i ≤ j → j < d → sides_of d (squares_of d T) (T i j) i j ≡ None → AreRefused d T
sides_lost d T i j q b h s p e k =
    sides_refused d T i j q b h p
    (ap (λ s. first_of (definite_tests p d s T (λ i j. []))) (given (has_squares d T) (squares_of d T) s e) ∙ k)

not_given : (b : Bool) (s t : Squares) → b ≡ false → (if b then Some s else None) ≡ Some t → ⊥
not_given true s t e h = cc
not_given false s t e h = cc

pub weight_lost : (d : ℕ) (T : Matrix) (k : ℕ) → k < d → int_lt (pos 0) (weight (margin d T) T k) ≡ false → AreRefused d T
weight_lost d T k q h s p e f =
    not_given (has_squares d T) (squares_of d T) s (all_false (λ k. int_lt (pos 0) (weight (margin d T) T k)) d k q h) e

no_whole : (o : Option ℤ) (f : ℤ → Option (ℤ × ℤ)) → None ≡ o → option_and_then f o ≡ None
no_whole (Some x) f e = cc
no_whole None f e = refl

pub whole_lost : (d : ℕ) (T : Matrix) (i j : ℕ) → i ≤ j → j < d → None ≡ narrow_of (multiple *ℤ T i j) → AreRefused d T
whole_lost d T i j q b h =
    sides_lost d T i j q b (no_whole (narrow_of (multiple *ℤ T i j)) (λ left. option_and_then (λ sum. option_map (λ right. (left, right)) (narrow_of (sum +ℤ matrix_of (squares_of d T).rest i j))) (sum_from (pos 0) (square_summands d (squares_of d T) i j))) h)

no_sum : (o p : Option ℤ) (f : ℤ → ℤ → Option (ℤ × ℤ)) → p ≡ None → option_and_then (λ left. option_and_then (λ sum. f left sum) p) o ≡ None
no_sum None p f e = refl
no_sum (Some x) p f e = rw e refl

all_squares_lost : (d : ℕ) (T : Matrix) (i j : ℕ) → d ≤ greatest_order → i ≤ j → j < d → sum_from (pos 0) (own_squares (margin d T) T d i j) ≡ None → AreRefused d T
all_squares_lost d T i j few q b h =
    let s = squares_of d T in
    let own : sum_from (pos 0) (square_summands d s i j) ≡ None = ap (sum_from (pos 0)) (first_summands d T d d i j few (omega arith) (omega arith) (omega arith) b) ∙ h in
    sides_lost d T i j q b (no_sum (narrow_of (multiple *ℤ T i j)) (sum_from (pos 0) (square_summands d s i j)) (λ left sum. option_map (λ right. (left, right)) (narrow_of (sum +ℤ matrix_of s.rest i j))) own)

-- ---- an entry that is left
pub sum_lost : (d : ℕ) (T : Matrix) (s : Squares) (k i j : ℕ) → d ≤ greatest_order → k ≤ d → s ≡ first_squares d T k → i ≤ j → j < d
    → None ≡ sum_from (pos 0) (square_summands k s i j) → AreRefused d T
sum_lost d T s k i j few m e q b h =
    let own : sum_from (pos 0) (own_squares (margin d T) T k i j) ≡ None =
    ap (sum_from (pos 0)) (sym (first_summands d T k k i j few m (omega arith) (omega arith) b)) ∙ ap (λ s. sum_from (pos 0) (square_summands k s i j)) (sym e) ∙ sym h in
    all_squares_lost d T i j few q b (prefix_stops (λ l. own_square (margin d T) T i j l ∷ []) (pos 0) k d m own)

pub left_had : (d : ℕ) (T : Matrix) (s : Squares) (k i j : ℕ) (x v : ℤ) → d ≤ greatest_order → k ≤ d → s ≡ first_squares d T k → i < d → j < d
    → x ≡ multiple *ℤ T i j → Some v ≡ sum_from (pos 0) (square_summands k s i j) → x -ℤ v ≡ left_after (margin d T) T k i j
left_had d T s k i j x v few m e a b f h =
    let g = margin d T in
    let S = first_squares d T k in
    let sum : v ≡ squares k (weights_of S) (rows_in S) i j = (unless_some _ (squares k (weights_of S) (rows_in S) i j) v (h ∙ ap (λ s. sum_from (pos 0) (square_summands k s i j)) e ∙ sum_of_squares-is k S i j)).1 in
    let own : squares k (weights_of S) (rows_in S) i j ≡ squares k (weight g T) (row g T) i j =
    sum_same k (λ l. square (weights_of S l) (rows_in S l) i j) (λ l. square (weight g T l) (row g T l) i j)
    (λ l q. rw (weights_first d T k l (omega arith) q, rows_first d T k l i few m q a, rows_first d T k l j few m q b) refl) in
    rw (f, sum ∙ own) (sym (left_is g T k i j))

narrow_had : (b : Bool) (z x : ℤ) → is_narrow z ≡ b → Some x ≡ (if b then Some z else None) → (x ≡ z) × (is_narrow x ≡ true)
narrow_had true z x e h = let f : x ≡ z = cc in (f, ap is_narrow f ∙ e)
narrow_had false z x e h = cc

pub product_had : (z x : ℤ) → Some x ≡ narrow_of z → (x ≡ z) × (is_narrow x ≡ true)
product_had z x h = narrow_had (is_narrow z) z x refl h

-- ---- a row
wide_first : (z y : ℤ) → is_narrow z ≡ false → any_wide (z ∷ y ∷ []) ≡ true
wide_first z y h = rw h refl

wide : (b : Bool) (z : ℤ) → None ≡ (if b then Some z else None) → b ≡ false
wide true z h = cc
wide false z h = refl

nat_not_less : (k : ℕ) → nat_lt k k ≡ false
nat_not_less k = grind (arith, nat_tests)

nat_same : (k : ℕ) → (k == k) ≡ true
nat_same k = grind (arith, nat_tests)

row_own : (w : ℤ) (U : Matrix) (k : ℕ) → row_at w U k k ≡ row_scale
row_own w U k = rw (nat_not_less k, nat_same k) refl

pub divisor_lost : (d : ℕ) (T : Matrix) (k : ℕ) → d ≤ greatest_order → k < d → None ≡ narrow_of (row_scale *ℤ weight (margin d T) T k) → AreRefused d T
divisor_lost d T k few q h =
    let g = margin d T in
    let w = weight g T k in
    let same : w *ℤ row g T k k ≡ row_scale *ℤ w = ap (λ r. w *ℤ r) (row_own w (left_after g T k) k) ∙ *ℤ_comm w row_scale in
    let big : is_narrow (w *ℤ row g T k k) ≡ false = ap is_narrow same ∙ wide (is_narrow (row_scale *ℤ w)) (row_scale *ℤ w) h in
    all_squares_lost d T k k few (omega arith) q
    (wide_stops (own_square g T k k) (pos 0) k d q (wide_first (w *ℤ row g T k k) (w *ℤ row g T k k *ℤ row g T k k) big))

-- ---- the squares with one more
pub square_next : (d : ℕ) (T : Matrix) (k : ℕ) (s : Squares) (w : ℤ) (r : List ℤ) → d ≤ greatest_order → k < d → s ≡ first_squares d T k
    → w ≡ weight (margin d T) T k → r ≡ row_of (entries_of d (row (margin d T) T k))
    → ◌≡◌ {A = Squares} (record s { count = k + 1; weights = set s.weights k w; rows = set s.rows k r }) (first_squares d T (k + 1))
square_next d T k s w r few q e f h =
    let g = margin d T in
    let W : Vector = weight g T in
    let R : ℕ → List ℤ = λ i. entries_of d (row g T i) in
    rw (e, f, h) (rw (row_next W k (omega arith), matrix_next R k (omega arith), many W (k + 1)) refl)

-- ---- symmetry
square_turned : (u v w a b : ℤ) → u ≡ v → u -ℤ w *ℤ a *ℤ b ≡ v -ℤ w *ℤ b *ℤ a
square_turned u v w a b e =
    ap (λ x. x -ℤ w *ℤ a *ℤ b) e
    ∙ ring (env (v ∷ w ∷ a ∷ b ∷ [])) (plus (var 0) (minus (times (times (var 1) (var 2)) (var 3)))) (plus (var 0) (minus (times (times (var 1) (var 3)) (var 2)))) refl

left_turned : (d : ℕ) (g : ℤ) (T : Matrix) (k i j : ℕ) → T i j ≡ T j i → left_after g T k i j ≡ left_after g T k j i
left_turned d g T zero i j h = ap (λ x. multiple *ℤ x) h
left_turned d g T (suc k) i j h =
    square_turned (left_after g T k i j) (left_after g T k j i) (weight g T k) (row g T k i) (row g T k j) (left_turned d g T k i j h)

pub left_mirrored : (d : ℕ) (g : ℤ) (T : Matrix) (k i j : ℕ) → is_symmetric d T ≡ true → i < d → j < d → left_after g T k (min i j) (max i j) ≡ left_after g T k i j
left_mirrored d g T k i j h a b = elim (cases_lt j i) [
  | inl l ↦ (let e : min i j ≡ j = omega arith in let f : max i j ≡ i = omega arith in
      rw (e, f) (left_turned d g T k j i (symmetric_at d T h j i b a)))
  | inr m ↦ (let e : min i j ≡ i = omega arith in let f : max i j ≡ j = omega arith in rw (e, f) refl)
]

-- ---- the greatest entry on the diagonal
pub greatest_next : (T : Matrix) (i : ℕ) → 1 ≤ i → greatest_diagonal (i + 1) T ≡ greater_of (greatest_diagonal i T) (T i i)
greatest_next T zero h = absurd (omega arith)
greatest_next T (suc d) h = ap (λ n. greatest_diagonal n T) (add-one (suc d))

-- ---- a weight
pub weight_found : (d : ℕ) (T : Matrix) (k : ℕ) (r : Option ℤ) (a b : ℤ) → k < d → a -ℤ b ≡ weight (margin d T) T k
    → MatchOption r (int_lt (pos 0) (a -ℤ b) ≡ false) (λ x. (x ≡ a -ℤ b) × (int_lt (pos 0) x ≡ true))
    → MatchOption r (AreRefused d T) (λ w. (w ≡ weight (margin d T) T k) × (int_lt (pos 0) w ≡ true))
weight_found d T k None a b q e h = weight_lost d T k q (ap (int_lt (pos 0)) (sym e) ∙ h)
weight_found d T k (Some x) a b q e h = (h.0 ∙ e, h.1)

-- ---- all squares
pub eliminated_where : (d : ℕ) (T : Matrix) (r : Option Squares) → ((k : ℕ) → k < d → int_lt (pos 0) (weight (margin d T) T k) ≡ true)
    → MatchOption r (AreRefused d T) (λ s. s ≡ squares_of d T) → MatchOption r (AreRefused d T) (λ s. elimination d T ≡ Some s)
eliminated_where d T None p h = h
eliminated_where d T (Some s) p h = rw (all_true (λ k. int_lt (pos 0) (weight (margin d T) T k)) d p) (ap Some (sym h))
