-- The check of an offer reads the numbers of its places alone.
use Rattle.std.proofs.Common.{◌≡◌, ℕ, suc, ◌-◌, ◌<◌, ◌≤◌, Bool, true, false, not, ◌&&◌, ◌||◌, ◌==◌, nat_lt, int_lt, List, [], ◌∷◌, ◌++◌, length, map, take, get_or, None, refl, sym, ap, ◌∙◌, arith}
use Rattle.std.proofs.Math.IntN.{ℤ, pos, neg_ℤ, ◌*ℤ◌}
use Rattle.std.proofs.Math.ListN.{get_or-map}
use Rattle.std.proofs.Math.Seq.{take-nil}
use Rattle.std.specs.List.{list_all}
use Rattle.std.specs.Ordering.{int_eq}
use Rattle.std.proofs.lemmas.Bool.Decides.{nat_tests}
use Rattle.std.proofs.lemmas.List.{get_or-take, length-map, length-take}
use Rattle.dsv_algebra.specs.Vectors.{Vector, Matrix, sum_to, vector_of, matrix_of}
use Rattle.dsv_algebra.specs.Squares.{square, beside}
use Rattle.dsv_algebra.specs.Companion.{only, total_from, fall_terms, fall_entry}
use Rattle.dsv_algebra.proofs.Sums.{sum_same}
use Rattle.dsv_forms.specs.declared.offers.Form.{Form}
use Rattle.dsv_forms.specs.declared.offers.Squares.{Squares}
use Rattle.dsv_forms.specs.declared.offers.Falls.{Falls}
use Rattle.dsv_forms.specs.declared.refusal.OfferPart.{OfferPart}
use Rattle.dsv_forms.specs.declared.refusal.OfferPart.TheVariants as part
use Rattle.dsv_forms.specs.declared.refusal.FormRefusal.{FormRefusal}
use Rattle.dsv_forms.specs.declared.refusal.FormRefusal.TheVariants as refusal
use Rattle.dsv_forms.specs.OfferLaws.{AreReadInPlaces}
use Rattle.dsv_forms.specs.Padded.{row_of, matrix_with, corner, squares_alone, offer_alone}
use Rattle.dsv_forms.specs.Poly.{greatest_order}
use Rattle.dsv_forms.specs.Refusals.{Test, first_of, places, any_wide, partial_sums, is_symmetric, weights_of, rows_of, rest_of, bad_rest, square_terms, right_side, side_numbers, place_tests, row_tests, side_tests, sizes_beside, not_dominant, dominance_tests, bad_shape, bad_weight, bad_row, positive_weight_tests, triangle_tests, definite_tests, bad_form, fall_numbers, falls_tests, falls_refusal}
use Rattle.dsv_forms.proofs.OfferLemmas.{by_shape, falls_parts, falls_passes}
use Rattle.dsv_forms.proofs.Padded.{row_entry, matrix_entry}
use Rattle.dsv_forms.proofs.Places.{or_else, both_tests, first_same, from_same, map_same, all_same, any_same, neither_test, not_false}
use Rattle.dsv_forms.proofs.Shown.{definite_parts, same_count}

-- the first d places of the first n rows are the same
abbrev pub AreAlike : ℕ → ℕ → Matrix → Matrix → Type 0
AreAlike n d A B = (i j : ℕ) → i < n → j < d → A i j ≡ B i j

-- as many squares of rows of d places, which have the same numbers in their places where there are d of them
pub record AreAlikeSquares (d : ℕ) (s t : Squares) : Type 0 where
  factor : s.m ≡ t.m
  count : s.count ≡ t.count
  weights : s.count ≡ d → (k : ℕ) → k < d → weights_of s k ≡ weights_of t k
  rows : s.count ≡ d → AreAlike d d (rows_of s) (rows_of t)
  rest : AreAlike d d (rest_of s) (rest_of t)

-- ---- the parts of a check
symmetric_alike : (d : ℕ) (A B : Matrix) → AreAlike d d A B → is_symmetric d A ≡ is_symmetric d B
symmetric_alike d A B a =
    all_same (λ i. list_all (λ j. int_eq (A i j) (A j i)) (places d)) (λ i. list_all (λ j. int_eq (B i j) (B j i)) (places d)) d
    (λ i p. all_same (λ j. int_eq (A i j) (A j i)) (λ j. int_eq (B i j) (B j i)) d (λ j q. rw (a i j p q, a j i q p) refl))

bad_shape_alike : (d : ℕ) (s t : Squares) → AreAlikeSquares d s t → bad_shape d s ≡ bad_shape d t
bad_shape_alike d s t a = rw (a.factor, a.count, symmetric_alike d (rest_of s) (rest_of t) a.rest) refl

weights_alike : (p : OfferPart) (d : ℕ) (s t : Squares) → AreAlikeSquares d s t → s.count ≡ d → positive_weight_tests p d s ≡ positive_weight_tests p d t
weights_alike p d s t a e =
    map_same (λ k. (bad_weight s k, refusal.Weight p k)) (λ k. (bad_weight t k, refusal.Weight p k)) d (λ k q. rw (a.weights e k q) refl)

bad_row_alike : (d : ℕ) (s t : Squares) (k : ℕ) → AreAlikeSquares d s t → s.count ≡ d → k < d → bad_row s k ≡ bad_row t k
bad_row_alike d s t k a e h =
    rw (any_same (λ j. not (int_eq (rows_of s k j) (pos 0))) (λ j. not (int_eq (rows_of t k j) (pos 0))) k (λ j q. rw (a.rows e k j h (omega arith)) refl), a.rows e k k h h) refl

triangle_alike : (p : OfferPart) (d : ℕ) (s t : Squares) → AreAlikeSquares d s t → s.count ≡ d → triangle_tests p d s ≡ triangle_tests p d t
triangle_alike p d s t a e =
    map_same (λ k. (bad_row s k, refusal.Triangle p k)) (λ k. (bad_row t k, refusal.Triangle p k)) d
    (λ k q. ap (λ b. (b, refusal.Triangle p k)) (bad_row_alike d s t k a e q))

-- ---- both sides
square_alike : (s t : Squares) (k i j : ℕ) → weights_of s k ≡ weights_of t k → rows_of s k i ≡ rows_of t k i → rows_of s k j ≡ rows_of t k j
    → square (weights_of s k) (rows_of s k) i j ≡ square (weights_of t k) (rows_of t k) i j
square_alike s t k i j e f g = rw (e, f, g) refl

right_alike : (d : ℕ) (s t : Squares) (i j : ℕ) → AreAlikeSquares d s t → s.count ≡ d → i < d → j < d → right_side d s i j ≡ right_side d t i j
right_alike d s t i j a e p q =
    rw (
      sum_same d (λ k. square (weights_of s k) (rows_of s k) i j) (λ k. square (weights_of t k) (rows_of t k) i j)
          (λ k h. square_alike s t k i j (a.weights e k h) (a.rows e k i h p) (a.rows e k j h q)),
      a.rest i j p q,
    ) refl

numbers_by : (a b : ℤ) (ks ls ms ns : List ℤ) (r q : ℤ) → a ≡ b → ks ≡ ls → ms ≡ ns → r ≡ q
    → (a ∷ ks ++ ms ++ partial_sums (pos 0) ms ++ r ∷ []) ≡ (b ∷ ls ++ ns ++ partial_sums (pos 0) ns ++ q ∷ [])
numbers_by a b ks ls ms ns r q e f g h = rw (e, f, g, h) refl

side_numbers_alike : (d : ℕ) (s t : Squares) (x y : ℤ) (i j : ℕ) → AreAlikeSquares d s t → s.count ≡ d → x ≡ y → i < d → j < d
    → side_numbers d s x i j ≡ side_numbers d t y i j
side_numbers_alike d s t x y i j a e f p q =
    let rows = map_same (λ k. weights_of s k *ℤ rows_of s k i) (λ k. weights_of t k *ℤ rows_of t k i) d
    (λ k h. rw (a.weights e k h, a.rows e k i h p) refl) in
    let terms = map_same (λ k. square (weights_of s k) (rows_of s k) i j) (λ k. square (weights_of t k) (rows_of t k) i j) d
    (λ k h. square_alike s t k i j (a.weights e k h) (a.rows e k i h p) (a.rows e k j h q)) in
    numbers_by (s.m *ℤ x) (t.m *ℤ y) (map (λ k. weights_of s k *ℤ rows_of s k i) (places d)) (map (λ k. weights_of t k *ℤ rows_of t k i) (places d))
    (square_terms d s i j) (square_terms d t i j) (right_side d s i j) (right_side d t i j) (rw (a.factor, f) refl) rows terms (right_alike d s t i j a e p q)

tests_by : (ks ls ms ns : List ℤ) (a b c d : ℤ) (r q : FormRefusal) → ks ≡ ls → ms ≡ ns → a ≡ b → c ≡ d
    → ◌≡◌ {A = List Test} ((any_wide (ks ++ ms), r) ∷ (not (int_eq a c), q) ∷ []) ((any_wide (ls ++ ns), r) ∷ (not (int_eq b d), q) ∷ [])
tests_by ks ls ms ns a b c d r q e f g h = rw (e, f, g, h) refl

place_alike : (p : OfferPart) (d : ℕ) (s t : Squares) (x y : ℤ) (ns ms : List ℤ) (i j : ℕ) → AreAlikeSquares d s t → s.count ≡ d → x ≡ y → ns ≡ ms → i < d → j < d
    → place_tests p d s x ns i j ≡ place_tests p d t y ms i j
place_alike p d s t x y ns ms i j a e f g k l =
    tests_by ns ms (side_numbers d s x i j) (side_numbers d t y i j) (s.m *ℤ x) (t.m *ℤ y) (right_side d s i j) (right_side d t i j) (refusal.Wide p i j) (refusal.Identity p i j)
    g (side_numbers_alike d s t x y i j a e f k l) (rw (a.factor, f) refl) (right_alike d s t i j a e k l)

sides_alike : (p : OfferPart) (d : ℕ) (s t : Squares) (T U : Matrix) (N M : ℕ → ℕ → List ℤ) → AreAlikeSquares d s t → s.count ≡ d → AreAlike d d T U
    → ((i j : ℕ) → i < d → j < d → N i j ≡ M i j) → first_of (side_tests p d d s T N) ≡ first_of (side_tests p d d t U M)
sides_alike p d s t T U N M a e f g =
    first_same (row_tests p d d s T N) (row_tests p d d t U M) d
    (λ i k. from_same (λ j. place_tests p d s (T i j) (N i j) i j) (λ j. place_tests p d t (U i j) (M i j) i j) i d
    (λ j q l. ap first_of (place_alike p d s t (T i j) (U i j) (N i j) (M i j) i j a e (f i j k l) (g i j k l) k l)))

-- ---- the rest
beside_alike : (A B : Matrix) (i j : ℕ) → A i j ≡ B i j → beside A i j ≡ beside B i j
beside_alike A B i j e = rw e refl

dominant_by : (ks ls ms ns : List ℤ) (a b c d : ℤ) → ks ≡ ls → ms ≡ ns → a ≡ b → c ≡ d
    → (any_wide (ks ++ partial_sums (pos 0) ms) || int_lt a c) ≡ (any_wide (ls ++ partial_sums (pos 0) ns) || int_lt b d)
dominant_by ks ls ms ns a b c d e f g h = rw (e, f, g, h) refl

not_dominant_alike : (d : ℕ) (s t : Squares) (i : ℕ) → AreAlike d d (rest_of s) (rest_of t) → i < d → not_dominant d s i ≡ not_dominant d t i
not_dominant_alike d s t i a h =
    let size : (j : ℕ) → j < d → beside (rest_of s) i j ≡ beside (rest_of t) i j = λ j q. beside_alike (rest_of s) (rest_of t) i j (a i j h q) in
    dominant_by (map (λ j. rest_of s i j) (places d)) (map (λ j. rest_of t i j) (places d)) (sizes_beside d s i) (sizes_beside d t i)
    (rest_of s i i) (rest_of t i i) (sum_to d (λ j. beside (rest_of s) i j)) (sum_to d (λ j. beside (rest_of t) i j))
    (map_same (λ j. rest_of s i j) (λ j. rest_of t i j) d (λ j q. a i j h q))
    (map_same (λ j. beside (rest_of s) i j) (λ j. beside (rest_of t) i j) d size)
    (a i i h h)
    (sum_same d (λ j. beside (rest_of s) i j) (λ j. beside (rest_of t) i j) size)

dominance_alike : (p : OfferPart) (d : ℕ) (s t : Squares) → AreAlike d d (rest_of s) (rest_of t) → dominance_tests p d s ≡ dominance_tests p d t
dominance_alike p d s t a =
    map_same (λ i. (not_dominant d s i, refusal.Dominance p i)) (λ i. (not_dominant d t i, refusal.Dominance p i)) d
    (λ i h. ap (λ b. (b, refusal.Dominance p i)) (not_dominant_alike d s t i a h))

-- ---- a definite part
counted : (d : ℕ) (s : Squares) → bad_shape d s ≡ false → s.count ≡ d
counted d s h = same_count s.count d (not_false (s.count == d) (neither_test (bad_rest d s) (not (s.count == d)) h).1)

pub definite_alike : (p : OfferPart) (d : ℕ) (s t : Squares) (T U : Matrix) (N M : ℕ → ℕ → List ℤ) → AreAlikeSquares d s t → AreAlike d d T U
    → ((i j : ℕ) → i < d → j < d → N i j ≡ M i j) → first_of (definite_tests p d s T N) ≡ first_of (definite_tests p d t U M)
definite_alike p d s t T U N M a f g =
    definite_parts p d s T N
    ∙ by_shape (bad_shape d s) (refusal.Shape p)
    (or_else (or_else (or_else (first_of (positive_weight_tests p d s)) (first_of (triangle_tests p d s))) (first_of (side_tests p d d s T N))) (first_of (dominance_tests p d s)))
    (or_else (or_else (or_else (first_of (positive_weight_tests p d t)) (first_of (triangle_tests p d t))) (first_of (side_tests p d d t U M))) (first_of (dominance_tests p d t)))
    (λ h. let e = counted d s h in
    rw (weights_alike p d s t a e, triangle_alike p d s t a e, sides_alike p d s t T U N M a e f g, dominance_alike p d s t a.rest) refl)
    ∙ ap (λ b. or_else (first_of ((b, refusal.Shape p) ∷ []))
    (or_else (or_else (or_else (first_of (positive_weight_tests p d t)) (first_of (triangle_tests p d t))) (first_of (side_tests p d d t U M))) (first_of (dominance_tests p d t))))
    (bad_shape_alike d s t a)
    ∙ sym (definite_parts p d t U M)

-- ---- what a form loses
only_alike : (b : Bool) (f x y : ℤ) → (b ≡ true → x ≡ y) → only b (f, x) ≡ only b (f, y)
only_alike true f x y h = ap (λ z. (f, z) ∷ []) (h refl)
only_alike false f x y h = refl

below : (i d : ℕ) → nat_lt i d ≡ true → i < d
below i d h = grind (arith, nat_tests)

both_below : (i j d : ℕ) → (nat_lt i d && nat_lt j d) ≡ true → (i < d) × (j < d)
both_below i j d h = let k = both_tests (nat_lt i d) (nat_lt j d) h in (below i d k.0, below j d k.1)

terms_by : (a b x y f g : ℤ) (ks ls ms ns ps qs : List (ℤ × ℤ)) → a ≡ b → x ≡ y → ks ≡ ls → ms ≡ ns → ps ≡ qs
    → ◌≡◌ {A = List (ℤ × ℤ)} ((f, a) ∷ (g, x) ∷ ks ++ ms ++ ps) ((f, b) ∷ (g, y) ∷ ls ++ ns ++ qs)
terms_by a b x y f g ks ls ms ns ps qs e h i j k = rw (e, h, i, j, k) refl

fall_terms_alike : (d : ℕ) (c : Vector) (P Q : Matrix) (i j : ℕ) → AreAlike d d P Q → i < d → j < d → fall_terms d c P i j ≡ fall_terms d c Q i j
fall_terms_alike d c P Q i j a h k =
    terms_by (P i j) (Q i j) (P 0 0) (Q 0 0) (c 0 *ℤ c 0) (neg_ℤ (c (suc i) *ℤ c (suc j)))
    (only (nat_lt (suc j) d) (c (suc i) *ℤ c 0, P 0 (suc j))) (only (nat_lt (suc j) d) (c (suc i) *ℤ c 0, Q 0 (suc j)))
    (only (nat_lt (suc i) d) (c 0 *ℤ c (suc j), P (suc i) 0)) (only (nat_lt (suc i) d) (c 0 *ℤ c (suc j), Q (suc i) 0))
    (only (nat_lt (suc i) d && nat_lt (suc j) d) (neg_ℤ (c 0 *ℤ c 0), P (suc i) (suc j))) (only (nat_lt (suc i) d && nat_lt (suc j) d) (neg_ℤ (c 0 *ℤ c 0), Q (suc i) (suc j)))
    (a i j h k) (a 0 0 (omega arith) (omega arith))
    (only_alike (nat_lt (suc j) d) (c (suc i) *ℤ c 0) (P 0 (suc j)) (Q 0 (suc j)) (λ e. a 0 (suc j) (omega arith) (below (suc j) d e)))
    (only_alike (nat_lt (suc i) d) (c 0 *ℤ c (suc j)) (P (suc i) 0) (Q (suc i) 0) (λ e. a (suc i) 0 (below (suc i) d e) (omega arith)))
    (only_alike (nat_lt (suc i) d && nat_lt (suc j) d) (neg_ℤ (c 0 *ℤ c 0)) (P (suc i) (suc j)) (Q (suc i) (suc j))
    (λ e. let l = both_below (suc i) (suc j) d e in a (suc i) (suc j) l.0 l.1))

fall_numbers_alike : (d : ℕ) (c : Vector) (P Q : Matrix) (i j : ℕ) → AreAlike d d P Q → i < d → j < d → fall_numbers d c P i j ≡ fall_numbers d c Q i j
fall_numbers_alike d c P Q i j a h k =
    ap (λ (terms : List (ℤ × ℤ)). map (λ t. t.0) terms ++ map (λ t. t.0 *ℤ t.1) terms ++ partial_sums (pos 0) (map (λ t. t.0 *ℤ t.1) terms)) (fall_terms_alike d c P Q i j a h k)

fall_entry_alike : (d : ℕ) (c : Vector) (P Q : Matrix) (i j : ℕ) → AreAlike d d P Q → i < d → j < d → fall_entry d c P i j ≡ fall_entry d c Q i j
fall_entry_alike d c P Q i j a h k = ap (total_from (pos 0)) (fall_terms_alike d c P Q i j a h k)

-- ---- offers
-- offers of d places that have the same numbers in them
pub record AreAlikeOffers (d : ℕ) (f g : Falls) : Type 0 where
  pub form : AreAlike d d (matrix_of f.form.rows) (matrix_of g.form.rows)
  pub positive : AreAlikeSquares d f.positive g.positive
  pub fall : AreAlikeSquares d f.fall g.fall

pub bad_form_alike : (d : ℕ) (f g : Form) → f.d ≡ g.d → (f.d ≡ d → AreAlike d d (matrix_of f.rows) (matrix_of g.rows)) → bad_form d f ≡ bad_form d g
bad_form_alike d f g e a = by_count (f.d == d) refl
  where
    by_count : (b : Bool) → (f.d == d) ≡ b → bad_form d f ≡ bad_form d g
    by_count true h = rw (e, symmetric_alike d (matrix_of f.rows) (matrix_of g.rows) (a (same_count f.d d h))) refl
    by_count false h = let k : (g.d == d) ≡ false = ap (λ n. n == d) (sym e) ∙ h in rw (h, k) refl

pub placed : (d : ℕ) (f : Form) → bad_form d f ≡ false → f.d ≡ d
placed d f h = same_count f.d d (not_false (f.d == d) (neither_test (not (f.d == d)) (not (is_symmetric d (matrix_of f.rows))) h).0)

falls_alike : (d : ℕ) (c : Vector) (f g : Falls) → f.form.d ≡ g.form.d → (f.form.d ≡ d → AreAlikeOffers d f g) → first_of (falls_tests d c f) ≡ first_of (falls_tests d c g)
falls_alike d c f g e a =
    let P = matrix_of f.form.rows in
    let Q = matrix_of g.form.rows in
    let positive = first_of (definite_tests part.Positive d f.positive P (λ i j. [])) in
    let fall = first_of (definite_tests part.Fall d f.fall (fall_entry d c P) (fall_numbers d c P)) in
    let positive_too = first_of (definite_tests part.Positive d g.positive Q (λ i j. [])) in
    let fall_too = first_of (definite_tests part.Fall d g.fall (fall_entry d c Q) (fall_numbers d c Q)) in
    falls_parts d c f
    ∙ by_shape (bad_form d f.form) (refusal.Shape part.Form) (or_else positive fall) (or_else positive_too fall_too)
    (λ h. let o = a (placed d f.form h) in
    rw (
      definite_alike part.Positive d f.positive g.positive P Q (λ i j. []) (λ i j. []) o.positive o.form (λ i j k l. refl),
      definite_alike part.Fall d f.fall g.fall (fall_entry d c P) (fall_entry d c Q) (fall_numbers d c P) (fall_numbers d c Q) o.fall
          (λ i j k l. fall_entry_alike d c P Q i j o.form k l) (λ i j k l. fall_numbers_alike d c P Q i j o.form k l),
    ) refl)
    ∙ ap (λ b. or_else (first_of ((b, refusal.Shape part.Form) ∷ [])) (or_else positive_too fall_too)) (bad_form_alike d f.form g.form e (λ h. (a h).form))
    ∙ sym (falls_parts d c g)

-- ---- the offer with its places alone
pub corner_row : (n d i : ℕ) (rows : List (List ℤ)) → get_or (corner n d rows) i [] ≡ take d (get_or (take n rows) i [])
corner_row n d i rows = ap (get_or (corner n d rows) i) (sym (take-nil d)) ∙ get_or-map (take d) (take n rows) i []

corner_short : (n d : ℕ) (rows : List (List ℤ)) (k : ℕ) → d ≤ greatest_order → length (get_or (corner n d rows) k []) ≤ greatest_order
corner_short n d rows k h = omega (arith, ap length (corner_row n d k rows), length-take d (get_or (take n rows) k []), h)

corner_few : (n d : ℕ) (rows : List (List ℤ)) → n ≤ greatest_order → length (corner n d rows) ≤ greatest_order
corner_few n d rows h = omega (arith, length-map (take n rows) (take d), length-take n rows, h)

corner_alike : (n d : ℕ) (rows : List (List ℤ)) → n ≤ greatest_order → d ≤ greatest_order → AreAlike n d (matrix_of (matrix_with (corner n d rows))) (matrix_of rows)
corner_alike n d rows h k = λ i j p q.
    matrix_entry (corner n d rows) i j (corner_few n d rows h) (λ r. corner_short n d rows r k)
    ∙ ap (λ r. vector_of r j) (corner_row n d i rows)
    ∙ get_or-take d (get_or (take n rows) i []) j (pos 0) q
    ∙ ap (λ r. vector_of r j) (get_or-take n rows i [] p)

weight_alone : (n k : ℕ) (ws : List ℤ) → n ≤ greatest_order → k < n → vector_of (row_of (take n ws)) k ≡ vector_of ws k
weight_alone n k ws h p = row_entry (take n ws) k (omega (arith, length-take n ws, h)) ∙ get_or-take n ws k (pos 0) p

squares_alone_alike : (d e : ℕ) (s : Squares) → e ≡ d → d ≤ greatest_order → AreAlikeSquares d (squares_alone e s) s
squares_alone_alike d e s same few = record {
  factor = refl;
  count = refl;
  weights = λ n k p. weight_alone s.count k s.weights (omega (arith, n, few)) (omega (arith, n, p));
  rows = λ n i j p q. corner_alike s.count e s.rows (omega (arith, n, few)) (omega (arith, same, few)) i j (omega (arith, n, p)) (omega (arith, same, q));
  rest = λ i j p q. corner_alike e e s.rest (omega (arith, same, few)) (omega (arith, same, few)) i j (omega (arith, same, p)) (omega (arith, same, q));
}

pub offer_alone_alike : (d : ℕ) (offer : Falls) → offer.form.d ≡ d → d ≤ greatest_order → AreAlikeOffers d (offer_alone offer) offer
offer_alone_alike d offer e few = record {
  form = λ i j p q. corner_alike offer.form.d offer.form.d offer.form.rows (omega (arith, e, few)) (omega (arith, e, few)) i j (omega (arith, e, p)) (omega (arith, e, q));
  positive = squares_alone_alike d offer.form.d offer.positive e few;
  fall = squares_alone_alike d offer.form.d offer.fall e few;
}

pub offers_are_read_in_places : AreReadInPlaces
offers_are_read_in_places c offer h =
    falls_alike (length c - 1) (vector_of c) (offer_alone offer) offer refl (λ e. offer_alone_alike (length c - 1) offer e (omega arith))

pub accepted_alone : (c : List ℤ) (offer : Falls) → offer.form.d ≤ greatest_order → falls_refusal c offer ≡ None → falls_refusal c (offer_alone offer) ≡ None
accepted_alone c offer few h =
    let order = (falls_passes (length c - 1) (vector_of c) offer h).places in
    offers_are_read_in_places c offer (omega (arith, order, few)) ∙ h
