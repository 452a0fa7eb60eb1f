-- Tests that refuse nothing: what shows that an offer passes the tests of its check.
use Rattle.std.proofs.Common.{◌≡◌, ℕ, zero, suc, ◌+◌, ◌*◌, ◌^◌, ◌<◌, ◌≤◌, Bool, true, false, ◌&&◌, nat_lt, nat_le, List, [], ◌∷◌, ◌++◌, length, map, Option, Some, None, refl, ap, ◌∙◌, arith, length-append}
use Rattle.std.proofs.Math.IntN.{ℤ, pos, neg_ℤ, ◌+ℤ◌, ◌*ℤ◌}
use Rattle.std.specs.Int.RustNames.{unsigned_abs}
use Rattle.std.specs.List.{All, flat_map}
use Rattle.std.proofs.lemmas.Bool.{lt-ltb}
use Rattle.std.proofs.lemmas.Int.{unsigned_abs-mul, ints}
use Rattle.std.proofs.lemmas.Nat.{mul-le}
use Rattle.std.proofs.lemmas.List.Elements.{All-nil, All-cons, All-append, All-head, All-tail, All-filter}
use Rattle.dsv_algebra.specs.Narrow.{is_narrow}
use Rattle.dsv_algebra.specs.Vectors.{Vector, Matrix}
use Rattle.dsv_algebra.specs.Squares.{square, squares}
use Rattle.dsv_algebra.specs.Companion.{only, fall_terms}
use Rattle.dsv_forms.specs.declared.offers.Squares.{Squares}
use Rattle.dsv_forms.specs.declared.refusal.FormRefusal.{FormRefusal}
use Rattle.dsv_forms.specs.Refusals.{Test, first_of, places, places_from, any_wide, partial_sums, weights_of, rows_of, rest_of, square_terms, right_side, side_numbers, fall_numbers}

-- ---- tests

-- none of the tests refuses
abbrev pub Passed : List Test → Type 0
Passed [] = Unit {0}
Passed (test ∷ tests) = (test.0 ≡ false) × Passed tests

passed_one : (b : Bool) (r : FormRefusal) (o : Option FormRefusal) → b ≡ false → o ≡ None → elim b as (λ b. Option FormRefusal) [ true ↦ Some r | false ↦ o ] ≡ None
passed_one false r o e f = f
passed_one true r o e f = absurd (cc)

pub none_refuses : (tests : List Test) → Passed tests → first_of tests ≡ None
none_refuses [] h = refl
none_refuses (test ∷ tests) h = passed_one test.0 test.1 (first_of tests) h.0 (none_refuses tests h.1)

pub passed_both : (xs ys : List Test) → Passed xs → Passed ys → Passed (xs ++ ys)
passed_both [] ys h k = k
passed_both (x ∷ xs) ys h k = (h.0, passed_both xs ys h.1 k)

-- ---- places

wider : (d : ℕ) (is : List ℕ) → All (λ i. i < d) is → All (λ i. i < suc d) is
wider d [] h = All-nil (λ i. i < suc d)
wider d (i ∷ is) h = let a : i < d = All-head (λ i. i < d) i is h in All-cons (λ i. i < suc d) i is (omega arith) (wider d is (All-tail (λ i. i < d) i is h))

pub places_below : (d : ℕ) → All (λ i. i < d) (places d)
places_below zero = All-nil (λ i. i < 0)
places_below (suc d) = All-append (λ i. i < suc d) (places d) (d ∷ []) (wider d (places d) (places_below d)) (All-cons (λ i. i < suc d) d [] (omega arith) (All-nil (λ i. i < suc d)))

pub places_from_below : (i d : ℕ) → All (λ j. j < d) (places_from i d)
places_from_below i d = All-filter (λ j. nat_le i j) (λ j. j < d) (places d) (places_below d)

pub passed_map : (d : ℕ) (f : ℕ → Test) (is : List ℕ) → All (λ i. i < d) is → ((i : ℕ) → i < d → (f i).0 ≡ false) → Passed (map f is)
passed_map d f [] h k = tt
passed_map d f (i ∷ is) h k = (k i (All-head (λ i. i < d) i is h), passed_map d f is (All-tail (λ i. i < d) i is h) k)

pub passed_flat : (d : ℕ) (f : ℕ → List Test) (is : List ℕ) → All (λ i. i < d) is → ((i : ℕ) → i < d → Passed (f i)) → Passed (flat_map f is)
passed_flat d f [] h k = tt
passed_flat d f (i ∷ is) h k = passed_both (f i) (flat_map f is) (k i (All-head (λ i. i < d) i is h)) (passed_flat d f is (All-tail (λ i. i < d) i is h) k)

pub places_many : (d : ℕ) → length (places d) ≡ d
places_many zero = refl
places_many (suc d) = length-append (places d) (d ∷ []) ∙ ap (λ n. n + 1) (places_many d) ∙ omega arith

pub map_many : (f : ℕ → ℤ) (is : List ℕ) → length (map f is) ≡ length is
map_many f [] = refl
map_many f (i ∷ is) = ap suc (map_many f is)

-- ---- numbers that aren't wide

-- the number is at most n in size
abbrev pub Within : ℕ → ℤ → Type 0
Within n z = unsigned_abs z ≤ n

pub within_times : (m n : ℕ) (a b : ℤ) → Within m a → Within n b → Within (m * n) (a *ℤ b)
within_times m n a b h k = rw (unsigned_abs-mul a b) (mul-le (unsigned_abs a) (unsigned_abs b) m n h k)

pub within_plus : (m n : ℕ) (a b : ℤ) → Within m a → Within n b → Within (m + n) (a +ℤ b)
within_plus m n a b h k = omega (arith, ints)

pub within_neg : (n : ℕ) (a : ℤ) → Within n a → Within n (neg_ℤ a)
within_neg n a h = omega (arith, ints)

pub narrow : (n : ℕ) (z : ℤ) → Within n z → n < 2 ^ 126 → is_narrow z ≡ true
narrow n z h k = lt-ltb (unsigned_abs z) (2 ^ 126) (omega arith)

-- no number is wide
abbrev pub Narrow : List ℤ → Type 0
Narrow [] = Unit {0}
Narrow (z ∷ zs) = (is_narrow z ≡ true) × Narrow zs

pub none_wide : (zs : List ℤ) → Narrow zs → any_wide zs ≡ false
none_wide [] h = refl
none_wide (z ∷ zs) h = rw (h.0) (none_wide zs h.1)

pub narrow_both : (xs ys : List ℤ) → Narrow xs → Narrow ys → Narrow (xs ++ ys)
narrow_both [] ys h k = k
narrow_both (x ∷ xs) ys h k = (h.0, narrow_both xs ys h.1 k)

-- each number is at most so great in size
abbrev pub AllWithin : ℕ → List ℤ → Type 0
AllWithin n [] = Unit {0}
AllWithin n (z ∷ zs) = Within n z × AllWithin n zs

pub all_narrow : (n : ℕ) (zs : List ℤ) → AllWithin n zs → n < 2 ^ 126 → Narrow zs
all_narrow n [] h k = tt
all_narrow n (z ∷ zs) h k = (narrow n z h.0 k, all_narrow n zs h.1 k)

pub within_map : (d n : ℕ) (f : ℕ → ℤ) (is : List ℕ) → All (λ i. i < d) is → ((i : ℕ) → i < d → Within n (f i)) → AllWithin n (map f is)
within_map d n f [] h k = tt
within_map d n f (i ∷ is) h k = (k i (All-head (λ i. i < d) i is h), within_map d n f is (All-tail (λ i. i < d) i is h) k)

-- the partial sums of numbers within n, after a number within m
pub sums_narrow : (n m : ℕ) (sum : ℤ) (zs : List ℤ) → Within m sum → AllWithin n zs → m + n * length zs < 2 ^ 126 → Narrow (partial_sums sum zs)
sums_narrow n m sum [] s h k = tt
sums_narrow n m sum (z ∷ zs) s h k =
    let t : Within (m + n) (sum +ℤ z) = within_plus m n sum z s h.0 in
    let e : m + n * suc (length zs) ≡ m + n + n * length zs = omega arith in
    (narrow (m + n) (sum +ℤ z) t (omega (arith, e)), sums_narrow n (m + n) (sum +ℤ z) zs t h.1 (omega (arith, e)))

-- ---- the numbers on the way to an entry of the fall form

-- a product of two of the c within m, and an entry within n
abbrev TermsWithin : ℕ → ℕ → List (ℤ × ℤ) → Type 0
TermsWithin m n [] = Unit {0}
TermsWithin m n (t ∷ ts) = (Within m t.0 × Within n t.1) × TermsWithin m n ts

terms_both : (m n : ℕ) (ts us : List (ℤ × ℤ)) → TermsWithin m n ts → TermsWithin m n us → TermsWithin m n (ts ++ us)
terms_both m n [] us h k = k
terms_both m n (t ∷ ts) us h k = (h.0, terms_both m n ts us h.1 k)

only_within : (m n : ℕ) (b : Bool) (t : ℤ × ℤ) → Within m t.0 → Within n t.1 → TermsWithin m n (only b t)
only_within m n true t h k = ((h, k), tt)
only_within m n false t h k = tt

factors_within : (m n : ℕ) (ts : List (ℤ × ℤ)) → TermsWithin m n ts → AllWithin m (map (λ (t : ℤ × ℤ). t.0) ts)
factors_within m n [] h = tt
factors_within m n (t ∷ ts) h = (h.0.0, factors_within m n ts h.1)

products_within : (m n : ℕ) (ts : List (ℤ × ℤ)) → TermsWithin m n ts → AllWithin (m * n) (map (λ (t : ℤ × ℤ). t.0 *ℤ t.1) ts)
products_within m n [] h = tt
products_within m n (t ∷ ts) h = (within_times m n t.0 t.1 h.0.0 h.0.1, products_within m n ts h.1)

only_few : (b : Bool) (t : ℤ × ℤ) → length (only b t) ≤ 1
only_few true t = omega arith
only_few false t = omega arith

-- at most five terms
few_terms : (d : ℕ) (c : Vector) (P : Matrix) (i j : ℕ) → length (fall_terms d c P i j) ≤ 5
few_terms d c P i j =
    let below = nat_lt (suc i) d in
    let beside = nat_lt (suc j) d in
    let x : ℤ × ℤ = (c (suc i) *ℤ c 0, P 0 (suc j)) in
    let y : ℤ × ℤ = (c 0 *ℤ c (suc j), P (suc i) 0) in
    let z : ℤ × ℤ = (neg_ℤ (c 0 *ℤ c 0), P (suc i) (suc j)) in
    let e : length ((only beside x ++ only below y) ++ only (below && beside) z) ≡ length (only beside x ++ only below y) + length (only (below && beside) z) = length-append (only beside x ++ only below y) (only (below && beside) z) in
    let f : length (only beside x ++ only below y) ≡ length (only beside x) + length (only below y) = length-append (only beside x) (only below y) in
    omega (arith, e, f, only_few beside x, only_few below y, only_few (below && beside) z)

terms_within : (m n d : ℕ) (c : Vector) (P : Matrix) (i j : ℕ) → ((k : ℕ) → Within m (c k)) → ((k l : ℕ) → Within n (P k l)) → TermsWithin (m * m) n (fall_terms d c P i j)
terms_within m n d c P i j h k =
    let below = nat_lt (suc i) d in
    let beside = nat_lt (suc j) d in
    let x : ℤ × ℤ = (c (suc i) *ℤ c 0, P 0 (suc j)) in
    let y : ℤ × ℤ = (c 0 *ℤ c (suc j), P (suc i) 0) in
    let z : ℤ × ℤ = (neg_ℤ (c 0 *ℤ c 0), P (suc i) (suc j)) in
    let own = within_times m m (c 0) (c 0) (h 0) (h 0) in (
      (own, k i j),
      (
        (within_neg (m * m) (c (suc i) *ℤ c (suc j)) (within_times m m (c (suc i)) (c (suc j)) (h (suc i)) (h (suc j))), k 0 0),
        terms_both (m * m) n (only beside x ++ only below y) (only (below && beside) z)
            (terms_both (m * m) n (only beside x) (only below y)
            (only_within (m * m) n beside x (within_times m m (c (suc i)) (c 0) (h (suc i)) (h 0)) (k 0 (suc j)))
            (only_within (m * m) n below y (within_times m m (c 0) (c (suc j)) (h 0) (h (suc j))) (k (suc i) 0)))
            (only_within (m * m) n (below && beside) z (within_neg (m * m) (c 0 *ℤ c 0) own) (k (suc i) (suc j))),
      ),
    )

map_length : (ts : List (ℤ × ℤ)) → length (map (λ (t : ℤ × ℤ). t.0 *ℤ t.1) ts) ≡ length ts
map_length [] = refl
map_length (t ∷ ts) = ap suc (map_length ts)

few_sums : (n k : ℕ) → k ≤ 5 → n * k ≤ 5 * n
few_sums n k h = let e = mul-le n k n 5 (omega arith) h in omega (arith, e)

pub fall_numbers_narrow : (m n d : ℕ) (c : Vector) (P : Matrix) (i j : ℕ) → ((k : ℕ) → Within m (c k)) → ((k l : ℕ) → Within n (P k l))
    → m * m < 2 ^ 126 → 5 * (m * m * n) < 2 ^ 126 → Narrow (fall_numbers d c P i j)
fall_numbers_narrow m n d c P i j h k a b =
    let ts = fall_terms d c P i j in
    let within = terms_within m n d c P i j h k in
    let products = products_within (m * m) n ts within in
    let few : m * m * n * length (map (λ (t : ℤ × ℤ). t.0 *ℤ t.1) ts) ≤ 5 * (m * m * n) = rw (map_length ts) (few_sums (m * m * n) (length ts) (few_terms d c P i j)) in
    narrow_both (map (λ (t : ℤ × ℤ). t.0) ts ++ map (λ (t : ℤ × ℤ). t.0 *ℤ t.1) ts) (partial_sums (pos 0) (map (λ (t : ℤ × ℤ). t.0 *ℤ t.1) ts))
    (narrow_both (map (λ (t : ℤ × ℤ). t.0) ts) (map (λ (t : ℤ × ℤ). t.0 *ℤ t.1) ts)
    (all_narrow (m * m) (map (λ (t : ℤ × ℤ). t.0) ts) (factors_within (m * m) n ts within) a)
    (all_narrow (m * m * n) (map (λ (t : ℤ × ℤ). t.0 *ℤ t.1) ts) products (omega (arith, b))))
    (sums_narrow (m * m * n) 0 (pos 0) (map (λ (t : ℤ × ℤ). t.0 *ℤ t.1) ts) (omega arith) products (omega (arith, few, b)))

-- ---- the numbers on the way to both sides

squares_within : (b : ℕ) (s : Squares) (i j n : ℕ) → ((k : ℕ) → k < n → Within b (square (weights_of s k) (rows_of s k) i j))
    → Within (b * n) (squares n (weights_of s) (rows_of s) i j)
squares_within b s i j zero h = omega arith
squares_within b s i j (suc n) h =
    let a = squares_within b s i j n (λ k l. h k (omega (arith, l))) in
    let c = within_plus (b * n) b (squares n (weights_of s) (rows_of s) i j) (square (weights_of s n) (rows_of s n) i j) a (h n (omega arith)) in
    omega (arith, c)

-- What keeps the numbers of both sides narrow: the sizes of m, of the form's entry, of the products
-- with weights, of the squares and of the rest.
pub record AreSmallSides (n : ℕ) (s : Squares) (x : ℤ) (i j : ℕ) (m t a b e : ℕ) : Type 0 where
  pub scale : Within m s.m
  pub entry : Within t x
  pub products : (k : ℕ) → k < n → Within a (weights_of s k *ℤ rows_of s k i)
  pub squares : (k : ℕ) → k < n → Within b (square (weights_of s k) (rows_of s k) i j)
  pub rest : Within e (rest_of s i j)
  pub left : m * t < 2 ^ 126
  pub first : a < 2 ^ 126
  pub right : b * n + e < 2 ^ 126

pub side_numbers_narrow : (n : ℕ) (s : Squares) (x : ℤ) (i j m t a b e : ℕ) → AreSmallSides n s x i j m t a b e → 1 ≤ n → Narrow (side_numbers n s x i j)
side_numbers_narrow n s x i j m t a b e h some =
    let terms = square_terms n s i j in
    let products = map (λ k. weights_of s k *ℤ rows_of s k i) (places n) in
    let each : AllWithin b terms = within_map n b (λ k. square (weights_of s k) (rows_of s k) i j) (places n) (places_below n) h.squares in
    let firsts : AllWithin a products = within_map n a (λ k. weights_of s k *ℤ rows_of s k i) (places n) (places_below n) h.products in
    let many : length terms ≡ n = map_many (λ k. square (weights_of s k) (rows_of s k) i j) (places n) ∙ places_many n in
    let one : b ≤ b * n = let e = mul-le b 1 b n (omega arith) some in omega (arith, e) in
    let last : AllWithin (b * n + e) (right_side n s i j ∷ []) = (within_plus (b * n) e (squares n (weights_of s) (rows_of s) i j) (rest_of s i j) (squares_within b s i j n h.squares) h.rest, tt) in (
      narrow (m * t) (s.m *ℤ x) (within_times m t s.m x h.scale h.entry) h.left,
      narrow_both (products ++ terms ++ partial_sums (pos 0) terms) (right_side n s i j ∷ [])
          (narrow_both (products ++ terms) (partial_sums (pos 0) terms)
          (narrow_both products terms (all_narrow a products firsts h.first) (all_narrow b terms each (omega (arith, one, h.right))))
          (sums_narrow b 0 (pos 0) terms (omega arith) each (rw many (omega (arith, h.right)))))
          (all_narrow (b * n + e) (right_side n s i j ∷ []) last h.right),
    )

-- the numbers of both sides without squares
pub bare_numbers_narrow : (s : Squares) (x : ℤ) (i j t e : ℕ) → Within t x → s.m ≡ pos 1 → Within e (rest_of s i j) → t < 2 ^ 126 → e < 2 ^ 126 → Narrow (side_numbers 0 s x i j)
bare_numbers_narrow s x i j t e h one k a b =
    let l : Within (1 * t) (s.m *ℤ x) = within_times 1 t s.m x (rw one (omega arith)) h in
    (narrow (1 * t) (s.m *ℤ x) l (omega (arith, a)), (narrow (0 + e) (right_side 0 s i j) (within_plus 0 e (pos 0) (rest_of s i j) (omega arith) k) (omega (arith, b)), tt))
