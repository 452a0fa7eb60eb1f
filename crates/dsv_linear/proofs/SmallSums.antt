-- Sums of products of small numbers: each sum on the way is narrow.
use Rattle.std.proofs.Common.{◌≡◌, ℕ, zero, suc, ◌+◌, ◌-◌, ◌*◌, ◌^◌, ◌<◌, ◌≤◌, if◌then◌else◌, List, [], ◌∷◌, ◌++◌, length, inl, inr, refl, sym, subst, ap, ◌∙◌, SFits, to_z, of_z, arith, add-one, add-zero, add-suc}
use Rattle.std.specs.Prelude.{Option, Some, None}
use Rattle.std.specs.Int.{w64, w128}
use Rattle.std.specs.Int.RustNames.{unsigned_abs}
use Rattle.std.proofs.Math.IntN.{ℤ, pos, negsuc, ◌+ℤ◌, ◌*ℤ◌, +ℤ_idr, +ℤ_assoc}
use Rattle.std.proofs.lemmas.Int.{unsigned_abs-mul, to_z-of_z}
use Rattle.std.proofs.lemmas.Nat.{mul-le}
use Rattle.std.proofs.lemmas.List.{get_or_past}
use Rattle.std.proofs.lemmas.Bool.{cases_lt, lt-ltb}
use Rattle.dsv_algebra.specs.Narrow.{narrow_limit, narrow_of}
use Rattle.dsv_algebra.specs.Vectors.{sum_to}
use Rattle.dsv_algebra.proofs.Sums.{sum_same}
use Rattle.dsv_netlist.proofs.Sizes.{sum_size}
use Rattle.dsv_netlist.specs.Nodes.{at}
use Rattle.dsv_linear.specs.declared.range.Range.{Range}
use Rattle.dsv_linear.specs.Forms.{entries, total, range, range_at, both, least, greatest, least_term, greatest_term, least_factor, greatest_factor}
use Rattle.dsv_linear.specs.Divisions.{extremes}
use Rattle.dsv_linear.specs.SmallNumbers.{small_limit, slight_limit, most_terms, most_product, IsSmall, IsSlight, IsMedium, IsLight, IsSmallProduct, HasRoom}
use Rattle.dsv_linear.specs.SmallSums.{IsSum, AreSums}
use Rattle.dsv_linear.proofs.Numbers.{none_times}

pub size_fits : (z : ℤ) → unsigned_abs z < 2 ^ 127 → SFits w128 z
size_fits (pos n) h = record { sfits = omega arith }
size_fits (negsuc n) h = record { sfits = omega arith }

pub small_fits : (z : ℤ) → IsSmall z → SFits w128 z
small_fits z h = size_fits z (omega arith)

pub room_fits : (z : ℤ) → HasRoom z → SFits w128 z
room_fits z h = size_fits z (omega arith)

pub short_size : (z : ℤ) → SFits w64 z → unsigned_abs z ≤ 2 ^ 63
short_size (pos n) h = omega (arith, h.sfits)
short_size (negsuc n) h = omega (arith, h.sfits)

pub product_size : (a b : ℤ) → IsSmall a → IsSmall b → unsigned_abs (a *ℤ b) ≤ most_product
product_size a b p q =
    let m : unsigned_abs a * unsigned_abs b ≤ small_limit * small_limit = mul-le (unsigned_abs a) (unsigned_abs b) small_limit small_limit (omega arith) (omega arith) in
    rw (unsigned_abs-mul a b) (omega arith)

-- and of any number of 64 bits with a slight one
pub slight_product_size : (a b : ℤ) → SFits w64 a → IsSlight b → IsSmallProduct a b
slight_product_size a b p q =
    let s : unsigned_abs a ≤ 2 ^ 63 = short_size a p in
    let m : unsigned_abs a * unsigned_abs b ≤ 2 ^ 63 * slight_limit = mul-le (unsigned_abs a) (unsigned_abs b) (2 ^ 63) slight_limit s (omega arith) in
    rw (unsigned_abs-mul a b) (omega arith)

-- and of a medium number with a light one
pub medium_product_size : (a b : ℤ) → IsMedium a → IsLight b → IsSmallProduct a b
medium_product_size a b p q =
    let m : unsigned_abs a * unsigned_abs b ≤ 2 ^ 71 * 2 ^ 39 = mul-le (unsigned_abs a) (unsigned_abs b) (2 ^ 71) (2 ^ 39) (omega arith) (omega arith) in
    rw (unsigned_abs-mul a b) (omega arith)

pub product_fits : (a b : ℤ) → IsSmallProduct a b → SFits w128 (a *ℤ b)
product_fits a b p = size_fits (a *ℤ b) (omega arith)

pub sum_fits : (sum a b : ℤ) → HasRoom sum → IsSmallProduct a b → SFits w128 (sum +ℤ a *ℤ b)
sum_fits sum a b r p = size_fits (sum +ℤ a *ℤ b) (let s = sum_size sum (a *ℤ b) (most_terms * most_product) most_product r p in omega arith)

plus_same : {a b c d : ℤ} → a ≡ b → c ≡ d → a +ℤ c ≡ b +ℤ d
plus_same e g = rw (e, g) refl

pub times_same : {a b c d : ℤ} → a ≡ b → c ≡ d → a *ℤ c ≡ b *ℤ d
times_same e g = rw (e, g) refl

-- a number of 64 bits
short_fits : (z : ℤ) → SFits w64 z → SFits w128 z
short_fits z h = let s = short_size z h in size_fits z (omega arith)

-- the sum as it is computed
pub with_product_is : (sum a b s x y : ℤ) → HasRoom sum → IsSmallProduct a b → SFits w64 a → SFits w64 b → s ≡ sum → x ≡ to_z w64 (of_z w64 a) → y ≡ to_z w64 (of_z w64 b)
    → to_z w128 (of_z w128 (to_z w128 (of_z w128 s) +ℤ to_z w128 (of_z w128 (to_z w128 (of_z w128 x) *ℤ to_z w128 (of_z w128 y))))) ≡ sum +ℤ a *ℤ b
with_product_is sum a b s x y r p fa fb h e g =
    ap (λ z. to_z w128 (of_z w128 z)) (plus_same (ap (λ z. to_z w128 (of_z w128 z)) h ∙ to_z-of_z w128 sum (room_fits sum r)) (
    ap (λ z. to_z w128 (of_z w128 z)) (times_same (ap (λ z. to_z w128 (of_z w128 z)) (e ∙ to_z-of_z w64 a fa) ∙ to_z-of_z w128 a (short_fits a fa)) (ap (λ z. to_z w128 (of_z w128 z)) (g ∙ to_z-of_z w64 b fb) ∙ to_z-of_z w128 b (short_fits b fb)))
    ∙ to_z-of_z w128 (a *ℤ b) (product_fits a b p)))
    ∙ to_z-of_z w128 (sum +ℤ a *ℤ b) (sum_fits sum a b r p)

medium_fits : (z : ℤ) → IsMedium z → SFits w128 z
medium_fits z h = size_fits z (omega arith)

pub with_medium_product_is : (sum a b s x y : ℤ) → HasRoom sum → IsMedium a → IsLight b → SFits w64 b → s ≡ sum → x ≡ a → y ≡ to_z w64 (of_z w64 b)
    → to_z w128 (of_z w128 (to_z w128 (of_z w128 s) +ℤ to_z w128 (of_z w128 (to_z w128 (of_z w128 x) *ℤ to_z w128 (of_z w128 y))))) ≡ sum +ℤ a *ℤ b
with_medium_product_is sum a b s x y r pa pb fb h e g =
    let p = medium_product_size a b pa pb in
    ap (λ z. to_z w128 (of_z w128 z)) (plus_same (ap (λ z. to_z w128 (of_z w128 z)) h ∙ to_z-of_z w128 sum (room_fits sum r)) (
    ap (λ z. to_z w128 (of_z w128 z)) (times_same (ap (λ z. to_z w128 (of_z w128 z)) e ∙ to_z-of_z w128 a (medium_fits a pa)) (ap (λ z. to_z w128 (of_z w128 z)) (g ∙ to_z-of_z w64 b fb) ∙ to_z-of_z w128 b (short_fits b fb)))
    ∙ to_z-of_z w128 (a *ℤ b) (product_fits a b p)))
    ∙ to_z-of_z w128 (sum +ℤ a *ℤ b) (sum_fits sum a b r p)

-- a product of two numbers of 64 bits
pub short_product_fits : (a b : ℤ) → SFits w64 a → SFits w64 b → SFits w128 (a *ℤ b)
short_product_fits a b p q =
    let x : unsigned_abs a ≤ 2 ^ 63 = short_size a p in
    let y : unsigned_abs b ≤ 2 ^ 63 = short_size b q in
    let m : unsigned_abs a * unsigned_abs b ≤ 2 ^ 63 * 2 ^ 63 = mul-le (unsigned_abs a) (unsigned_abs b) (2 ^ 63) (2 ^ 63) x y in
    size_fits (a *ℤ b) (rw (unsigned_abs-mul a b) (omega arith))

-- the product as it is computed
pub short_times_is : (a b x y : ℤ) → SFits w64 a → SFits w64 b → x ≡ to_z w64 (of_z w64 a) → y ≡ to_z w64 (of_z w64 b)
    → to_z w128 (of_z w128 (to_z w128 (of_z w128 x) *ℤ to_z w128 (of_z w128 y))) ≡ a *ℤ b
short_times_is a b x y p q e g =
    ap (λ z. to_z w128 (of_z w128 z)) (times_same (ap (λ z. to_z w128 (of_z w128 z)) (e ∙ to_z-of_z w64 a p) ∙ to_z-of_z w128 a (short_fits a p)) (ap (λ z. to_z w128 (of_z w128 z)) (g ∙ to_z-of_z w64 b q) ∙ to_z-of_z w128 b (short_fits b q)))
    ∙ to_z-of_z w128 (a *ℤ b) (short_product_fits a b p q)

-- ---- sums
pub narrow_same : (z : ℤ) → unsigned_abs z < narrow_limit → narrow_of z ≡ Some z
narrow_same z h = ap (λ b. if b then Some z else None) (lt-ltb (unsigned_abs z) narrow_limit h)

-- a list with one number of 64 bits more
pub entries_more : (f : ℕ → ℤ) (j : ℕ) (list now : List ℤ) (x : ℤ) → entries j f ≡ Some list → x ≡ f j → SFits w64 x → now ≡ list ++ x ∷ [] → entries (j + 1) f ≡ Some now
entries_more f j list now x h e p g =
    let s = short_size x p in
    let here : narrow_of (f j) ≡ Some x = rw (← e) (narrow_same x (omega arith)) in
    ap (λ n. entries n f) (add-one j) ∙ rw (h, here, g) refl

-- ---- sums of small products
pub sum_none : (f : ℕ → ℤ) → IsSum f 0 (pos 0)
sum_none f = record { value = refl; each = λ i p. absurd (omega arith) }

-- a sum of so many is at most as many times the greatest product
sums_size : (n : ℕ) (f : ℕ → ℤ) → ((i : ℕ) → i < n → unsigned_abs (f i) ≤ most_product) → unsigned_abs (sum_to n f) ≤ n * most_product
sums_size zero f h = omega arith
sums_size (suc n) f h =
    let s = sum_size (sum_to n f) (f n) (n * most_product) most_product (sums_size n f (λ i p. h i (omega arith))) (h n (omega arith)) in
    omega arith

pub sum_room : (f : ℕ → ℤ) (j : ℕ) (sum : ℤ) → j ≤ most_terms → IsSum f j sum → HasRoom sum
sum_room f j sum h s =
    let m : j * most_product ≤ most_terms * most_product = mul-le j most_product most_terms most_product h (omega arith) in
    let z = sums_size j f s.each in rw s.value (omega arith)

pub sum_more : (f : ℕ → ℤ) (j : ℕ) (sum now a b : ℤ) → IsSum f j sum → f j ≡ a *ℤ b → IsSmallProduct a b → now ≡ sum +ℤ a *ℤ b → IsSum f (j + 1) now
sum_more f j sum now a b s e p k = subst (λ (n : ℕ). IsSum f n now) (sym (add-one j)) (record {
  value = k ∙ plus_same s.value (sym e);
  each = λ i q. elim (cases_lt i j) [
    | inl less ↦ s.each i less
    | inr more ↦ (let same : j ≡ i = omega arith in subst (λ (n : ℕ). unsigned_abs (f n) ≤ most_product) same (rw e p))
  ];
})

-- a number that is 0 adds nothing
pub sum_same_on : (f : ℕ → ℤ) (j : ℕ) (sum : ℤ) → IsSum f j sum → f j ≡ pos 0 → IsSum f (j + 1) sum
sum_same_on f j sum s e = sum_more f j sum sum (pos 0) (pos 0) s e (omega arith) (sym (+ℤ_idr sum))

-- such a sum passes no bound on its way
totals : (n : ℕ) (f : ℕ → ℤ) → n ≤ most_terms → ((i : ℕ) → i < n → unsigned_abs (f i) ≤ most_product) → total n f ≡ Some (sum_to n f)
totals zero f l h = refl
totals (suc n) f l h =
    let m : suc n * most_product ≤ most_terms * most_product = mul-le (suc n) most_product most_terms most_product l (omega arith) in
    let s = sums_size (suc n) f h in
    let p = h n (omega arith) in
    rw (totals n f (omega arith) (λ i q. h i (omega arith)), narrow_same (f n) (omega arith)) (narrow_same (sum_to n f +ℤ f n) (omega arith))

pub sum_total : (f : ℕ → ℤ) (j : ℕ) (sum : ℤ) → j ≤ most_terms → IsSum f j sum → total j f ≡ Some sum
sum_total f j sum l s = totals j f l s.each ∙ ap (λ z. Some z) (sym s.value)

-- numbers that are 0 add nothing
pub total_longer : (f : ℕ → ℤ) (j n : ℕ) (sum : ℤ) → j ≤ n → ((i : ℕ) → j ≤ i → f i ≡ pos 0) → unsigned_abs sum < narrow_limit → total j f ≡ Some sum → total n f ≡ Some sum
total_longer f j zero sum p z s h = let e : j ≡ 0 = omega arith in subst (λ (k : ℕ). total k f ≡ Some sum) e h
total_longer f j (suc n) sum p z s h = elim (cases_lt n j) [
  | inl less ↦ (let e : j ≡ suc n = omega arith in subst (λ (k : ℕ). total k f ≡ Some sum) e h)
  | inr more ↦ rw (total_longer f j n sum more z s h, z n more, +ℤ_idr sum) (narrow_same sum s)
]

pub both_same : (l g : Option ℤ) (low high : ℤ) → l ≡ Some low → g ≡ Some high → both l g ≡ Some (range low high)
both_same l g low high e h = rw (e, h) refl

pub list_ends : (list : List ℤ) (i : ℕ) → length list ≤ i → at list i ≡ pos 0
list_ends list i h = get_or_past list i (pos 0) h

-- the sum over all coefficients, where those after the last are 0
pub long_total : (f : ℕ → ℤ) (j n : ℕ) (sum : ℤ) → j ≤ n → j ≤ most_terms → ((i : ℕ) → j ≤ i → f i ≡ pos 0) → IsSum f j sum → total n f ≡ Some sum
long_total f j n sum p l z s = total_longer f j n sum p z (let r = sum_room f j sum l s in omega arith) (sum_total f j sum l s)

-- the sums over all coefficients are the extreme sums
pub extremes_made : (ranges : List Range) (list : List ℤ) (j : ℕ) (low high : ℤ) → j ≡ length list → j ≤ most_terms → length list ≤ length ranges
    → IsSum (least_term ranges list) j low → IsSum (greatest_term ranges list) j high → extremes ranges list ≡ Some (range low high)
extremes_made ranges list j low high e h p l g =
    both_same (least ranges list) (greatest ranges list) low high
    (long_total (least_term ranges list) j (length ranges) low (omega arith) h (λ i q. ap (λ c. c *ℤ least_factor (at list i) (range_at ranges i)) (list_ends list i (omega arith)) ∙ none_times (least_factor (at list i) (range_at ranges i))) l)
    (long_total (greatest_term ranges list) j (length ranges) high (omega arith) h (λ i q. ap (λ c. c *ℤ greatest_factor (at list i) (range_at ranges i)) (list_ends list i (omega arith)) ∙ none_times (greatest_factor (at list i) (range_at ranges i))) g)

-- ---- sums in two parts
pub summed_further : (f : ℕ → ℤ) (m n : ℕ) → sum_to (m + n) f ≡ sum_to m f +ℤ sum_to n (λ i. f (m + i))
summed_further f m zero = ap (λ k. sum_to k f) (add-zero m) ∙ sym (+ℤ_idr (sum_to m f))
summed_further f m (suc n) =
    ap (λ k. sum_to k f) (add-suc m n)
    ∙ plus_same (summed_further f m n) refl
    ∙ +ℤ_assoc (sum_to m f) (sum_to n (λ i. f (m + i))) (f (m + n))

pub sum_alike : (f g : ℕ → ℤ) (n : ℕ) (sum : ℤ) → ((i : ℕ) → i < n → f i ≡ g i) → IsSum f n sum → IsSum g n sum
sum_alike f g n sum h s = record {
  value = s.value ∙ sum_same n f g h;
  each = λ i p. subst (λ (z : ℤ). unsigned_abs z ≤ most_product) (h i p) (s.each i p);
}

-- ---- the least and the greatest sum
pub sums_none : (ranges : List Range) (form : List ℤ) (from count : ℕ) → count ≡ 0 → AreSums ranges form from count (range (pos 0) (pos 0))
sums_none ranges form from count e = subst (λ (n : ℕ). AreSums ranges form from n (range (pos 0) (pos 0))) (sym e) (record {
  low = sum_none (λ i. least_term ranges form (from + i));
  high = sum_none (λ i. greatest_term ranges form (from + i));
})

-- with one term more
pub sums_more : (ranges : List Range) (form : List ℤ) (from j : ℕ) (sums now : Range) (low high : ℤ) → from ≤ j → AreSums ranges form from (j - from) sums
    → low ≡ least_factor (at form j) (range_at ranges j) → high ≡ greatest_factor (at form j) (range_at ranges j) → IsSmallProduct (at form j) low → IsSmallProduct (at form j) high
    → now.low ≡ sums.low +ℤ at form j *ℤ low → now.high ≡ sums.high +ℤ at form j *ℤ high → AreSums ranges form from (j + 1 - from) now
sums_more ranges form from j sums now low high p s e g q r k l =
    let place : j ≡ from + (j - from) = omega arith in
    let next : j - from + 1 ≡ j + 1 - from = omega arith in
    subst (λ (n : ℕ). AreSums ranges form from n now) next (record {
      low = sum_more (λ i. least_term ranges form (from + i)) (j - from) sums.low now.low (at form j) low s.low (ap (least_term ranges form) (sym place) ∙ ap (λ z. at form j *ℤ z) (sym e)) q k;
      high = sum_more (λ i. greatest_term ranges form (from + i)) (j - from) sums.high now.high (at form j) high s.high (ap (greatest_term ranges form) (sym place) ∙ ap (λ z. at form j *ℤ z) (sym g)) r l;
    })

-- with a coefficient more that is 0
pub sums_same : (ranges : List Range) (form : List ℤ) (from j : ℕ) (sums : Range) → from ≤ j → AreSums ranges form from (j - from) sums → at form j ≡ pos 0 → AreSums ranges form from (j + 1 - from) sums
sums_same ranges form from j sums p s e =
    let place : j ≡ from + (j - from) = omega arith in
    let next : j - from + 1 ≡ j + 1 - from = omega arith in
    subst (λ (n : ℕ). AreSums ranges form from n sums) next (record {
      low = sum_same_on (λ i. least_term ranges form (from + i)) (j - from) sums.low s.low (ap (least_term ranges form) (sym place) ∙ ap (λ z. z *ℤ least_factor z (range_at ranges j)) e ∙ none_times (least_factor (pos 0) (range_at ranges j)));
      high = sum_same_on (λ i. greatest_term ranges form (from + i)) (j - from) sums.high s.high (ap (greatest_term ranges form) (sym place) ∙ ap (λ z. z *ℤ greatest_factor z (range_at ranges j)) e ∙ none_times (greatest_factor (pos 0) (range_at ranges j)));
    })

pub ruleset fits = (product_fits, sum_fits)
