-- What runs in the loop obeys the recursion of its polynomial, and each solution of the recursion runs in it.
use Rattle.std.proofs.Common.{◌≡◌, ℕ, ◌+◌, ◌-◌, ◌<◌, ◌≤◌, List, [], length, refl, sym, ap, ◌∙◌, arith, All}
use Rattle.std.proofs.Math.IntN.{ℤ, pos, ◌+ℤ◌, neg_ℤ}
use Rattle.std.proofs.lemmas.Int.{ints}
use Rattle.std.proofs.lemmas.List.{length-map}
use Rattle.std.specs.Int.{int_div_euclid}
use Rattle.std.specs.Prelude.{Result, Ok, Err}
use Rattle.dsv_text.specs.Stages.{◌>>=◌}
use Rattle.dsv_fraction.specs.Ratio.{Ratio}
use Rattle.dsv_algebra.specs.Vectors.{Vector}
use Rattle.dsv_quantiser.specs.QuantisedView.{QuantisedView, IsQuantisedView}
use Rattle.dsv_reader.specs.Plants.{PlantView, IsPlant}
use Rattle.dsv_tested.specs.Tested.{with_positive_lead}
use Rattle.dsv_tested.proofs.TestedCoefficients.{length-positive}
use Rattle.dsv_loop.specs.declared.refusal.LoopRefusal.{LoopRefusal}
use Rattle.dsv_loop.specs.Loops.{TransferView, product, controller_transfer, plant_transfer, loop_coefficients, factor_with, without_common_factor, loop_polynomial_of, loop_test, loop_of}
use Rattle.dsv_loop.specs.Recursion.{filtered, AreInLoop, Obeys, SolutionsAreInLoop}
use Rattle.dsv_loop.proofs.Signals.{length-product, length-sums, filtered-same, filtered-neg, filtered-swap, filtered-product, filtered-sums}
use Rattle.dsv_loop.proofs.Sides.{IsProper, controller_proper, plant_proper}
use Rattle.dsv_loop.proofs.Scales.{nought_of_multiple, multiple_of_nought, factor_multiple, positive_multiple}

-- ---- the loop's coefficients
pub length-coefficients : (c p : TransferView) → length (loop_coefficients c p) ≡ length c.a + length p.a - 1
length-coefficients c p = length-sums (product c.a p.a) (product c.b p.b) ∙ length-product c.a p.a

-- what they make of a signal: both products of it
both_products : (c p : TransferView) (x : Vector) (t : ℕ) → IsProper c → IsProper p
    → filtered (loop_coefficients c p) x t ≡ filtered c.a (filtered p.a x) t +ℤ filtered c.b (filtered p.b x) t
both_products c p x t is_c is_p =
    let a = length-product c.a p.a in
    let b = length-product c.b p.b in
    let one : length (product c.b p.b) ≡ length (product c.a p.a) = omega (arith, is_c.one_length, is_p.one_length) in
    filtered-sums (product c.a p.a) (product c.b p.b) x t one
    ∙ rw (filtered-product c.a p.a x t is_p.some, filtered-product c.b p.b x t (omega (arith, is_p.some, is_p.one_length))) refl

opposites : (x y : ℤ) → x ≡ neg_ℤ y → x +ℤ y ≡ pos 0
opposites x y e = omega (arith, ints)

opposite : (x y : ℤ) → x +ℤ y ≡ pos 0 → x ≡ neg_ℤ y
opposite x y e = omega (arith, ints)

output_obeys : (c p : TransferView) (y u : Vector) (n t : ℕ) → IsProper c → IsProper p → AreInLoop c p y u n → t + length (loop_coefficients c p) ≤ n → Obeys (loop_coefficients c p) y t
output_obeys c p y u n t is_c is_p h few =
    let long = length-coefficients c p in
    let some_c = is_c.some in
    let some_p = is_p.some in
    let one = is_p.one_length in
    both_products c p y t is_c is_p
    ∙ opposites (filtered c.a (filtered p.a y) t) (filtered c.b (filtered p.b y) t) (
    filtered-same c.a (filtered p.a y) (filtered p.b u) t (λ i q. h.plant (t + i) (omega arith))
    ∙ filtered-swap c.a p.b u t
    ∙ filtered-same p.b (filtered c.a u) (filtered c.b (λ i. neg_ℤ (y i))) t (λ i q. h.controller (t + i) (omega arith))
    ∙ filtered-swap p.b c.b (λ i. neg_ℤ (y i)) t
    ∙ filtered-same c.b (filtered p.b (λ i. neg_ℤ (y i))) (λ i. neg_ℤ (filtered p.b y i)) t (λ i q. filtered-neg p.b y (t + i))
    ∙ filtered-neg c.b (filtered p.b y) t)

input_obeys : (c p : TransferView) (y u : Vector) (n t : ℕ) → IsProper c → IsProper p → AreInLoop c p y u n → t + length (loop_coefficients c p) ≤ n → Obeys (loop_coefficients c p) u t
input_obeys c p y u n t is_c is_p h few =
    let long = length-coefficients c p in
    let some_c = is_c.some in
    let some_p = is_p.some in
    let one = is_c.one_length in
    both_products c p u t is_c is_p
    ∙ opposites (filtered c.a (filtered p.a u) t) (filtered c.b (filtered p.b u) t) (
    filtered-swap c.a p.a u t
    ∙ filtered-same p.a (filtered c.a u) (filtered c.b (λ i. neg_ℤ (y i))) t (λ i q. h.controller (t + i) (omega arith))
    ∙ filtered-same p.a (filtered c.b (λ i. neg_ℤ (y i))) (λ i. neg_ℤ (filtered c.b y i)) t (λ i q. filtered-neg c.b y (t + i))
    ∙ filtered-neg p.a (filtered c.b y) t
    ∙ ap neg_ℤ (filtered-swap p.a c.b y t ∙ filtered-same c.b (filtered p.a y) (filtered p.b u) t (λ i q. h.plant (t + i) (omega arith))))

-- ---- their polynomial
pub polynomial_obeys : (c p : TransferView) (x : Vector) (t : ℕ) → Obeys (loop_coefficients c p) x t → Obeys (loop_polynomial_of c p) x t
polynomial_obeys c p x t h =
    let ls = loop_coefficients c p in
    let ds = without_common_factor ls in
    nought_of_multiple ds (with_positive_lead ds) x t (positive_multiple ds) (nought_of_multiple ls ds x t (factor_multiple ls) h)

coefficients_obey : (c p : TransferView) (x : Vector) (t : ℕ) → Obeys (loop_polynomial_of c p) x t → Obeys (loop_coefficients c p) x t
coefficients_obey c p x t h =
    let ls = loop_coefficients c p in
    let ds = without_common_factor ls in
    multiple_of_nought ls ds x t (factor_multiple ls) (multiple_of_nought ds (with_positive_lead ds) x t (positive_multiple ds) h)

pub length-polynomial : (c p : TransferView) → length (loop_polynomial_of c p) ≡ length (loop_coefficients c p)
length-polynomial c p =
    let ls = loop_coefficients c p in
    length-positive (without_common_factor ls) ∙ length-map ls (λ c. int_div_euclid c (pos (factor_with 0 ls)))

-- ---- the law
ok_only : (r : Result (Unit {0}) LoopRefusal) (ds cs : List ℤ) → (r >>= λ u. Ok ds) ≡ Ok cs → ds ≡ cs
ok_only (Ok u) ds cs e = ap items_of e where
  items_of : Result (List ℤ) LoopRefusal → List ℤ
  items_of (Ok xs) = xs
  items_of (Err r) = []
ok_only (Err r) ds cs e = absurd (cc)

polynomial_is : (qs : List QuantisedView) (time : Ratio) (p : PlantView) (cs : List ℤ) → loop_of qs time p ≡ Ok cs → loop_polynomial_of (controller_transfer qs) (plant_transfer p) ≡ cs
polynomial_is qs time p cs e = ok_only (loop_test qs time p) (loop_polynomial_of (controller_transfer qs) (plant_transfer p)) cs e

pub loop_is : (qs : List QuantisedView) (time : Ratio) (p : PlantView) (cs : List ℤ) → loop_test qs time p ≡ Ok tt → cs ≡ loop_polynomial_of (controller_transfer qs) (plant_transfer p)
    → loop_of qs time p ≡ Ok cs
loop_is qs time p cs passed e = rw (passed, e) refl

pub loop_obeys : (qs : List QuantisedView) (time : Ratio) (p : PlantView) (cs : List ℤ) → All IsQuantisedView qs → IsPlant p → loop_of qs time p ≡ Ok cs →
    (y u : Vector) (n : ℕ) → AreInLoop (controller_transfer qs) (plant_transfer p) y u n → (t : ℕ) → t + length cs ≤ n → Obeys cs y t × Obeys cs u t
loop_obeys qs time p cs is_qs is_p e y u n h t few =
    let c = controller_transfer qs in
    let w = plant_transfer p in
    let is_c = controller_proper qs is_qs in
    let is_w = plant_proper p is_p in
    let long = ap length (polynomial_is qs time p cs e) in
    let same = length-polynomial c w in
    let enough : t + length (loop_coefficients c w) ≤ n = omega arith in
    rw (← polynomial_is qs time p cs e)
    (polynomial_obeys c w y t (output_obeys c w y u n t is_c is_w h enough), polynomial_obeys c w u t (input_obeys c w y u n t is_c is_w h enough))

solutions : (c p : TransferView) → IsProper c → IsProper p → SolutionsAreInLoop c p (loop_polynomial_of c p)
solutions c p is_c is_p v n h =
    let both : (t : ℕ) → t < n → filtered c.a (filtered p.a v) t +ℤ filtered c.b (filtered p.b v) t ≡ pos 0 = λ t l.
    sym (both_products c p v t is_c is_p) ∙ coefficients_obey c p v t (h t l) in
    record {
      controller = λ t l. opposite (filtered c.a (filtered p.a v) t) (filtered c.b (filtered p.b v) t) (both t l) ∙ sym (filtered-neg c.b (filtered p.b v) t);
      plant = λ t l. filtered-swap p.a p.b v t;
    }

pub loop_solves : (qs : List QuantisedView) (time : Ratio) (p : PlantView) (cs : List ℤ) → All IsQuantisedView qs → IsPlant p → loop_of qs time p ≡ Ok cs →
    SolutionsAreInLoop (controller_transfer qs) (plant_transfer p) cs
loop_solves qs time p cs is_qs is_p e =
    rw (← polynomial_is qs time p cs e) (solutions (controller_transfer qs) (plant_transfer p) (controller_proper qs is_qs) (plant_proper p is_p))
