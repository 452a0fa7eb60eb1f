-- Sums of a form's terms after the first ones.
use Rattle.std.proofs.Common.{◌≡◌, ℕ, zero, suc, ◌+◌, ◌-◌, ◌<◌, ◌≤◌, List, length, drop, refl, sym, subst, ap, ◌∙◌, arith, zero-add}
use Rattle.std.specs.Prelude.{Option, Some, None, IfSome}
use Rattle.std.proofs.Math.IntN.{ℤ, pos}
use Rattle.std.proofs.lemmas.List.{get_or-drop, length-drop}
use Rattle.dsv_linear.specs.declared.range.Range.{Range}
use Rattle.dsv_linear.specs.declared.range.Factor.{Factor}
use Rattle.dsv_linear.specs.Forms.{total, range, least_term, greatest_term, factor_term, factor_sum}
use Rattle.dsv_linear.specs.Divisions.{extremes}
use Rattle.dsv_linear.specs.SmallNumbers.{most_terms}
use Rattle.dsv_linear.specs.SmallSums.{IsSum, AreSums}
use Rattle.dsv_linear.proofs.SmallSums.{sum_alike, extremes_made}

pub total_same : (n : ℕ) (f g : ℕ → ℤ) → ((j : ℕ) → j < n → f j ≡ g j) → total n f ≡ total n g
total_same zero f g h = refl
total_same (suc n) f g h = rw (total_same n f g (λ j p. h j (omega arith)), h n (omega arith)) refl

pub total_none : (f : ℕ → ℤ) (n : ℕ) (sum : ℤ) → n ≡ 0 → sum ≡ pos 0 → total n f ≡ Some sum
total_none f n sum e h = ap (λ k. total k f) e ∙ ap (λ z. Some z) (sym h)

-- ---- the terms after the first k
pub factor_term-drop : (f : Factor) (k : ℕ) (ranges : List Range) (form : List ℤ) (i : ℕ) → factor_term f (drop k ranges) (drop k form) i ≡ factor_term f ranges form (k + i)
factor_term-drop f k ranges form i = rw (get_or-drop k ranges i (range (pos 0) (pos 0)), get_or-drop k form i (pos 0)) refl

pub factor_sum-drop : (f : Factor) (k : ℕ) (ranges : List Range) (form : List ℤ) → factor_sum f (drop k ranges) (drop k form) ≡ total (length ranges - k) (λ i. factor_term f ranges form (k + i))
factor_sum-drop f k ranges form =
    ap (λ n. total n (factor_term f (drop k ranges) (drop k form))) (length-drop k ranges)
    ∙ total_same (length ranges - k) (factor_term f (drop k ranges) (drop k form)) (λ i. factor_term f ranges form (k + i)) (λ j p. factor_term-drop f k ranges form j)

-- ---- sums from the first place on
first_place : (t : ℕ → ℤ) (n : ℕ) (sum : ℤ) → IsSum (λ i. t (0 + i)) (n - 0) sum → IsSum t n sum
first_place t n sum s =
    let same : n - 0 ≡ n = omega arith in
    sum_alike (λ i. t (0 + i)) t n sum (λ i p. ap t (zero-add i)) (subst (λ (k : ℕ). IsSum (λ i. t (0 + i)) k sum) same s)

whole_made : (ranges : List Range) (list : List ℤ) (sums : Range) → length list ≤ most_terms → length list ≤ length ranges
    → AreSums ranges list 0 (length list - 0) sums → extremes ranges list ≡ Some sums
whole_made ranges list sums l p s =
    extremes_made ranges list (length list) sums.low sums.high refl l p (first_place (least_term ranges list) (length list) sums.low s.low) (first_place (greatest_term ranges list) (length list) sums.high s.high)

pub whole_answer : (ranges : List Range) (list : List ℤ) (o : Option Range) → length list ≤ most_terms → length list ≤ length ranges
    → IfSome o (AreSums ranges list 0 (length list - 0)) → IfSome o (λ sums. extremes ranges list ≡ Some sums)
whole_answer ranges list None l p s = tt
whole_answer ranges list (Some sums) l p s = whole_made ranges list sums l p s
