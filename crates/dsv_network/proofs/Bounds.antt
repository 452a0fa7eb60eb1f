-- What weights and ranges bound.
use Rattle.std.proofs.Common.{◌≡◌, ℕ, zero, suc, ◌+◌, ◌-◌, ◌*◌, ◌<◌, Bool, true, false, if◌then◌else◌, List, [], ◌∷◌, length, drop, refl, sym, ap, ◌∙◌, arith}
use Rattle.std.specs.Prelude.{Some, int_lt}
use Rattle.std.proofs.Math.IntN.{ℤ, pos, ◌+ℤ◌, ◌*ℤ◌}
use Rattle.std.proofs.lemmas.Int.{ints}
use lib.Signed.{◌<ℤ◌, ◌≤ℤ◌}
use Rattle.dsv_algebra.proofs.Normaliser.{ring, env, var, num, plus, times}
use Rattle.dsv_algebra.proofs.Sums.{sum_add, sum_scale}
use Rattle.dsv_algebra.specs.Narrow.{narrow_of}
use Rattle.dsv_algebra.specs.Vectors.{sum_to}
use Rattle.dsv_netlist.specs.Nodes.{at}
use Rattle.dsv_linear.specs.Facts.{Between}
use Rattle.dsv_linear.specs.declared.range.Range.{Range}
use Rattle.dsv_linear.specs.Forms.{◌>>=◌, scale, range_scale, range_at, lower, upper, factor_term, factor_sum}
use Rattle.dsv_linear.specs.Meaning.{LiesIn}
use Rattle.dsv_linear.proofs.Numbers.{some_of, narrow_is, times_up, times_down, times_back, sum_le}
use Rattle.dsv_linear.proofs.Meanings.{total_is}
use Rattle.dsv_linear.proofs.Roundings.{both_are, lower_is, upper_is, full_scale_positive, full_scale_is, not_above, not_below, rescaled}
use Rattle.dsv_network.specs.declared.weights.Part.TheVariants.{Positive, Negative}
use Rattle.dsv_linear.specs.declared.range.Factor.{Factor}
use Rattle.dsv_linear.specs.declared.range.Factor.TheVariants.{Low, High}
use Rattle.dsv_network.specs.declared.weights.Weights.{Weights}
use Rattle.dsv_network.specs.Samples.{part_of, least_sum, greatest_sum, weight_sums, after_first, whole_range, outer_range}
use Rattle.dsv_linear.proofs.Rests.{factor_sum-drop}

abbrev pub positive_part : ℤ → ℤ
positive_part v = part_of Positive 0 v

abbrev pub negative_part : ℤ → ℤ
negative_part v = part_of Negative 0 v

-- ---- one symbol
-- over the denominator k: v is between the sums of these weights, each times an end of the range
pub record Spans (k : ℤ) (r : Range) (p n v : ℤ) : Type 0 where
  pub least : (k *ℤ (p *ℤ r.low +ℤ n *ℤ r.high)) ≤ℤ (pos range_scale *ℤ v)
  pub most : (pos range_scale *ℤ v) ≤ℤ (k *ℤ (p *ℤ r.high +ℤ n *ℤ r.low))

pub turned : (c s v : ℤ) → s *ℤ (c *ℤ v) ≡ c *ℤ (s *ℤ v)
turned c s v = ring (env (c ∷ s ∷ v ∷ [])) (times (var 1) (times (var 0) (var 2))) (times (var 0) (times (var 1) (var 2))) refl

first_alone : (k c x y : ℤ) → k *ℤ (c *ℤ x +ℤ pos 0 *ℤ y) ≡ c *ℤ (k *ℤ x)
first_alone k c x y = ring (env (k ∷ c ∷ x ∷ y ∷ [])) (times (var 0) (plus (times (var 1) (var 2)) (times (num (pos 0)) (var 3)))) (times (var 1) (times (var 0) (var 2))) refl

second_alone : (k c x y : ℤ) → k *ℤ (pos 0 *ℤ x +ℤ c *ℤ y) ≡ c *ℤ (k *ℤ y)
second_alone k c x y = ring (env (k ∷ c ∷ x ∷ y ∷ [])) (times (var 0) (plus (times (num (pos 0)) (var 2)) (times (var 1) (var 3)))) (times (var 1) (times (var 0) (var 3))) refl

spans_up : (k : ℤ) (r : Range) (c u : ℤ) → pos 0 ≤ℤ c → LiesIn k r u → Spans k r c (pos 0) (c *ℤ u)
spans_up k r c u p l = record {
  least = rw (first_alone k c r.low r.high, turned c (pos range_scale) u) (times_up c (k *ℤ r.low) (pos range_scale *ℤ u) p l.least);
  most = rw (first_alone k c r.high r.low, turned c (pos range_scale) u) (times_up c (pos range_scale *ℤ u) (k *ℤ r.high) p l.most);
}

spans_down : (k : ℤ) (r : Range) (c u : ℤ) → c ≤ℤ pos 0 → LiesIn k r u → Spans k r (pos 0) c (c *ℤ u)
spans_down k r c u p l = record {
  least = rw (second_alone k c r.low r.high, turned c (pos range_scale) u) (times_down c (pos range_scale *ℤ u) (k *ℤ r.high) p l.most);
  most = rw (second_alone k c r.high r.low, turned c (pos range_scale) u) (times_down c (k *ℤ r.low) (pos range_scale *ℤ u) p l.least);
}

spans_cases : (b : Bool) (k : ℤ) (r : Range) (c u : ℤ) → int_lt c (pos 0) ≡ b → LiesIn k r u → Spans k r (if b then pos 0 else c) (if b then c else pos 0) (c *ℤ u)
spans_cases true k r c u e l = spans_down k r c u (omega (arith, ints)) l
spans_cases false k r c u e l = spans_up k r c u (omega (arith, ints)) l

pub spans_one : (k : ℤ) (r : Range) (c u : ℤ) → LiesIn k r u → Spans k r (positive_part c) (negative_part c) (c *ℤ u)
spans_one k r c u l = spans_cases (int_lt c (pos 0)) k r c u refl l

no_weight : (k x y : ℤ) → k *ℤ (pos 0 *ℤ x +ℤ pos 0 *ℤ y) ≡ pos 0
no_weight k x y = ring (env (k ∷ x ∷ y ∷ [])) (times (var 0) (plus (times (num (pos 0)) (var 1)) (times (num (pos 0)) (var 2)))) (num (pos 0)) refl

no_term : (t u : ℤ) → t *ℤ (pos 0 *ℤ u) ≡ pos 0
no_term t u = ring (env (t ∷ u ∷ [])) (times (var 0) (times (num (pos 0)) (var 1))) (num (pos 0)) refl

no_value : (t : ℤ) → t *ℤ pos 0 ≡ pos 0
no_value t = ring (env (t ∷ [])) (times (var 0) (num (pos 0))) (num (pos 0)) refl

-- a symbol with no coefficient
pub spans_none : (k : ℤ) (r : Range) (c u : ℤ) → c ≡ pos 0 → Spans k r (positive_part c) (negative_part c) (c *ℤ u)
spans_none k r c u e = rw e (record { least = rw (no_weight k r.low r.high, no_term (pos range_scale) u) (omega (arith, ints)); most = rw (no_weight k r.high r.low, no_term (pos range_scale) u) (omega (arith, ints)) })

-- ---- the samples of one symbol
spread : (k p n q o x y : ℤ) → k *ℤ ((p +ℤ q) *ℤ x +ℤ (n +ℤ o) *ℤ y) ≡ k *ℤ (p *ℤ x +ℤ n *ℤ y) +ℤ k *ℤ (q *ℤ x +ℤ o *ℤ y)
spread k p n q o x y =
    ring (env (k ∷ p ∷ n ∷ q ∷ o ∷ x ∷ y ∷ [])) (times (var 0) (plus (times (plus (var 1) (var 3)) (var 5)) (times (plus (var 2) (var 4)) (var 6))))
    (plus (times (var 0) (plus (times (var 1) (var 5)) (times (var 2) (var 6)))) (times (var 0) (plus (times (var 3) (var 5)) (times (var 4) (var 6))))) refl

spread_value : (t v w : ℤ) → t *ℤ (v +ℤ w) ≡ t *ℤ v +ℤ t *ℤ w
spread_value t v w = ring (env (t ∷ v ∷ w ∷ [])) (times (var 0) (plus (var 1) (var 2))) (plus (times (var 0) (var 1)) (times (var 0) (var 2))) refl

pub spans_add : (k : ℤ) (r : Range) (p n v q o w : ℤ) → Spans k r p n v → Spans k r q o w → Spans k r (p +ℤ q) (n +ℤ o) (v +ℤ w)
spans_add k r p n v q o w a b = record {
  least = rw (spread k p n q o r.low r.high, spread_value (pos range_scale) v w) (let x = a.least in let y = b.least in omega (arith, ints));
  most = rw (spread k p n q o r.high r.low, spread_value (pos range_scale) v w) (let x = a.most in let y = b.most in omega (arith, ints));
}

pub spans_all : (n : ℕ) (k : ℤ) (r : Range) (p q v : ℕ → ℤ) → ((a : ℕ) → a < n → Spans k r (p a) (q a) (v a)) → Spans k r (sum_to n p) (sum_to n q) (sum_to n v)
spans_all zero k r p q v h = record { least = rw (no_weight k r.low r.high, no_value (pos range_scale)) (omega (arith, ints)); most = rw (no_weight k r.high r.low, no_value (pos range_scale)) (omega (arith, ints)) }
spans_all (suc n) k r p q v h = spans_add k r (sum_to n p) (sum_to n q) (sum_to n v) (p n) (q n) (v n) (spans_all n k r p q v (λ a l. h a (omega arith))) (h n (omega arith))

-- ---- all symbols
factor_sum_is : (f : Factor) (off : ℕ) (ranges : List Range) (form : List ℤ) (z : ℤ) → factor_sum f (drop off ranges) (drop off form) ≡ Some z
    → z ≡ sum_to (length ranges - off) (λ i. factor_term f ranges form (off + i))
factor_sum_is f off ranges form z e = total_is (length ranges - off) (λ i. factor_term f ranges form (off + i)) z (sym (factor_sum-drop f off ranges form) ∙ e)

-- the value of each symbol lies between its weights
abbrev pub AreSpanned : ℤ → ℕ → List Range → Weights → (ℕ → ℤ) → Type 0
AreSpanned k off ranges w v = (i : ℕ) → i < length ranges - off → Spans k (range_at ranges (off + i)) (at w.positive (off + i)) (at w.negative (off + i)) (v i)

-- both sums of the weights
pub record AreSums (k : ℤ) (sums : Range) (v : ℤ) : Type 0 where
  pub least : (k *ℤ sums.low) ≤ℤ (pos range_scale *ℤ v)
  pub most : (pos range_scale *ℤ v) ≤ℤ (k *ℤ sums.high)

both_sums : (n : ℕ) (k : ℤ) (f g : ℕ → ℤ) (a b z : ℤ) → a ≡ sum_to n f → b ≡ sum_to n g → z ≡ a +ℤ b → k *ℤ z ≡ sum_to n (λ i. k *ℤ (f i +ℤ g i))
both_sums n k f g a b z p q r = ap (λ x. k *ℤ x) (r ∙ rw (p, q) (sym (sum_add n f g))) ∙ sym (sum_scale n k (λ i. f i +ℤ g i))

pub sums_bound : (k : ℤ) (off : ℕ) (ranges : List Range) (w : Weights) (v : ℕ → ℤ) (sums : Range) → AreSpanned k off ranges w v → weight_sums (drop off ranges) (after_first off w) ≡ Some sums
    → AreSums k sums (sum_to (length ranges - off) v)
sums_bound k off ranges w v sums h e =
    let n = length ranges - off in
    let t = pos range_scale in
    let term : Factor → List ℤ → ℕ → ℤ = λ f form i. factor_term f ranges form (off + i) in
    let b = both_are (least_sum (drop off ranges) (after_first off w)) (greatest_sum (drop off ranges) (after_first off w)) sums e in
    let one = some_of (factor_sum Low (drop off ranges) (drop off w.positive)) (λ x. factor_sum High (drop off ranges) (drop off w.negative) >>= λ y. narrow_of (x +ℤ y)) sums.low b.low_is in
    let two = some_of (factor_sum High (drop off ranges) (drop off w.negative)) (λ y. narrow_of (one.0 +ℤ y)) sums.low one.2 in
    let three = some_of (factor_sum High (drop off ranges) (drop off w.positive)) (λ x. factor_sum Low (drop off ranges) (drop off w.negative) >>= λ y. narrow_of (x +ℤ y)) sums.high b.high_is in
    let four = some_of (factor_sum Low (drop off ranges) (drop off w.negative)) (λ y. narrow_of (three.0 +ℤ y)) sums.high three.2 in
    let low = both_sums n k (term Low w.positive) (term High w.negative) one.0 two.0 sums.low (factor_sum_is Low off ranges w.positive one.0 one.1) (factor_sum_is High off ranges w.negative two.0 two.1) (narrow_is (one.0 +ℤ two.0) sums.low two.2) in
    let high = both_sums n k (term High w.positive) (term Low w.negative) three.0 four.0 sums.high (factor_sum_is High off ranges w.positive three.0 three.1) (factor_sum_is Low off ranges w.negative four.0 four.1) (narrow_is (three.0 +ℤ four.0) sums.high four.2) in
    record {
      least = rw (low, ← sum_scale n t v) (sum_le n (λ i. k *ℤ (term Low w.positive i +ℤ term High w.negative i)) (λ i. t *ℤ v i) (λ i p. (h i p).least));
      most = rw (high, ← sum_scale n t v) (sum_le n (λ i. t *ℤ v i) (λ i. k *ℤ (term High w.positive i +ℤ term Low w.negative i)) (λ i p. (h i p).most));
    }

-- ---- a value

-- a value whose multiple is between both sums lies in their range
pub value_between : (k : ℤ) (sums ends : Range) (v all : ℤ) → pos 0 <ℤ k → AreSums k sums all → pos scale *ℤ k *ℤ v ≡ all → whole_range sums ≡ Some ends → Between ends.low ends.high v
value_between k sums ends v all p a m e =
    let full = scale * range_scale in
    let b = both_are (upper sums.low full) (lower sums.high full) ends e in
    let up = upper_is sums.low full ends.low full_scale_positive b.low_is in
    let down = lower_is sums.high full ends.high full_scale_positive b.high_is in
    let same : pos range_scale *ℤ all ≡ k *ℤ (v *ℤ pos full) =
    ap (λ z. pos range_scale *ℤ z) (sym m) ∙ rescaled (pos scale) (pos range_scale) k v ∙ ap (λ z. k *ℤ (v *ℤ z)) (sym full_scale_is) in
    let x : sums.low ≤ℤ (v *ℤ pos full) = times_back k sums.low (v *ℤ pos full) p (rw same at a.least) in
    let y : (v *ℤ pos full) ≤ℤ sums.high = times_back k (v *ℤ pos full) sums.high p (rw same at a.most) in
    let positive : pos 0 <ℤ pos full = let q = full_scale_positive in omega (arith, ints) in
    record { least = not_above ends.low v (pos full) sums.low positive x up.below; most = not_below ends.high v (pos full) sums.high positive y down.above }

both_scaled : (o x full : ℤ) → o *ℤ (x *ℤ full) ≡ full *ℤ (o *ℤ x)
both_scaled o x full = ring (env (o ∷ x ∷ full ∷ [])) (times (var 0) (times (var 1) (var 2))) (times (var 2) (times (var 0) (var 1))) refl

moved : (k o x : ℤ) → k *ℤ o *ℤ x ≡ k *ℤ (o *ℤ x)
moved k o x = ring (env (k ∷ o ∷ x ∷ [])) (times (times (var 0) (var 1)) (var 2)) (times (var 0) (times (var 1) (var 2))) refl

swapped : (x y : ℤ) → x *ℤ y ≡ y *ℤ x
swapped x y = ring (env (x ∷ y ∷ [])) (times (var 0) (var 1)) (times (var 1) (var 0)) refl

-- the same of a fraction, by the range that is rounded outward
pub fraction_between : (k base over : ℤ) (sums ends : Range) (v all : ℤ) → pos 0 <ℤ k → pos 0 <ℤ over → base ≡ k *ℤ over → AreSums base sums all → pos scale *ℤ k *ℤ v ≡ all → outer_range sums ≡ Some ends
    → Between (over *ℤ ends.low) (over *ℤ ends.high) v
fraction_between k base over sums ends v all p o w a m e =
    let full = scale * range_scale in
    let b = both_are (lower sums.low full) (upper sums.high full) ends e in
    let down = lower_is sums.low full ends.low full_scale_positive b.low_is in
    let up = upper_is sums.high full ends.high full_scale_positive b.high_is in
    let same : pos range_scale *ℤ all ≡ k *ℤ (v *ℤ pos full) =
    ap (λ z. pos range_scale *ℤ z) (sym m) ∙ rescaled (pos scale) (pos range_scale) k v ∙ ap (λ z. k *ℤ (v *ℤ z)) (sym full_scale_is) in
    let low_moved : base *ℤ sums.low ≡ k *ℤ (over *ℤ sums.low) = ap (λ z. z *ℤ sums.low) w ∙ moved k over sums.low in
    let high_moved : base *ℤ sums.high ≡ k *ℤ (over *ℤ sums.high) = ap (λ z. z *ℤ sums.high) w ∙ moved k over sums.high in
    let x : (over *ℤ sums.low) ≤ℤ (v *ℤ pos full) = times_back k (over *ℤ sums.low) (v *ℤ pos full) p (rw (low_moved, same) at a.least) in
    let y : (v *ℤ pos full) ≤ℤ (over *ℤ sums.high) = times_back k (v *ℤ pos full) (over *ℤ sums.high) p (rw (high_moved, same) at a.most) in
    let positive : pos 0 <ℤ pos full = let q = full_scale_positive in omega (arith, ints) in
    let o_up : pos 0 ≤ℤ over = omega (arith, ints, o) in
    let l = rw (both_scaled over ends.low (pos full)) at (times_up over (ends.low *ℤ pos full) sums.low o_up down.below) in
    let h = rw (both_scaled over ends.high (pos full)) at (times_up over sums.high (ends.high *ℤ pos full) o_up up.above) in
    let turn = swapped v (pos full) in
    record {
      least = times_back (pos full) (over *ℤ ends.low) v positive (omega (arith, ints, l, x, turn));
      most = times_back (pos full) v (over *ℤ ends.high) positive (omega (arith, ints, h, y, turn));
    }
