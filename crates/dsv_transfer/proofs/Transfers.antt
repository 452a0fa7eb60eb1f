-- The coefficients in z on signals, and the law of the transfer function.
use Rattle.std.proofs.Common.{◌≡◌, ℕ, suc, ◌+◌, ◌-◌, ◌*◌, ◌^◌, Bool, true, false, List, [], length, map, Result, Ok, Err, refl, sym, ap, ◌∙◌, arith}
use Rattle.std.proofs.Math.IntN.{ℤ, pos, ◌*ℤ◌}
use Rattle.std.proofs.lemmas.List.FromFn.{get_or-map-range_with_len, length-map-range_with_len}
use Rattle.std.specs.List.{range_with_len}
use lib.Signed.{◌≤ℤ◌}
use Rattle.dsv_algebra.specs.Vectors.{Vector, vector_of, sum_to, dot}
use Rattle.dsv_algebra.proofs.Sums.{sum_same}
use Rattle.dsv_names.specs.Realisations.{is_delta}
use Rattle.dsv_delta.specs.declared.refusal.PolyWide.{PolyWide}
use Rattle.dsv_delta.specs.ZCoefficients.{Dyadic, scaled, z_coefficient, expansion}
use Rattle.dsv_delta.proofs.Scaling.{expanded_list}
use Rattle.dsv_quantiser.specs.QuantisedView.{QuantisedView, IsQuantisedView}
use Rattle.dsv_meaning.specs.Equations.{order}
use Rattle.dsv_tested.specs.Tested.{z_list}
use Rattle.dsv_roundoff.proofs.Scaling.{grouped}
use Rattle.dsv_transfer.specs.Transfer.{RunsMeetTheTransferFunction}
use Rattle.dsv_algebra.proofs.Dots.{dot_scale}
use Rattle.dsv_transfer.proofs.Expansions.{difference, expansion_on}
use Rattle.dsv_transfer.proofs.Chains.{difference_at, delta_of}
use Rattle.dsv_transfer.proofs.Forms.{reading_of, form_meets}
use Rattle.dsv_transfer.proofs.SeenRuns.{seen}

-- ---- an expansion on a signal
-- coefficients that are a function of their place
made_on : (f : ℕ → ℤ) (n : ℕ) (cs : List ℤ) (v : Vector) → cs ≡ map f (range_with_len 0 n) → dot (length cs) (vector_of cs) v ≡ sum_to n (λ i. f i *ℤ v i)
made_on f n cs v e =
    ap (λ xs. dot (length xs) (vector_of xs) v) e
    ∙ ap (λ m. dot m (vector_of (map f (range_with_len 0 n))) v) (length-map-range_with_len f 0 n)
    ∙ sum_same n (λ i. vector_of (map f (range_with_len 0 n)) i *ℤ v i) (λ i. f i *ℤ v i) (λ i h. ap (λ z. z *ℤ v i) (get_or-map-range_with_len f 0 n i i (pos 0) h (omega arith)))

scaled_on : (d : Dyadic) (n : ℕ) (w v : Vector) → sum_to (suc n) (λ i. z_coefficient n (scaled d n w) i *ℤ v i) ≡ dot (suc n) w (λ j. difference_at d n j v)
scaled_on d n w v =
    let e = scaled d n w in
    sum_same (suc n) (λ i. z_coefficient n e i *ℤ v i) (λ i. z_coefficient n e i *ℤ v (0 + i)) (λ i h. let s : i ≡ 0 + i = omega arith in ap (λ k. z_coefficient n e i *ℤ v k) s)
    ∙ expansion_on n e v 0
    ∙ sum_same (suc n) (λ j. e j *ℤ difference (n - j) v (0 + j)) (λ j. w j *ℤ difference_at d n j v) (λ j h.
    let s : 0 + j ≡ j = omega arith in
    ap (λ k. e j *ℤ difference (n - j) v k) s ∙ grouped (w j) (pos (d.numerator ^ j * d.denominator ^ (n - j))) (difference (n - j) v j))

z_case : (b : Bool) (q : QuantisedView) (ws cs : List ℤ) (v : Vector) → is_delta q.realisation ≡ b → z_list q ws ≡ Ok cs → length ws ≡ suc (order q)
    → dot (length cs) (vector_of cs) v ≡ dot (suc (order q)) (vector_of ws) (λ j. reading_of b q j v)
z_case true q ws cs v is e many =
    let n = order q in
    let d = delta_of q in
    let made : expansion d ws ≡ Ok cs = rw is at e in
    let less : length ws - 1 ≡ n = omega arith in
    let items_n : cs ≡ map (z_coefficient n (scaled d n (vector_of ws))) (range_with_len 0 (suc n)) =
    expanded_list d ws cs made ∙ ap (λ m. map (z_coefficient m (scaled d m (vector_of ws))) (range_with_len 0 (length ws))) less ∙ ap (λ m. map (z_coefficient n (scaled d n (vector_of ws))) (range_with_len 0 m)) many in
    made_on (z_coefficient n (scaled d n (vector_of ws))) (suc n) cs v items_n ∙ scaled_on d n (vector_of ws) v
z_case false q ws cs v is e many =
    let made : Ok ws ≡ Ok cs = rw is at e in
    let same : cs ≡ ws = cc in
    ap (λ xs. dot (length xs) (vector_of xs) v) same ∙ ap (λ m. dot m (vector_of ws) v) many

-- ---- the law
positive_delta : (q : QuantisedView) → IsQuantisedView q → is_delta q.realisation ≡ true → pos 1 ≤ℤ q.delta
positive_delta q h is = let delta = rw is at h.delta in delta.0

pub runs_meet : RunsMeetTheTransferFunction
runs_meet q is b a made_b made_a start many d xs ys h n enough l =
    let some = is.some in
    let long_a : length q.a ≡ suc (order q) = omega arith in
    let long_b : length q.b ≡ suc (order q) = is.one_length ∙ long_a in
    let X : Vector = λ t. d *ℤ vector_of xs (n - t) in
    let Y : Vector = λ t. vector_of ys (n - t) in
    let meets = form_meets q.realisation q X Y is (positive_delta q is) (seen q d start xs ys n is many h (omega arith) l) in
    z_case (is_delta q.realisation) q q.a a Y refl made_a long_a
    ∙ meets
    ∙ sym (z_case (is_delta q.realisation) q q.b b X refl made_b long_b)
    ∙ sym (dot_scale (length b) (vector_of b) d (λ t. vector_of xs (n - t)))
