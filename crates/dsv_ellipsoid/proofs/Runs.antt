-- Runs of the direct form I stay in the ellipsoid, so nothing breaks.
use Rattle.std.proofs.Common.{◌≡◌, ℕ, zero, suc, Bool, true, false, ◌+◌, ◌-◌, ◌*◌, ◌<◌, ◌≤◌, List, [], ◌∷◌, ◌++◌, map, length, take, drop, get_or, refl, sym, ap, subst, ◌∙◌, arith, append_assoc}
use Rattle.std.specs.Prelude.{replicate, reverse}
use Rattle.std.specs.List.{All, AllZip}
use Rattle.std.proofs.Math.IntN.{ℤ, pos, ◌+ℤ◌, ◌-ℤ◌, ◌*ℤ◌, neg_ℤ}
use Rattle.std.proofs.lemmas.Int.{ints}
use Rattle.std.proofs.lemmas.Nat.{pow_pos}
use Rattle.std.proofs.lemmas.List.{take-replicate, drop-replicate, reverse-append}
use Rattle.std.proofs.lemmas.List.Elements.{All-nil, All-cons, All-head, All-tail}
use lib.Signed.{◌<ℤ◌, ◌≤ℤ◌}
use Rattle.dsv_algebra.proofs.Normaliser.{ring, env, var, num, plus, times, minus}
use Rattle.dsv_algebra.specs.Vectors.{Vector, Matrix, sum_to, form_at, dot, vector_of}
use Rattle.dsv_algebra.specs.Companion.{companion}
use Rattle.dsv_algebra.proofs.Sums.{sum_same, sum_first, sum_none, sum_one}
use Rattle.dsv_names.specs.declared.realisation.Realisation.{Realisation}
use Rattle.dsv_names.specs.declared.realisation.Realisation.TheVariants.{Dfi}
use Rattle.dsv_word.specs.declared.format.Format.{Format}
use Rattle.dsv_word.specs.Words.{IsWord}
use Rattle.dsv_quantiser.specs.QuantisedView.{QuantisedView, IsQuantisedView, unit}
use Rattle.dsv_system.specs.Runs.{Sampled, SampleRow, row_at, rows_from, past_after}
use Rattle.dsv_system.specs.Systems.{zeros, AreInRange}
use Rattle.dsv_system.specs.Breaks.{IsInside}
use Rattle.dsv_system.proofs.Words.{no_break}
use Rattle.dsv_meaning.specs.Lines.{Sum, summands, line, narrow_line}
use Rattle.dsv_meaning.specs.Equations.{Past, order, feedback, ago, forward_summands, feedback_summands, sample_as, start_as, registers_of}
use Rattle.dsv_linear.specs.declared.range.Range.{Range}
use Rattle.dsv_ellipsoid.specs.Intervals.{LiesIn, HasInterval, AreWords, line_intervals, input_interval, output_interval, sample_intervals}
use Rattle.dsv_ellipsoid.specs.Disturbance.{disturbance, greatest_disturbance}
use Rattle.dsv_certfile.specs.declared.ellipsoid.Ellipsoid.{Ellipsoid}
use Rattle.dsv_ellipsoid.specs.Good.{form_of, IsGood, IsKeptSample, NeverBreaks, StaysKept}
use Rattle.dsv_ellipsoid.proofs.Walks.{sum_of_products, lesser_least, greater_most}
use Rattle.dsv_ellipsoid.proofs.Samples.{Gives, whole_line, sum_lies}
use Rattle.dsv_ellipsoid.proofs.Rectangular.{into, off_place, at_place}
use Rattle.dsv_ellipsoid.proofs.Levels.{within_ends, level_kept, bound_kept}

-- ---- the companion matrix's rows
sum_is_dot : (cs : List ℤ) (w : ℕ → ℤ) (k : ℕ) → sum_of_products cs w k ≡ sum_to (length cs) (λ j. vector_of cs j *ℤ w (k + j))
unfolding sum_of_products
sum_is_dot [] w k = refl
sum_is_dot (c ∷ cs) w k =
    let whole = sum_first (length cs) (λ j. vector_of (c ∷ cs) j *ℤ w (k + j)) in
    let here : k + 0 ≡ k = omega arith in
    let first : c *ℤ w (k + 0) ≡ c *ℤ w k = ap (λ i. c *ℤ w i) here in
    let others = sum_same (length cs) (λ j. vector_of cs j *ℤ w (k + suc j)) (λ j. vector_of cs j *ℤ w (k + 1 + j))
    (λ j p. let e : k + suc j ≡ k + 1 + j = omega arith in ap (λ i. vector_of cs j *ℤ w i) e) in
    let rest = sum_is_dot cs w (k + 1) in
    omega (arith, ints, whole, first, others, rest)

negative_term : (c v : ℤ) → (pos 0 -ℤ c) *ℤ v ≡ neg_ℤ (c *ℤ v)
negative_term c v = ring (env (c ∷ v ∷ [])) (times (plus (num (pos 0)) (minus (var 0))) (var 1)) (minus (times (var 0) (var 1))) refl

sum_negative : (d : ℕ) (f v : ℕ → ℤ) → sum_to d (λ j. (pos 0 -ℤ f j) *ℤ v j) ≡ neg_ℤ (sum_to d (λ j. f j *ℤ v j))
sum_negative zero f v = refl
sum_negative (suc d) f v = let a = sum_negative d f v in let b = negative_term (f d) (v d) in omega (arith, ints, a, b)

-- the first row takes the feedback away
first_row : (a : List ℤ) (v : Vector) → 1 ≤ length a → dot (length a - 1) (companion (vector_of a) 0) v ≡ neg_ℤ (sum_of_products (drop 1 a) v 0)
first_row [] v h = absurd (omega arith)
first_row (a ∷ cs) v h =
    let n : length (a ∷ cs) - 1 ≡ length cs = omega arith in
    let whole = sum_is_dot cs v 0 in
    let near = sum_same (length cs) (λ j. vector_of cs j *ℤ v (0 + j)) (λ j. vector_of cs j *ℤ v j) (λ j p. let e : 0 + j ≡ j = omega arith in ap (λ i. vector_of cs j *ℤ v i) e) in
    ap (λ d. dot d (companion (vector_of (a ∷ cs)) 0) v) n
    ∙ sum_negative (length cs) (vector_of cs) v
    ∙ ap neg_ℤ (sym (whole ∙ near))

none_times : (z : ℤ) → pos 0 *ℤ z ≡ pos 0
none_times z = ring (env (z ∷ [])) (times (num (pos 0)) (var 0)) (num (pos 0)) refl

-- a later row has the word before
later_row : (d : ℕ) (c v : Vector) (k : ℕ) → k < d → dot d (companion c (suc k)) v ≡ c 0 *ℤ v k
later_row d c v k h =
    sum_one d (λ j. companion c (suc k) j *ℤ v j) k h
    (λ j p n. ap (λ z. z *ℤ v j) (off_place k j (c 0) (pos 0) (λ e. n (sym e))) ∙ none_times (v j))
    ∙ ap (λ z. z *ℤ v k) (at_place k k (c 0) (pos 0) refl)

-- ---- a state of a run
pub record Stays (q : QuantisedView) (o : Ellipsoid) (p : Past) : Type 0 where
  pub inputs : (i : ℕ) → LiesIn (input_interval q) (ago p.signal i)
  pub outputs : (i : ℕ) → LiesIn (output_interval o.bound) (ago p.outputs i)
  pub level : form_at (order q) (form_of o) (ago p.outputs) ≤ℤ o.level

pushed : (s : Range) (x : ℤ) (xs : List ℤ) → LiesIn s x → ((i : ℕ) → LiesIn s (ago xs i)) → (i : ℕ) → LiesIn s (ago (x ∷ xs) i)
pushed s x xs h k zero = h
pushed s x xs h k (suc i) = k i

input_lies : (q : QuantisedView) (x : ℤ) → q.xlo ≤ℤ x → x ≤ℤ q.xhi → LiesIn (input_interval q) x
input_lies q x p h =
    let l = (lesser_least q.xlo (pos 0)).0 in
    let g = (greater_most q.xhi (pos 0)).0 in
    record { least = omega (arith, ints, l, p); most = omega (arith, ints, g, h) }

line_gives : (f : Format) (bs cs : List ℤ) (w v : ℕ → ℤ) (x y : Range) → 1 ≤ length bs → ((i : ℕ) → LiesIn x (w i)) → ((i : ℕ) → LiesIn y (v i))
    → All (AreWords f) (line_intervals f (summands false bs (λ i. x) 0 ++ summands true cs (λ i. y) 0))
    → Gives f bs cs w v (line_intervals f (summands false bs (λ i. x) 0 ++ summands true cs (λ i. y) 0)) (narrow_line f [] (summands false bs w 0 ++ summands true cs v 0))
line_gives f [] cs w v x y h hw hv intervals = absurd (omega arith)
line_gives f (b ∷ bs) cs w v x y h hw hv intervals = whole_line f b bs cs w v x y hw hv intervals

-- what the sample's input and errors add
disturbed_by : (q : QuantisedView) (w v : ℕ → ℤ) (intervals : List Range) (t : Sum) → Gives q.format q.b (feedback q) w v intervals t → ℤ
disturbed_by q w v intervals t h = sum_of_products q.b w 0 +ℤ h.added -ℤ h.taken

apart : (s a u t z : ℤ) → z ≡ s +ℤ a -ℤ (u +ℤ t) → z ≡ neg_ℤ u +ℤ (s +ℤ a -ℤ t)
apart s a u t z h = omega (arith, ints, h)

-- the state moves by the companion matrix and the disturbance
moves : (a : List ℤ) (k y g : ℤ) (ys : List ℤ) (i : ℕ) → 1 ≤ length a → get_or a 0 (pos 0) ≡ k → i < length a - 1
    → k *ℤ y ≡ neg_ℤ (sum_of_products (drop 1 a) (ago ys) 0) +ℤ g
    → k *ℤ ago (y ∷ ys) i ≡ dot (length a - 1) (companion (vector_of a) i) (ago ys) +ℤ into i g
unfolding into
moves a k y g ys zero some lead h e = e ∙ ap (λ z. z +ℤ g) (sym (first_row a (ago ys) some))
moves a k y g ys (suc i) some lead h e =
    let row = later_row (length a - 1) (vector_of a) (ago ys) i (omega arith) in
    let none = off_place (suc i) 0 g (pos 0) (λ z. absurd (omega arith)) in
    let same : get_or a 0 (pos 0) *ℤ ago ys i ≡ k *ℤ ago ys i = ap (λ z. z *ℤ ago ys i) lead in
    omega (arith, ints, row, none, same)

record Kept (q : QuantisedView) (o : Ellipsoid) (s : Sampled Past) : Type 0 where
  output : LiesIn (output_interval o.bound) s.y
  lie : AllZip HasInterval s.exact (sample_intervals q o.bound)
  words : All (IsWord q.format) s.exact
  past : Stays q o s.past

-- a sample of the direct form I with an accumulator of this kind
sample_with : Bool → QuantisedView → Past → ℤ → Sampled Past
sample_with wide q p x =
    let xs = x ∷ p.signal in
    let y = line wide q.format [] (forward_summands q (ago xs) ++ feedback_summands q (ago p.outputs) 0) in
    record { y = y.value; exact = y.exact; past = record p { signal = xs; outputs = y.value ∷ p.outputs } }

kept_narrow : (q : QuantisedView) (o : Ellipsoid) (p : Past) (x : ℤ) → IsQuantisedView q → IsGood q o → q.xlo ≤ℤ x → x ≤ℤ q.xhi → Stays q o p → Kept q o (sample_with false q p x)
unfolding disturbed_by sample_with
kept_narrow q o p x fixed good low high h =
    let d = order q in
    let f = q.format in
    let c = vector_of q.a in
    let w = ago (x ∷ p.signal) in
    let v = ago p.outputs in
    let k = unit f in
    let hx = pushed (input_interval q) x p.signal (input_lies q x low high) h.inputs in
    let t = narrow_line f [] (forward_summands q w ++ feedback_summands q v 0) in
    let g = line_gives f q.b (feedback q) w v (input_interval q) (output_interval o.bound) (omega (arith, fixed.one_length, fixed.some)) hx h.outputs good.inside in
    let sum = sum_lies q.b (input_interval q) w 0 hx in
    let dis = disturbed_by q w v (sample_intervals q o.bound) t g in
    let ends = within_ends (disturbance q).low (disturbance q).high dis
    (omega (arith, ints, sum.least, g.added_least, g.taken_most)) (omega (arith, ints, sum.most, g.added_most, g.taken_least)) in
    let positive : pos 0 <ℤ k = (let pp = pow_pos f.frac_bits in omega (arith, ints)) in
    let value = apart (sum_of_products q.b w 0) g.added (sum_of_products (feedback q) v 0) g.taken (k *ℤ t.value) g.value in
    let next = ago (t.value ∷ p.outputs) in
    let level = level_kept d c v next k dis (greatest_disturbance q) o positive good.lambda good.mu good.falls good.step
    (λ i less. moves q.a k t.value dis p.outputs i fixed.some fixed.leading less value) ends.0 ends.1 h.level in
    let out = bound_kept d o next good.some good.kappa good.nu good.bound_low good.far good.first level in
    record {
      output = out;
      lie = g.lie;
      words = g.words;
      past = record {
        inputs = hx;
        outputs = pushed (output_interval o.bound) t.value p.outputs out h.outputs;
        level = level;
      };
    }

kept : (q : QuantisedView) (o : Ellipsoid) (p : Past) (x : ℤ) → IsQuantisedView q → IsGood q o → q.xlo ≤ℤ x → x ≤ℤ q.xhi → Stays q o p → Kept q o (sample_as Dfi q p x)
unfolding sample_with
kept q o p x fixed good low high h = subst (λ wide. Kept q o (sample_with wide q p x)) (sym good.narrow) (kept_narrow q o p x fixed good low high h)

-- what holds of each sample that is kept holds of each row
rows_all : (R : SampleRow → Type 0) (q : QuantisedView) (o : Ellipsoid) (p : Past) (xs : List ℤ) → ((s : Sampled Past) (x : ℤ) → Kept q o s → R (row_at s x))
    → IsQuantisedView q → IsGood q o → AreInRange q.xlo q.xhi xs → Stays q o p → All R (rows_from (sample_as Dfi q) p xs)
rows_all R q o p [] each fixed good range h = All-nil R
rows_all R q o p (x ∷ xs) each fixed good range h =
    let own = All-head (λ z. (q.xlo ≤ℤ z) × (z ≤ℤ q.xhi)) x xs range in
    let s = sample_as Dfi q p x in
    let k = kept q o p x fixed good own.0 own.1 h in
    All-cons R (row_at s x) (rows_from (sample_as Dfi q) s.past xs) (each s x k)
    (rows_all R q o s.past xs each fixed good (All-tail (λ z. (q.xlo ≤ℤ z) × (z ≤ℤ q.xhi)) x xs range) k.past)

-- ---- the start
zero_at : (n i : ℕ) → get_or (replicate n (pos 0)) i (pos 0) ≡ pos 0
zero_at zero i = refl
zero_at (suc n) zero = refl
zero_at (suc n) (suc i) = zero_at n i

no_term : (p a b : ℤ) → a ≡ pos 0 → p *ℤ a *ℤ b ≡ pos 0
no_term p a b e = ap (λ z. p *ℤ z *ℤ b) e ∙ ring (env (p ∷ b ∷ [])) (times (times (var 0) (num (pos 0))) (var 1)) (num (pos 0)) refl

form_none : (d : ℕ) (P : Matrix) (v : Vector) → ((i : ℕ) → v i ≡ pos 0) → form_at d P v ≡ pos 0
form_none d P v h =
    sum_same d (λ i. sum_to d (λ j. P i j *ℤ v i *ℤ v j)) (λ i. pos 0)
    (λ i p. sum_same d (λ j. P i j *ℤ v i *ℤ v j) (λ j. pos 0) (λ j q. no_term (P i j) (v i) (v j) (h i)) ∙ sum_none d) ∙ sum_none d

zero_lies : (s : Range) (z : ℤ) → z ≡ pos 0 → s.low ≤ℤ pos 0 → pos 0 ≤ℤ s.high → LiesIn s z
zero_lies s z e p h = record { least = omega (arith, ints, e, p); most = omega (arith, ints, e, h) }

last_zeros : (n i : ℕ) → ago (drop n (zeros (2 * n))) i ≡ pos 0
last_zeros n i = ap (λ l. ago l i) (drop-replicate n (2 * n) (pos 0)) ∙ zero_at (2 * n - n) i

start_stays : (q : QuantisedView) (o : Ellipsoid) → IsGood q o → Stays q o (start_as Dfi (order q) (zeros (2 * order q)))
start_stays q o good =
    let n = order q in
    let front : (i : ℕ) → ago (take n (zeros (2 * n))) i ≡ pos 0 =
    λ i. ap (λ l. ago l i) (take-replicate n (2 * n) (pos 0) (omega arith)) ∙ zero_at n i in
    let back : (i : ℕ) → ago (drop n (zeros (2 * n))) i ≡ pos 0 = last_zeros n in
    let low = (lesser_least q.xlo (pos 0)).1 in
    let high = (greater_most q.xhi (pos 0)).1 in
    let none = form_none n (form_of o) (ago (drop n (zeros (2 * n)))) back in
    record {
      inputs = λ i. zero_lies (input_interval q) (ago (take n (zeros (2 * n))) i) (front i) low high;
      outputs = λ i. zero_lies (output_interval o.bound) (ago (drop n (zeros (2 * n))) i) (back i) (omega (arith, ints, good.bound_low)) good.bound_low;
      level = omega (arith, ints, none, good.level);
    }

run_all : (R : SampleRow → Type 0) (k : Realisation) (q : QuantisedView) (o : Ellipsoid) (xs : List ℤ) → ((s : Sampled Past) (x : ℤ) → Kept q o s → R (row_at s x))
    → k ≡ Dfi → IsQuantisedView q → IsGood q o → AreInRange q.xlo q.xhi xs
    → All R (rows_from (sample_as k q) (start_as k (order q) (zeros (registers_of k (order q)))) xs)
run_all R k q o xs each e fixed good range =
    subst (λ (r : Realisation). All R (rows_from (sample_as r q) (start_as r (order q) (zeros (registers_of r (order q)))) xs)) (sym e)
    (rows_all R q o (start_as Dfi (order q) (zeros (2 * order q))) xs each fixed good range (start_stays q o good))

-- ---- the state after a run
stays_after : (q : QuantisedView) (o : Ellipsoid) (p : Past) (xs : List ℤ) → IsQuantisedView q → IsGood q o → AreInRange q.xlo q.xhi xs → Stays q o p → Stays q o (past_after (sample_as Dfi q) p xs)
stays_after q o p [] fixed good range h = h
stays_after q o p (x ∷ xs) fixed good range h =
    let own = All-head (λ z. (q.xlo ≤ℤ z) × (z ≤ℤ q.xhi)) x xs range in
    stays_after q o (sample_as Dfi q p x).past xs fixed good (All-tail (λ z. (q.xlo ≤ℤ z) × (z ≤ℤ q.xhi)) x xs range) (kept q o p x fixed good own.0 own.1 h).past

-- the outputs of a run, the newest first
newest_first : List SampleRow → List ℤ
newest_first rs = reverse (map (λ (r : SampleRow). r.y) rs)

one_before : (y : ℤ) (ys zs : List ℤ) → reverse ys ++ (y ∷ zs) ≡ reverse (y ∷ ys) ++ zs
one_before y ys zs = sym (append_assoc (reverse ys) (y ∷ []) zs) ∙ ap (λ (l : List ℤ). l ++ zs) (sym (reverse-append (y ∷ []) ys))

outputs_after : (q : QuantisedView) (p : Past) (xs : List ℤ) → (past_after (sample_as Dfi q) p xs).outputs ≡ newest_first (rows_from (sample_as Dfi q) p xs) ++ p.outputs
unfolding newest_first
outputs_after q p [] = refl
outputs_after q p (x ∷ xs) =
    let s = sample_as Dfi q p x in
    outputs_after q s.past xs ∙ one_before s.y (map (λ (r : SampleRow). r.y) (rows_from (sample_as Dfi q) s.past xs)) p.outputs

zeros_after : (ys zs : List ℤ) (i : ℕ) → ((k : ℕ) → ago zs k ≡ pos 0) → ago (ys ++ zs) i ≡ ago ys i
zeros_after [] zs i h = h i
zeros_after (y ∷ ys) zs zero h = refl
zeros_after (y ∷ ys) zs (suc i) h = zeros_after ys zs i h

form_alike : (d : ℕ) (P : Matrix) (v w : Vector) → ((i : ℕ) → v i ≡ w i) → form_at d P v ≡ form_at d P w
form_alike d P v w h =
    sum_same d (λ i. sum_to d (λ j. P i j *ℤ v i *ℤ v j)) (λ i. sum_to d (λ j. P i j *ℤ w i *ℤ w j))
    (λ i p. sum_same d (λ j. P i j *ℤ v i *ℤ v j) (λ j. P i j *ℤ w i *ℤ w j) (λ j r. ap (λ z. P i j *ℤ z *ℤ v j) (h i) ∙ ap (λ z. P i j *ℤ w i *ℤ z) (h j)))

level_after : (q : QuantisedView) (o : Ellipsoid) (xs : List ℤ) → IsQuantisedView q → IsGood q o → AreInRange q.xlo q.xhi xs
    → form_at (order q) (form_of o) (vector_of (newest_first (rows_from (sample_as Dfi q) (start_as Dfi (order q) (zeros (2 * order q))) xs))) ≤ℤ o.level
level_after q o xs fixed good range =
    let n = order q in
    let p = start_as Dfi n (zeros (2 * n)) in
    let ys = newest_first (rows_from (sample_as Dfi q) p xs) in
    let h = stays_after q o p xs fixed good range (start_stays q o good) in
    let same = form_alike n (form_of o) (vector_of ys) (ago (past_after (sample_as Dfi q) p xs).outputs)
    (λ i. sym (ap (λ l. ago l i) (outputs_after q p xs) ∙ zeros_after ys p.outputs i (last_zeros n))) in
    omega (arith, ints, same, h.level)

level_of : (k : Realisation) (q : QuantisedView) (o : Ellipsoid) (xs : List ℤ) → k ≡ Dfi → IsQuantisedView q → IsGood q o → AreInRange q.xlo q.xhi xs
    → form_at (order q) (form_of o) (vector_of (newest_first (rows_from (sample_as k q) (start_as k (order q) (zeros (registers_of k (order q)))) xs))) ≤ℤ o.level
level_of k q o xs e fixed good range =
    subst (λ (r : Realisation). form_at (order q) (form_of o) (vector_of (newest_first (rows_from (sample_as r q) (start_as r (order q) (zeros (registers_of r (order q)))) xs))) ≤ℤ o.level) (sym e)
    (level_after q o xs fixed good range)

pub keeps : (q : QuantisedView) (o : Ellipsoid) → IsQuantisedView q → IsGood q o → StaysKept q o
unfolding newest_first
keeps q o fixed good xs range = record {
  samples = run_all (IsKeptSample q o) q.realisation q o xs (λ s x k. record { exact = k.lie; output = k.output }) good.direct fixed good range;
  level = level_of q.realisation q o xs good.direct fixed good range;
}

pub never : (q : QuantisedView) (o : Ellipsoid) → IsQuantisedView q → IsGood q o → NeverBreaks q
never q o fixed good xs broken =
    no_break q.format (rows_from (sample_as q.realisation q) (start_as q.realisation (order q) (zeros (registers_of q.realisation (order q)))) xs)
    (run_all (IsInside q.format) q.realisation q o xs (λ s x k. k.words) good.direct fixed good broken.in_range) broken.broken
