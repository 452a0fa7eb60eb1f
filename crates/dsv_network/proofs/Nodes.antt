-- What a node adds to what is known of a sample.
use Rattle.std.proofs.Common.{◌≡◌, ℕ, suc, ◌+◌, ◌-◌, ◌*◌, ◌^◌, ◌<◌, ◌≤◌, inl, inr, Bool, true, false, if◌then◌else◌, List, [], ◌∷◌, ◌++◌, length, drop, refl, sym, subst, ap, ◌∙◌, arith}
use Rattle.std.specs.Prelude.{Option, Some, None, ◌&&◌, ◌==◌, nat_lt, nat_le}
use Rattle.std.specs.List.{All}
use Rattle.std.specs.Int.{int_rem_euclid}
use Rattle.std.proofs.Math.IntN.{ℤ, pos, ◌+ℤ◌, ◌-ℤ◌, ◌*ℤ◌}
use Rattle.std.proofs.lemmas.Int.{ints}
use Rattle.std.proofs.lemmas.List.{get_or_append_left, get_or_push, get_or_past, length_push, length-replicate}
use Rattle.std.proofs.lemmas.List.Elements.{All-head}
use Rattle.std.proofs.lemmas.Bool.{cases_lt, eqb-true, eqb-false, ltb-true, leb-true}
use lib.Signed.{◌<ℤ◌, ◌≤ℤ◌}
use Rattle.dsv_algebra.proofs.Normaliser.{ring, env, var, num, plus, times}
use Rattle.dsv_algebra.proofs.Signs.{mul_positive, mul_not_negative}
use Rattle.dsv_algebra.proofs.Sums.{sum_same, sum_none}
use Rattle.dsv_algebra.specs.Floor.{floor_of}
use Rattle.dsv_word.proofs.Floors.{is_floored, parted}
use Rattle.dsv_algebra.specs.Vectors.{sum_to}
use Rattle.dsv_word.specs.declared.format.Format.{Format}
use Rattle.dsv_word.specs.Width.{widest_word}
use Rattle.dsv_system.specs.Systems.{zeros}
use Rattle.dsv_netlist.specs.Nodes.{at}
use Rattle.dsv_linear.specs.Facts.{Between}
use Rattle.dsv_linear.specs.declared.range.Range.{Range}
use Rattle.dsv_linear.specs.Forms.{◌>>=◌, scale, range_scale, range_at, entries, sums, differences, products, product_of, unit}
use Rattle.dsv_linear.specs.Meaning.{LiesIn}
use Rattle.dsv_linear.proofs.Numbers.{some_of, times_up, times_none}
use Rattle.dsv_linear.proofs.Meanings.{entries_are, replicated, lies_grown}
use Rattle.dsv_linear.proofs.ZeroTerms.{sum_after}
use Rattle.dsv_linear.proofs.Roundings.{range_scale_positive, new_symbol, quotient_value}
use Rattle.dsv_linear.proofs.Words.{steps_are, step_positive}
use Rattle.dsv_network.specs.declared.signal.NearQuotient.{NearQuotient}
use Rattle.dsv_network.specs.declared.signal.Signal.{Signal}
use Rattle.dsv_network.specs.declared.signal.Signal.TheVariants.{Outer, Register, Product, Sum, Difference, Near, Checked, Shown}
use Rattle.dsv_network.specs.declared.weights.Part.TheVariants.{Positive, Negative, Rest}
use Rattle.dsv_network.specs.declared.weights.Weights.{Weights}
use Rattle.dsv_network.specs.declared.pass.Pass.{Pass}
use Rattle.dsv_network.specs.declared.walk.Walk.{Walk}
use Rattle.dsv_network.specs.Samples.{form_at, owned, outer_form, is_lawful, step_of, quotient_form, node_form, node_weights, node_ranges, added, shown_weights, shown_at, left_over, old_weights, weight_sums, after_first, whole_range, rounded_range, value_range, widened, loss_divisor, symbol_range, error_symbol, own_after}
use Rattle.dsv_network.specs.Runs.{IsNear, Fits, IsChecked, IsGiven, node_shows}
use Rattle.dsv_network.proofs.Bounds.{positive_part, negative_part, AreSums, sums_bound, value_between, fraction_between}
use Rattle.dsv_network.proofs.Masses.{mass, mass_none, is_here, here_place, placed, placed_value}
use Rattle.dsv_network.proofs.Walks.{IsStep, IsForm, form_is, sums_at, differences_at, products_at, coefficients, Means, means_same, means_add, means_sub, means_times}
use Rattle.dsv_network.proofs.Widening.{IsWider, wider_same, widened_wider, widened_long, widened_holds, lies_wider}
use Rattle.dsv_network.proofs.Solutions.{AreAges, first_at, AreWalks, Solution, after, AreMade, steps, newest, new_form, walks_more, solution_plain, solution_symbol}
use Rattle.dsv_network.proofs.Rounded.{Summed, summed_more, newest_more, AreHeld, Weigh, all_spanned, rests_weigh, mass_parted, symbol_ends, Quotes, most_near, least_near}

-- ---- weights that stand for the samples so far
abbrev pub NodeSums : ℕ → ℕ → ℕ → (ℕ → Walk) → Weights → Signal → Type 0
NodeSums n m T ws w (Outer r) = Unit {0}
NodeSums n m T ws w (Register r) = Unit {0}
NodeSums n m T ws w (Product c i) = Unit {0}
NodeSums n m T ws w (Sum i j) = Unit {0}
NodeSums n m T ws w (Difference i j) = Unit {0}
NodeSums n m T ws w (Near near) = Summed n m T (λ v. int_rem_euclid v (pos near.divisor)) (coefficients (λ a. (ws a).forms) near.of) w.positive
NodeSums n m T ws w (Checked i) = Summed n m T positive_part (coefficients (λ a. (ws a).forms) i) w.positive × Summed n m T negative_part (coefficients (λ a. (ws a).forms) i) w.negative
NodeSums n m T ws w (Shown i) = Summed n m T positive_part (coefficients (λ a. (ws a).forms) i) w.positive × Summed n m T negative_part (coefficients (λ a. (ws a).forms) i) w.negative

-- an outer signal's symbol has a range that holds its own
abbrev pub Takes : Range → Range → Type 0
Takes own r = (r.low ≤ℤ own.low) × (own.high ≤ℤ r.high)

abbrev pub NodeTakes : Range → Signal → Type 0
NodeTakes r (Outer own) = Takes own r
NodeTakes r n = Unit {0}

-- ---- what is known before a node
pub record Before (silent n m t own : ℕ) (f : Format) (over : ℤ) (ps : ℕ → Pass) (ws : ℕ → Walk) (words vs : List ℤ) (node : Signal) : Type 0 where
  pub ages : AreAges n m f t ps
  pub walks : AreWalks n own t ws vs
  pub made : AreMade t ps ws node
  pub solution : Solution silent n m t own over ps ws words vs
  pub is_over : pos 0 <ℤ over
  pub long : length (ws t).ranges ≡ m
  pub less : silent ≤ n
  pub room : own_after own node ≤ m
  pub takes : NodeTakes (range_at (ws t).ranges own) node
  pub sums : NodeSums n m t ws (old_weights (ps t) (ws t)) node

-- and after it
pub record Next (silent n m t own : ℕ) (over : ℤ) (ps : ℕ → Pass) (ws : ℕ → Walk) (words vs : List ℤ) (v : ℤ) (node : Signal) (w : Weights) : Type 0 where
  pub walks : AreWalks n (own_after own node) t (after ps ws node) (vs ++ v ∷ [])
  pub solution : Solution silent n m t (own_after own node) over ps (after ps ws node) words (vs ++ v ∷ [])
  pub long : length (after ps ws node t).ranges ≡ m
  pub wider : IsWider (ws t).ranges (after ps ws node t).ranges
  pub sums : NodeSums n m (suc t) ws w node

-- ---- nodes that bring no symbol
-- the weights of the new value
abbrev pub new_weights : {t : ℕ} (ps : ℕ → Pass) (ws : ℕ → Walk) (node : Signal) → AreMade t ps ws node → Weights
new_weights {t} ps ws node made = (steps t ps ws node made t (omega arith)).weights

plain : {silent n m t own : ℕ} {f : Format} {over : ℤ} (ps : ℕ → Pass) (ws : ℕ → Walk) (words vs : List ℤ) (v : ℤ) (node : Signal) (F : ℕ → ℕ → ℤ) (b : Before silent n m t own f over ps ws words vs node)
    → own_after own node ≡ own → (after ps ws node t).ranges ≡ (ws t).ranges → ((a j : ℕ) → a ≤ t → newest ps ws node vs a j ≡ F a j) → ((j : ℕ) → own ≤ j → F 0 j ≡ pos 0)
    → Means m t b.solution.k b.solution.us F v → NodeSums n m (suc t) ws (new_weights ps ws node b.made) node
    → Next silent n m t own over ps ws words vs v node (new_weights ps ws node b.made)
plain {silent} {n} {m} {t} {own} {f} {over} ps ws words vs v node F b o r each none means sums = record {
  walks = walks_more n own t ps ws node vs v b.walks b.made (λ j l. each 0 j (omega arith) ∙ none j (omega (arith, l, o)));
  solution = solution_plain ps ws node words vs v b.solution b.walks b.made o r (means_same m t b.solution.k b.solution.us F (newest ps ws node vs) v (λ a j l q. each a j (omega (arith, l))) means);
  long = ap (λ (rs : List Range). length rs) r ∙ b.long;
  wider = subst (λ (rs : List Range). IsWider (ws t).ranges rs) (sym r) (wider_same (ws t).ranges);
  sums = sums;
}

-- the step at an age, and the form that is new there
abbrev step_at : {silent n m t own : ℕ} {f : Format} {over : ℤ} {ps : ℕ → Pass} {ws : ℕ → Walk} {words vs : List ℤ} {node : Signal} (b : Before silent n m t own f over ps ws words vs node) (a : ℕ) → a ≤ t → IsStep (ps a) (ws a) node (after ps ws node a)
step_at {silent} {n} {m} {t} {own} {f} {over} {ps} {ws} {words} {vs} {node} b a l = steps t ps ws node b.made a l

new_at : {silent n m t own : ℕ} {f : Format} {over : ℤ} {ps : ℕ → Pass} {ws : ℕ → Walk} {words vs : List ℤ} {node : Signal} (b : Before silent n m t own f over ps ws words vs node) (a j : ℕ) (l : a ≤ t)
    → newest ps ws node vs a j ≡ at (step_at b a l).form j
new_at {silent} {n} {m} {t} {own} {f} {over} {ps} {ws} {words} {vs} {node} b a j l =
    ap (λ (g : List ℤ). at g j) (new_form (ps a) (ws a) (after ps ws node a) node (length vs) (step_at b a l) (b.walks.long a l))

-- the ranges, where a node keeps them
kept_ranges : (rs ss : List Range) → Some rs ≡ Some ss → ss ≡ rs
kept_ranges rs ss e = cc

some_form : (g h : List ℤ) → Some g ≡ Some h → h ≡ g
some_form g h e = cc

ranges_kept : (pass : Pass) (walk next : Walk) (n : Signal) (s : IsStep pass walk n next) → node_ranges walk.ranges walk.own s.weights n ≡ Some walk.ranges → next.ranges ≡ walk.ranges
ranges_kept pass walk next n s e = ap (λ (w : Walk). w.ranges) s.same ∙ kept_ranges walk.ranges s.ranges (sym e ∙ s.ranges_are)

-- the coefficients of a value before
abbrev before_at : (ℕ → Walk) → ℕ → ℕ → ℕ → ℤ
before_at ws i = coefficients (λ a. (ws a).forms) i

-- a form that is named stands for a value before
named : {n own t : ℕ} (ws : ℕ → Walk) (vs : List ℤ) (i a : ℕ) (form : List ℤ) → AreWalks n own t ws vs → a ≤ t → form_at (ws a).forms i ≡ Some form → (i < length vs) × ((j : ℕ) → at form j ≡ before_at ws i a j)
named ws vs i a form w l e =
    let g = form_is (ws a).forms i form e in
    let inside = g.inside in
    let long = w.long a l in
    (omega (arith, inside, long), λ j. ap (λ (h : List ℤ). at h j) g.same)

reg_more : {silent n m t own : ℕ} {f : Format} {over : ℤ} (ps : ℕ → Pass) (ws : ℕ → Walk) (words vs : List ℤ) (r : ℕ) (b : Before silent n m t own f over ps ws words vs (Register r))
    → Next silent n m t own over ps ws words vs (at words r) (Register r) (new_weights ps ws (Register r) b.made)
reg_more {silent} {n} {m} {t} {own} {f} {over} ps ws words vs r b =
    let known : (a : ℕ) (l : a ≤ t) → IsForm (ps a).registers r (step_at b a l).form = λ a l. form_is (ps a).registers r (step_at b a l).form (step_at b a l).form_is in
    let last = known t (omega arith) in
    let inside = last.inside in
    let many = b.solution.many in
    let few = b.walks.few in
    plain ps ws words vs (at words r) (Register r) (coefficients (λ a. (ps a).registers) r) b refl (ranges_kept (ps t) (ws t) (after ps ws (Register r) t) (Register r) (step_at b t (omega arith)) refl)
    (λ a j l. new_at b a j l ∙ ap (λ (g : List ℤ). at g j) (known a l).same)
    (λ j l. b.ages.none r j (omega (arith, few, l))) (b.solution.loaded r (omega (arith, inside, many))) tt

times_more : {silent n m t own : ℕ} {f : Format} {over : ℤ} (ps : ℕ → Pass) (ws : ℕ → Walk) (words vs : List ℤ) (c : ℤ) (i : ℕ) (node : Signal) (b : Before silent n m t own f over ps ws words vs node)
    → own_after own node ≡ own → node_ranges (ws t).ranges (ws t).own (new_weights ps ws node b.made) node ≡ Some (ws t).ranges → ((a : ℕ) → a ≤ t → node_form (ps a) (ws a) node ≡ product_of c (form_at (ws a).forms i))
    → NodeSums n m (suc t) ws (new_weights ps ws node b.made) node → Next silent n m t own over ps ws words vs (c *ℤ at vs i) node (new_weights ps ws node b.made)
times_more {silent} {n} {m} {t} {own} {f} {over} ps ws words vs c i node b o r e sums =
    let parts : (a : ℕ) (l : a ≤ t) → (i < length vs) × ((j : ℕ) → at (step_at b a l).form j ≡ c *ℤ before_at ws i a j) = λ a l.
    (let s = step_at b a l in
    let p = some_of (form_at (ws a).forms i) (λ form. products c form) s.form (sym (e a l) ∙ s.form_is) in
    let g = named ws vs i a p.0 b.walks l p.1 in
    (g.0, λ j. products_at c p.0 s.form p.2 j ∙ ap (λ y. c *ℤ y) (g.1 j))) in
    plain ps ws words vs (c *ℤ at vs i) node (λ a j. c *ℤ before_at ws i a j) b o (ranges_kept (ps t) (ws t) (after ps ws node t) node (step_at b t (omega arith)) r)
    (λ a j l. new_at b a j l ∙ (parts a l).1 j)
    (λ j l. ap (λ y. c *ℤ y) (b.walks.none i j l) ∙ times_none c)
    (means_times m t b.solution.k b.solution.us c (before_at ws i) (λ a j. c *ℤ before_at ws i a j) (at vs i) (λ a j p q. refl) (b.solution.stand i (parts t (omega arith)).0)) sums

pair_forms : {n own t : ℕ} (ws : ℕ → Walk) (vs : List ℤ) (i j a : ℕ) (op : List ℤ → List ℤ → Option (List ℤ)) (form : List ℤ) → AreWalks n own t ws vs → a ≤ t
    → (form_at (ws a).forms i >>= λ first. form_at (ws a).forms j >>= op first) ≡ Some form
    → (left : List ℤ) × (right : List ℤ) × (op left right ≡ Some form) × ((i < length vs) × ((p : ℕ) → at left p ≡ before_at ws i a p)) × ((j < length vs) × ((p : ℕ) → at right p ≡ before_at ws j a p))
pair_forms ws vs i j a op form w l e =
    let one = some_of (form_at (ws a).forms i) (λ first. form_at (ws a).forms j >>= op first) form e in
    let two = some_of (form_at (ws a).forms j) (op one.0) form one.2 in
    (one.0, two.0, two.2, named ws vs i a one.0 w l one.1, named ws vs j a two.0 w l two.1)

add_more : {silent n m t own : ℕ} {f : Format} {over : ℤ} (ps : ℕ → Pass) (ws : ℕ → Walk) (words vs : List ℤ) (i k : ℕ) (b : Before silent n m t own f over ps ws words vs (Sum i k))
    → Next silent n m t own over ps ws words vs (at vs i +ℤ at vs k) (Sum i k) (new_weights ps ws (Sum i k) b.made)
add_more {silent} {n} {m} {t} {own} {f} {over} ps ws words vs i k b =
    let parts = λ (a : ℕ) (l : a ≤ t). pair_forms ws vs i k a sums (step_at b a l).form b.walks l (step_at b a l).form_is in
    let last = parts t (omega arith) in
    plain ps ws words vs (at vs i +ℤ at vs k) (Sum i k) (λ a j. before_at ws i a j +ℤ before_at ws k a j) b refl (ranges_kept (ps t) (ws t) (after ps ws (Sum i k) t) (Sum i k) (step_at b t (omega arith)) refl)
    (λ a j l. let p = parts a l in new_at b a j l ∙ sums_at p.0 p.1 (step_at b a l).form p.2 j ∙ rw (p.3.1 j, p.4.1 j) refl)
    (λ j l. rw (b.walks.none i j l, b.walks.none k j l) refl)
    (means_add m t b.solution.k b.solution.us (before_at ws i) (before_at ws k) (λ a j. before_at ws i a j +ℤ before_at ws k a j) (at vs i) (at vs k) (λ a j p q. refl) (b.solution.stand i last.3.0) (b.solution.stand k last.4.0)) tt

sub_more : {silent n m t own : ℕ} {f : Format} {over : ℤ} (ps : ℕ → Pass) (ws : ℕ → Walk) (words vs : List ℤ) (i k : ℕ) (b : Before silent n m t own f over ps ws words vs (Difference i k))
    → Next silent n m t own over ps ws words vs (at vs i -ℤ at vs k) (Difference i k) (new_weights ps ws (Difference i k) b.made)
sub_more {silent} {n} {m} {t} {own} {f} {over} ps ws words vs i k b =
    let parts = λ (a : ℕ) (l : a ≤ t). pair_forms ws vs i k a differences (step_at b a l).form b.walks l (step_at b a l).form_is in
    let last = parts t (omega arith) in
    plain ps ws words vs (at vs i -ℤ at vs k) (Difference i k) (λ a j. before_at ws i a j -ℤ before_at ws k a j) b refl (ranges_kept (ps t) (ws t) (after ps ws (Difference i k) t) (Difference i k) (step_at b t (omega arith)) refl)
    (λ a j l. let p = parts a l in new_at b a j l ∙ differences_at p.0 p.1 (step_at b a l).form p.2 j ∙ rw (p.3.1 j, p.4.1 j) refl)
    (λ j l. rw (b.walks.none i j l, b.walks.none k j l) refl)
    (means_sub m t b.solution.k b.solution.us (before_at ws i) (before_at ws k) (λ a j. before_at ws i a j -ℤ before_at ws k a j) (at vs i) (at vs k) (λ a j p q. refl) (b.solution.stand i last.3.0) (b.solution.stand k last.4.0)) tt

-- ---- a value that is fitted
-- what is known of the symbols, for coefficients of which those to come have none
held : {silent n m t own : ℕ} {over : ℤ} {ps : ℕ → Pass} {ws : ℕ → Walk} {words vs : List ℤ} (s : Solution silent n m t own over ps ws words vs) (e : ℕ → ℕ → ℤ) → ((j : ℕ) → own ≤ j → e 0 j ≡ pos 0) → AreHeld n m t own s.base s.us e (ws t).ranges
held s e z = record { past = s.past; start = s.start; lies = s.lies; none = z }

pub shown_weigh : {silent n m t own : ℕ} {f : Format} {over : ℤ} (ps : ℕ → Pass) (ws : ℕ → Walk) (words vs : List ℤ) (i : ℕ) (node : Signal) (b : Before silent n m t own f over ps ws words vs node)
    → node_weights (ps t) (ws t) node ≡ shown_at (ps t) (ws t) i → Summed n m t positive_part (before_at ws i) (old_weights (ps t) (ws t)).positive → Summed n m t negative_part (before_at ws i) (old_weights (ps t) (ws t)).negative
    → Weigh n m t (before_at ws i) (new_weights ps ws node b.made)
shown_weigh {silent} {n} {m} {t} {own} {f} {over} ps ws words vs i node b same_weights first second =
    let s = step_at b t (omega arith) in
    let pass = ps t in
    let old = old_weights pass (ws t) in
    let one = some_of (form_at (ws t).forms i) (shown_weights pass old) s.weights (sym same_weights ∙ s.weights_are) in
    let two = some_of (added pass Positive 1 old.positive one.0) (λ p. added pass Negative 1 old.negative one.0 >>= λ q. Some (record { positive = p; negative = q })) s.weights one.2 in
    let three = some_of (added pass Negative 1 old.negative one.0) (λ q. Some (record { positive = two.0; negative = q })) s.weights two.2 in
    let last : Some (record { positive = two.0; negative = three.0 }) ≡ Some s.weights = three.2 in
    let same : s.weights ≡ record { positive = two.0; negative = three.0 } = cc in
    let form = (named ws vs i t one.0 b.walks (omega arith) one.1).1 in
    let count = b.ages.count t (omega arith) in
    let long = b.ages.long t (omega arith) in
    subst (λ (w : Weights). Weigh n m t (before_at ws i) w) (sym same) (record {
      positive = summed_more n m t pass Positive 1 (before_at ws i) old.positive one.0 two.0 count long form two.1 first;
      negative = summed_more n m t pass Negative 1 (before_at ws i) old.negative one.0 three.0 count long form three.1 second;
      first_positive = newest_more n m t pass Positive 1 (before_at ws i) old.positive one.0 two.0 count long form two.1;
      first_negative = newest_more n m t pass Negative 1 (before_at ws i) old.negative one.0 three.0 count long form three.1;
    })

shown_more : {silent n m t own : ℕ} {f : Format} {over : ℤ} (ps : ℕ → Pass) (ws : ℕ → Walk) (words vs : List ℤ) (i : ℕ) (node : Signal) (b : Before silent n m t own f over ps ws words vs node)
    → own_after own node ≡ own → node_ranges (ws t).ranges (ws t).own (new_weights ps ws node b.made) node ≡ Some (ws t).ranges → ((a : ℕ) → a ≤ t → node_form (ps a) (ws a) node ≡ form_at (ws a).forms i)
    → NodeSums n m (suc t) ws (new_weights ps ws node b.made) node → Next silent n m t own over ps ws words vs (at vs i) node (new_weights ps ws node b.made)
shown_more {silent} {n} {m} {t} {own} {f} {over} ps ws words vs i node b o r e sums =
    let parts = λ (a : ℕ) (l : a ≤ t). named ws vs i a (step_at b a l).form b.walks l (sym (e a l) ∙ (step_at b a l).form_is) in
    plain ps ws words vs (at vs i) node (before_at ws i) b o (ranges_kept (ps t) (ws t) (after ps ws node t) node (step_at b t (omega arith)) r)
    (λ a j l. new_at b a j l ∙ (parts a l).1 j) (b.walks.none i) (b.solution.stand i (parts t (omega arith)).0) sums

-- ---- a quotient
floor_none : (d : ℕ) → 0 < d → floor_of (pos 0) d ≡ pos 0
floor_none d p =
    let e : pos 0 *ℤ pos d ≡ pos 0 = ring (env (pos d ∷ [])) (times (num (pos 0)) (var 0)) (num (pos 0)) refl in
    let g : (pos 0 +ℤ pos 1) *ℤ pos d ≡ pos d = ring (env (pos d ∷ [])) (times (plus (num (pos 0)) (num (pos 1))) (var 0)) (var 0) refl in
    is_floored (pos 0) d (pos 0) p (record { below = omega (arith, ints, e); above = omega (arith, ints, g) })

rest_none : (d : ℕ) → 0 < d → int_rem_euclid (pos 0) (pos d) ≡ pos 0
rest_none d p =
    let e = parted (pos 0) d p in
    let g : floor_of (pos 0) d *ℤ pos d ≡ pos 0 = ap (λ z. z *ℤ pos d) (floor_none d p) ∙ ring (env (pos d ∷ [])) (times (num (pos 0)) (var 0)) (num (pos 0)) refl in
    omega (arith, ints, e, g)

-- a sum over all symbols is one over those after the first, where these add nothing
pub mass_after : (m off : ℕ) (g : ℕ → ℤ) → off ≤ m → ((j : ℕ) → j < off → g j ≡ pos 0) → sum_to m g ≡ sum_to (m - off) (λ i. g (off + i))
mass_after m off g l z = let place : m ≡ off + (m - off) = omega (arith, l) in ap (λ (k : ℕ). sum_to k g) place ∙ sum_after g off (m - off) z

-- the sums of weights bound what the coefficients come to
pub weights_bound : {silent n m t own : ℕ} {over : ℤ} {ps : ℕ → Pass} {ws : ℕ → Walk} {words vs : List ℤ} (off : ℕ) (s : Solution silent n m t own over ps ws words vs) (e : ℕ → ℕ → ℤ) (w : Weights) (sums : Range) → length (ws t).ranges ≡ m → off ≤ silent → off ≤ m
    → ((j : ℕ) → own ≤ j → e 0 j ≡ pos 0) → Weigh n m t e w → weight_sums (drop off (ws t).ranges) (after_first off w) ≡ Some sums → AreSums s.base sums (mass m (suc t) e s.us)
weights_bound {silent} {n} {m} {t} {own} {over} {ps} {ws} {words} {vs} off s e w sums long few less z g h =
    let inner : ℕ → ℤ = λ j. sum_to (suc t) (λ a. e a j *ℤ s.us a j) in
    let all = sums_bound s.base off (ws t).ranges w (λ i. inner (off + i)) sums (all_spanned n m t own off s.base s.us e (ws t).ranges w long (held s e z) g) h in
    let none : (j : ℕ) → j < off → inner j ≡ pos 0 = λ j l. sum_same (suc t) (λ a. e a j *ℤ s.us a j) (λ a. pos 0) (λ a q. ap (λ u. e a j *ℤ u) (s.none a j (omega (arith, l, few))) ∙ times_none (e a j)) ∙ sum_none (suc t) in
    subst (λ (v : ℤ). AreSums s.base sums v) (ap (λ (k : ℕ). sum_to (k - off) (λ i. inner (off + i))) long ∙ sym (mass_after m off inner less none)) all

record IsLawful (near : NearQuotient) : Type 0 where
  divides : 0 < near.divisor
  parts : pos scale ≡ pos (2 ^ near.bits) *ℤ pos (step_of near)
  steps : pos 0 <ℤ pos (step_of near)

lawful_cases : (p q : Bool) (near : NearQuotient) → nat_lt 0 near.divisor ≡ p → nat_le near.bits widest_word ≡ q → (p && q) ≡ true → IsLawful near
lawful_cases true true near a b e =
    let few : near.bits ≤ 53 = let l = leb-true near.bits widest_word b in omega (arith, l) in
    record { divides = ltb-true 0 near.divisor a; parts = steps_are near.bits few; steps = step_positive near.bits few }
lawful_cases true false near a b e = absurd cc
lawful_cases false q near a b e = absurd cc

lawful_is : (near : NearQuotient) → is_lawful near ≡ true → IsLawful near
lawful_is near e = lawful_cases (nat_lt 0 near.divisor) (nat_le near.bits widest_word) near refl refl e

-- what is answered where a quotient is lawful
record Answers {X : Type 0} (near : NearQuotient) (o : Option X) (x : X) : Type 0 where
  lawful : IsLawful near
  known : o ≡ Some x

answer_cases : {X : Type 0} (b : Bool) (near : NearQuotient) (o : Option X) (x : X) → is_lawful near ≡ b → (if b then o else None) ≡ Some x → Answers near o x
answer_cases true near o x p e = record { lawful = lawful_is near p; known = e }
answer_cases false near o x p e = absurd cc

-- the weights of what is left over, and the range of the symbol
record Rounds (n m t own : ℕ) (near : NearQuotient) (ws : ℕ → Walk) (c : ℕ → ℕ → ℤ) (next : Walk) (w : Weights) : Type 0 where
  lawful : IsLawful near
  summed : Summed n m (suc t) (λ v. int_rem_euclid v (pos near.divisor)) c w.positive
  weigh : Weigh n m t (λ a j. int_rem_euclid (c a j) (pos near.divisor)) w
  sums : Range
  symbol : Range
  sums_are : weight_sums (ws t).ranges w ≡ Some sums
  symbol_is : symbol_range near sums ≡ Some symbol
  ranges_are : next.ranges ≡ widened (ws t).ranges own symbol

widened_is : (rs ss : List Range) → Some rs ≡ Some ss → rs ≡ ss
widened_is rs ss e = cc

rounds : {silent n m t own : ℕ} {f : Format} {over : ℤ} (ps : ℕ → Pass) (ws : ℕ → Walk) (words vs : List ℤ) (near : NearQuotient) (b : Before silent n m t own f over ps ws words vs (Near near))
    → Rounds n m t own near ws (before_at ws near.of) (after ps ws (Near near) t) (new_weights ps ws (Near near) b.made)
rounds {silent} {n} {m} {t} {own} {f} {over} ps ws words vs near b =
    let s = step_at b t (omega arith) in
    let pass = ps t in
    let d = near.divisor in
    let c = before_at ws near.of in
    let old = old_weights pass (ws t) in
    let is = answer_cases (is_lawful near) near (form_at (ws t).forms near.of >>= left_over pass d old) s.weights refl s.weights_are in
    let one = some_of (form_at (ws t).forms near.of) (left_over pass d old) s.weights is.known in
    let two = some_of (added pass Rest d old.positive one.0) (λ p. Some (record { positive = p; negative = [] })) s.weights one.2 in
    let last : Some (record { positive = two.0; negative = [] }) ≡ Some s.weights = two.2 in
    let same : s.weights ≡ record { positive = two.0; negative = [] } = cc in
    let form = (named ws vs near.of t one.0 b.walks (omega arith) one.1).1 in
    let count = b.ages.count t (omega arith) in
    let long = b.ages.long t (omega arith) in
    let summed = summed_more n m t pass Rest d c old.positive one.0 two.0 count long form two.1 b.sums in
    let newest_rest = newest_more n m t pass Rest d c old.positive one.0 two.0 count long form two.1 in
    let ranges = answer_cases (is_lawful near) near (error_symbol near (ws t).ranges s.weights >>= λ symbol. Some (widened (ws t).ranges (ws t).own symbol)) s.ranges refl s.ranges_are in
    let three = some_of (error_symbol near (ws t).ranges s.weights) (λ symbol. Some (widened (ws t).ranges (ws t).own symbol)) s.ranges ranges.known in
    let four = some_of (weight_sums (ws t).ranges s.weights) (symbol_range near) three.0 three.1 in
    record {
      lawful = is.lawful;
      summed = subst (λ (w : Weights). Summed n m (suc t) (λ v. int_rem_euclid v (pos d)) c w.positive) (sym same) summed;
      weigh = subst (λ (w : Weights). Weigh n m t (λ a j. int_rem_euclid (c a j) (pos d)) w) (sym same)
          (rests_weigh n m t d c (record { positive = two.0; negative = [] }) is.lawful.divides summed newest_rest refl);
      sums = four.0;
      symbol = three.0;
      sums_are = four.1;
      symbol_is = four.2;
      ranges_are = ap (λ (w : Walk). w.ranges) s.same ∙ sym (widened_is (widened (ws t).ranges (ws t).own three.0) s.ranges three.2) ∙ ap (λ (o : ℕ). widened (ws t).ranges o three.0) (b.walks.own_is t (omega arith));
    }

-- the coefficients of the quotient, with that of its own symbol
owned_is : (p q : Bool) (o own j d : ℕ) (step u v : ℤ) → p ≡ q → o ≡ own → u ≡ v → owned p o j step (floor_of u d) ≡ (if q && (j == own) then step else floor_of v d)
owned_is p q o own j d step u v g h k = rw (g, h, k) refl

quotient_at : {silent n m t own : ℕ} {f : Format} {over : ℤ} (ps : ℕ → Pass) (ws : ℕ → Walk) (words vs : List ℤ) (near : NearQuotient) (b : Before silent n m t own f over ps ws words vs (Near near)) (a j : ℕ) → a ≤ t → j < m
    → (near.of < length vs) × (newest ps ws (Near near) vs a j ≡ (if is_here own a j then pos (step_of near) else floor_of (before_at ws near.of a j) near.divisor))
quotient_at {silent} {n} {m} {t} {own} {f} {over} ps ws words vs near b a j l p =
    let s = step_at b a l in
    let pass = ps a in
    let d = near.divisor in
    let one = some_of (form_at (ws a).forms near.of) (quotient_form pass.is_first (length pass.ranges) (ws a).own near) s.form s.form_is in
    let it = named ws vs near.of a one.0 b.walks l one.1 in
    let is = answer_cases (is_lawful near) near (entries (length pass.ranges) (λ k. owned pass.is_first (ws a).own k (pos (step_of near)) (floor_of (at one.0 k) d))) s.form refl one.2 in
    let each = (entries_are (length pass.ranges) (λ k. owned pass.is_first (ws a).own k (pos (step_of near)) (floor_of (at one.0 k) d)) s.form is.known).each j (let long = b.ages.long a l in omega (arith, p, long)) in
    (it.0, new_at b a j l ∙ each ∙ owned_is pass.is_first (a == 0) (ws a).own own j d (pos (step_of near)) (at one.0 j) (before_at ws near.of a j) (first_at n m f t ps a b.ages l) (b.walks.own_is a l) (it.1 j))

after_own : (own a j : ℕ) (c x v : ℤ) (b : Bool) → is_here own a j ≡ b → suc own ≤ j → v ≡ pos 0 → (if b then x else v) ≡ pos 0
after_own own a j c x v true e l z = absurd (let h = here_place own a j e in omega (arith, l, h))
after_own own a j c x v false e l z = z

near_none : {silent n m t own : ℕ} {f : Format} {over : ℤ} (ps : ℕ → Pass) (ws : ℕ → Walk) (words vs : List ℤ) (near : NearQuotient) (b : Before silent n m t own f over ps ws words vs (Near near)) → 0 < near.divisor → (j : ℕ) → suc own ≤ j
    → newest ps ws (Near near) vs 0 j ≡ pos 0
near_none {silent} {n} {m} {t} {own} {f} {over} ps ws words vs near b dp j l = elim (cases_lt j m) [
  | inl p ↦ (quotient_at ps ws words vs near b 0 j (omega arith) p).1
      ∙ after_own own 0 j (before_at ws near.of 0 j) (pos (step_of near)) (floor_of (before_at ws near.of 0 j) near.divisor) (is_here own 0 j) refl l
      (ap (λ v. floor_of v near.divisor) (b.walks.none near.of j (omega (arith, l))) ∙ floor_none near.divisor dp)
  | inr p ↦ (let s = step_at b 0 (omega arith) in
      let pass = ps 0 in
      let f0 : ℕ → List ℤ → ℕ → ℤ = λ own form k. owned pass.is_first own k (pos (step_of near)) (floor_of (at form k) near.divisor) in
      let one = some_of (form_at (ws 0).forms near.of) (quotient_form pass.is_first (length pass.ranges) (ws 0).own near) s.form s.form_is in
      let is = answer_cases (is_lawful near) near (entries (length pass.ranges) (f0 (ws 0).own one.0)) s.form refl one.2 in
      let long = (entries_are (length pass.ranges) (f0 (ws 0).own one.0) s.form is.known).long in
      let all = b.ages.long 0 (omega arith) in
      new_at b 0 j (omega arith) ∙ get_or_past s.form j (pos 0) (omega (arith, long, all, p)))
]

near_more : {silent n m t own : ℕ} {f : Format} {over : ℤ} (ps : ℕ → Pass) (ws : ℕ → Walk) (words vs : List ℤ) (near : NearQuotient) (w : ℤ) (b : Before silent n m t own f over ps ws words vs (Near near))
    → IsNear near over (at vs near.of) w → Next silent n m t own over ps ws words vs w (Near near) (new_weights ps ws (Near near) b.made)
near_more {silent} {n} {m} {t} {own} {f} {over} ps ws words vs near w b lie =
    let i = near.of in
    let d = near.divisor in
    let r = rounds ps ws words vs near b in
    let dp = r.lawful.divides in
    let s = pos scale in
    let step = pos (step_of near) in
    let up = r.lawful.steps in
    let k = b.solution.k in
    let base = b.solution.base in
    let us = b.solution.us in
    let c = before_at ws i in
    let q : ℕ → ℕ → ℤ = λ a j. floor_of (c a j) d in
    let e : ℕ → ℕ → ℤ = λ a j. int_rem_euclid (c a j) (pos d) in
    let v = at vs i in
    let all = mass m (suc t) q us in
    let rest = mass m (suc t) e us in
    let new = s *ℤ k *ℤ w -ℤ all in
    let room = b.room in
    let inside = (quotient_at ps ws words vs near b t own (omega arith) (omega (arith, room))).0 in
    let none = b.walks.none i in
    let e_none : (j : ℕ) → own ≤ j → e 0 j ≡ pos 0 = λ j l. ap (λ y. int_rem_euclid y (pos d)) (none j l) ∙ rest_none d dp in
    let total : s *ℤ k *ℤ v ≡ pos d *ℤ all +ℤ rest = b.solution.stand i inside ∙ mass_parted m (suc t) d c us dp in
    let bound = weights_bound 0 b.solution e (new_weights ps ws (Near near) b.made) r.sums b.long (omega arith) (omega arith) e_none r.weigh r.sums_are in
    let d_up : pos 0 <ℤ pos d = omega (arith, ints, dp) in
    let together : pos (loss_divisor near) ≡ pos d *ℤ step = refl in
    let positive : 0 < loss_divisor near = (let h = mul_positive (pos d) step d_up up in omega (arith, ints, h, together)) in
    let ends = symbol_ends near r.sums r.symbol positive r.symbol_is in
    let t_up : pos 0 ≤ℤ pos range_scale = let h = range_scale_positive in omega (arith, ints, h) in
    let k_up : pos 0 ≤ℤ k = let h = b.solution.positive in omega (arith, ints, h) in
    let s_up : pos 0 ≤ℤ step = omega (arith, ints, up) in
    let whole = b.solution.whole in
    let quotes : Quotes s (pos range_scale) (pos d) (pos (2 ^ near.bits)) step k over v w new rest = record {
      parts = r.lawful.parts;
      symbol = new_symbol s (pos d) k v w all rest total;
      d_up = d_up;
      t_up = mul_not_negative (pos range_scale *ℤ k) step (mul_not_negative (pos range_scale) k t_up k_up) s_up;
      k_up = (let h = b.solution.above in omega (arith, ints, h, whole));
    } in
    let low_end = rw together at ends.low_end in
    let high_end = rw together at ends.high_end in
    let here : LiesIn (base *ℤ step) r.symbol new = subst (λ (y : ℤ). LiesIn (y *ℤ step) r.symbol new) (sym whole) (record {
      least = least_near s (pos range_scale) (pos d) (pos (2 ^ near.bits)) step k over v w new rest r.sums.low near.errors.low r.symbol.low quotes lie.least (subst (λ (z : ℤ). (z *ℤ r.sums.low) ≤ℤ (pos range_scale *ℤ rest)) whole bound.least) low_end;
      most = most_near s (pos range_scale) (pos d) (pos (2 ^ near.bits)) step k over v w new rest r.sums.high near.errors.high r.symbol.high quotes lie.most (subst (λ (z : ℤ). (pos range_scale *ℤ rest) ≤ℤ (z *ℤ r.sums.high)) whole bound.most) high_end;
    }) in
    let long = b.long in
    let holds = widened_holds (ws t).ranges own r.symbol (omega (arith, room, long)) in
    let growth = mul_positive base step b.solution.above up in
    let lies : LiesIn (base *ℤ step) (range_at (after ps ws (Near near) t).ranges own) new =
    subst (λ (rs : List Range). LiesIn (base *ℤ step) (range_at rs own) new) (sym r.ranges_are) (lies_wider (base *ℤ step) new r.symbol (range_at (widened (ws t).ranges own r.symbol) own) growth holds.0 holds.1 here) in
    let wide : IsWider (ws t).ranges (after ps ws (Near near) t).ranges = subst (λ (rs : List Range). IsWider (ws t).ranges rs) (sym r.ranges_are) (widened_wider (ws t).ranges own r.symbol) in
    let q_none : q 0 own ≡ pos 0 = ap (λ y. floor_of y d) (none own (omega arith)) ∙ floor_none d dp in
    let means : Means m t (k *ℤ step) (placed step own us new) (λ a j. if is_here own a j then step else q a j) w =
    quotient_value s k step w all ∙ sym (placed_value m t own step new step q us (omega (arith, room)) q_none) in
    record {
      walks = walks_more n own t ps ws (Near near) vs w b.walks b.made (near_none ps ws words vs near b dp);
      solution = solution_symbol ps ws (Near near) words vs w step new b.solution f b.ages b.walks b.made refl b.less up wide lies
          (means_same m t (k *ℤ step) (placed step own us new) (λ a j. if is_here own a j then step else q a j) (newest ps ws (Near near) vs) w (λ a j l p. (quotient_at ps ws words vs near b a j (omega (arith, l)) p).1) means);
      long = ap (λ (rs : List Range). length rs) r.ranges_are ∙ widened_long (ws t).ranges own r.symbol ∙ long;
      wider = wide;
      sums = r.summed;
    }

-- ---- an outer signal
unit_at : (b : Bool) (own j : ℕ) → (j == own) ≡ b → at (unit own) j ≡ (if b then pos scale else pos 0)
unit_at true own j e = let same : j ≡ own = eqb-true j own e in get_or_push (zeros own) (pos scale) (pos 0) j (length-replicate own (pos 0) ∙ sym same)
unit_at false own j e = let other = eqb-false j own e in elim (cases_lt j own) [
  | inl q ↦ get_or_append_left (zeros own) (pos scale ∷ []) (pos 0) j (let m = length-replicate own (pos 0) in omega (arith, m, q)) ∙ replicated own j (pos 0) (pos 0) q
  | inr q ↦ get_or_past (unit own) j (pos 0) (let m = length-replicate own (pos 0) in let l = length_push (zeros own) (pos scale) in let r : own < j = search (arith, other, q) in omega (arith, m, l, r))
]

outer_at : (b : Bool) (own j : ℕ) → at (outer_form b own) j ≡ (if b && (j == own) then pos scale else pos 0)
outer_at true own j = unit_at (j == own) own j refl
outer_at false own j = refl

outer_is : (b c : Bool) (own j : ℕ) → b ≡ c → at (outer_form b own) j ≡ (if c && (j == own) then pos scale else pos 0)
outer_is b c own j e = ap (λ (x : Bool). at (outer_form x own) j) e ∙ outer_at c own j

once_more : (s k x z : ℤ) → z ≡ pos 0 → s *ℤ (k *ℤ pos 1) *ℤ x ≡ pos 1 *ℤ z +ℤ s *ℤ (k *ℤ x)
once_more s k x z e = rw e (ring (env (s ∷ k ∷ x ∷ [])) (times (times (var 0) (times (var 1) (num (pos 1)))) (var 2)) (plus (times (num (pos 1)) (num (pos 0))) (times (var 0) (times (var 1) (var 2)))) refl)

outer_lies : (k over base : ℤ) (own r : Range) (w : ℤ) → pos 0 <ℤ k → pos 0 <ℤ over → base ≡ k *ℤ over → LiesIn over own w → Takes own r → LiesIn (base *ℤ pos 1) r (k *ℤ w)
outer_lies k over base own r w p q e l h =
    let turn : over *ℤ k ≡ base *ℤ pos 1 = rw e (ring (env (over ∷ k ∷ [])) (times (var 0) (var 1)) (times (times (var 1) (var 0)) (num (pos 1))) refl) in
    subst (λ (z : ℤ). LiesIn z r (k *ℤ w)) turn (lies_wider (over *ℤ k) (k *ℤ w) own r (mul_positive over k q p) h.0 h.1 (lies_grown over k own w p l))

outer_more : {silent n m t own : ℕ} {f : Format} {over : ℤ} (ps : ℕ → Pass) (ws : ℕ → Walk) (words vs : List ℤ) (r : Range) (v : ℤ) (b : Before silent n m t own f over ps ws words vs (Outer r))
    → LiesIn over r v → Next silent n m t own over ps ws words vs v (Outer r) (new_weights ps ws (Outer r) b.made)
outer_more {silent} {n} {m} {t} {own} {f} {over} ps ws words vs r v b lie =
    let k = b.solution.k in
    let base = b.solution.base in
    let us = b.solution.us in
    let room = b.room in
    let last = step_at b t (omega arith) in
    let kept = ranges_kept (ps t) (ws t) (after ps ws (Outer r) t) (Outer r) last refl in
    let each : (a j : ℕ) → a ≤ t → newest ps ws (Outer r) vs a j ≡ (if is_here own a j then pos scale else pos 0) = λ a j l.
    (let s = step_at b a l in
    new_at b a j l ∙ ap (λ (h : List ℤ). at h j) (some_form (outer_form (ps a).is_first (ws a).own) s.form s.form_is)
    ∙ ap (λ (o : ℕ). at (outer_form (ps a).is_first o) j) (b.walks.own_is a l)
    ∙ outer_is (ps a).is_first (a == 0) own j (first_at n m f t ps a b.ages l)) in
    let means : Means m t (k *ℤ pos 1) (placed (pos 1) own us (k *ℤ v)) (λ a j. if is_here own a j then pos scale else pos 0) v =
    once_more (pos scale) k v (mass m (suc t) (λ a j. pos 0) us) (mass_none m (suc t) (λ a j. pos 0) us (λ a j l p. refl))
    ∙ sym (placed_value m t own (pos 1) (k *ℤ v) (pos scale) (λ a j. pos 0) us (omega (arith, room)) refl) in
    let lies : LiesIn (base *ℤ pos 1) (range_at (after ps ws (Outer r) t).ranges own) (k *ℤ v) =
    subst (λ (rs : List Range). LiesIn (base *ℤ pos 1) (range_at rs own) (k *ℤ v)) (sym kept) (outer_lies k over base r (range_at (ws t).ranges own) v b.solution.positive b.is_over b.solution.whole lie b.takes) in
    let wide : IsWider (ws t).ranges (after ps ws (Outer r) t).ranges = subst (λ (rs : List Range). IsWider (ws t).ranges rs) (sym kept) (wider_same (ws t).ranges) in
    record {
      walks = walks_more n own t ps ws (Outer r) vs v b.walks b.made (λ j l. each 0 j (omega arith) ∙ after_own own 0 j (pos 0) (pos scale) (pos 0) (is_here own 0 j) refl l refl);
      solution = solution_symbol ps ws (Outer r) words vs v (pos 1) (k *ℤ v) b.solution f b.ages b.walks b.made refl b.less (omega (arith, ints)) wide lies
          (means_same m t (k *ℤ pos 1) (placed (pos 1) own us (k *ℤ v)) (λ a j. if is_here own a j then pos scale else pos 0) (newest ps ws (Outer r) vs) v (λ a j l p. each a j (omega (arith, l))) means);
      long = ap (λ (rs : List Range). length rs) kept ∙ b.long;
      wider = wide;
      sums = tt;
    }

-- ---- any node, if what it shows fits
pub checked_weigh : {silent n m t own : ℕ} {f : Format} {over : ℤ} (ps : ℕ → Pass) (ws : ℕ → Walk) (words vs : List ℤ) (i : ℕ) (b : Before silent n m t own f over ps ws words vs (Checked i)) → Weigh n m t (before_at ws i) (new_weights ps ws (Checked i) b.made)
checked_weigh ps ws words vs i b = shown_weigh ps ws words vs i (Checked i) b refl b.sums.0 b.sums.1

pub plain_weigh : {silent n m t own : ℕ} {f : Format} {over : ℤ} (ps : ℕ → Pass) (ws : ℕ → Walk) (words vs : List ℤ) (i : ℕ) (b : Before silent n m t own f over ps ws words vs (Shown i)) → Weigh n m t (before_at ws i) (new_weights ps ws (Shown i) b.made)
plain_weigh ps ws words vs i b = shown_weigh ps ws words vs i (Shown i) b refl b.sums.0 b.sums.1

pub node_more : {silent n m t own : ℕ} {f : Format} {over : ℤ} (ps : ℕ → Pass) (ws : ℕ → Walk) (words vs : List ℤ) (node : Signal) (w : ℤ) (b : Before silent n m t own f over ps ws words vs node)
    → IsGiven f over words vs node w → All (Fits f over) (node_shows vs node) → Next silent n m t own over ps ws words vs w node (new_weights ps ws node b.made)
node_more ps ws words vs (Outer r) w b h e = outer_more ps ws words vs r w b h
node_more {silent} {n} {m} {t} {own} {f} {over} ps ws words vs (Register r) w b h e =
    subst (λ (v : ℤ). Next silent n m t own over ps ws words vs v (Register r) (new_weights ps ws (Register r) b.made)) (sym h) (reg_more ps ws words vs r b)
node_more {silent} {n} {m} {t} {own} {f} {over} ps ws words vs (Product c i) w b h e =
    subst (λ (v : ℤ). Next silent n m t own over ps ws words vs v (Product c i) (new_weights ps ws (Product c i) b.made)) (sym h) (times_more ps ws words vs c i (Product c i) b refl refl (λ a l. refl) tt)
node_more ps ws words vs (Near near) w b h e = near_more ps ws words vs near w b h
node_more {silent} {n} {m} {t} {own} {f} {over} ps ws words vs (Sum i k) w b h e =
    subst (λ (v : ℤ). Next silent n m t own over ps ws words vs v (Sum i k) (new_weights ps ws (Sum i k) b.made)) (sym h) (add_more ps ws words vs i k b)
node_more {silent} {n} {m} {t} {own} {f} {over} ps ws words vs (Difference i k) w b h e =
    subst (λ (v : ℤ). Next silent n m t own over ps ws words vs v (Difference i k) (new_weights ps ws (Difference i k) b.made)) (sym h) (sub_more ps ws words vs i k b)
node_more {silent} {n} {m} {t} {own} {f} {over} ps ws words vs (Checked i) w b h e =
    let g = checked_weigh ps ws words vs i b in
    subst (λ (v : ℤ). Next silent n m t own over ps ws words vs v (Checked i) (new_weights ps ws (Checked i) b.made)) (sym (h.same (All-head (Fits f over) (at vs i) [] e)))
    (shown_more ps ws words vs i (Checked i) b refl refl (λ a l. refl) (g.positive, g.negative))
node_more {silent} {n} {m} {t} {own} {f} {over} ps ws words vs (Shown i) w b h e =
    let g = plain_weigh ps ws words vs i b in
    subst (λ (v : ℤ). Next silent n m t own over ps ws words vs v (Shown i) (new_weights ps ws (Shown i) b.made)) (sym h)
    (shown_more ps ws words vs i (Shown i) b refl refl (λ a l. refl) (g.positive, g.negative))

-- ---- ranges of what is shown
-- an exact value over this denominator, by its extreme sums, lies in its range
whole_lies : (k base over : ℤ) (sums ends : Range) (v whole all : ℤ) → pos 0 <ℤ base → pos 0 <ℤ over → base ≡ k *ℤ over → v ≡ over *ℤ whole → AreSums base sums all → pos scale *ℤ k *ℤ v ≡ all → whole_range sums ≡ Some ends
    → Between (over *ℤ ends.low) (over *ℤ ends.high) v
whole_lies k base over sums ends v whole all p o w e a m h =
    let same : pos scale *ℤ base *ℤ whole ≡ all = rw w (ring (env (pos scale ∷ k ∷ over ∷ whole ∷ [])) (times (times (var 0) (times (var 1) (var 2))) (var 3)) (times (times (var 0) (var 1)) (times (var 2) (var 3))) refl) ∙ ap (λ y. pos scale *ℤ k *ℤ y) (sym e) ∙ m in
    let b = value_between base sums ends whole all p a same h in
    let up : pos 0 ≤ℤ over = omega (arith, ints, o) in
    rw e (record { least = times_up over ends.low whole up b.least; most = times_up over whole ends.high up b.most })

-- the sums of what a node shows
shown_sums : {silent n m t own : ℕ} {f : Format} {over : ℤ} (ps : ℕ → Pass) (ws : ℕ → Walk) (words vs : List ℤ) (i off : ℕ) (node : Signal) (sums : Range) (b : Before silent n m t own f over ps ws words vs node) → off ≤ silent
    → Weigh n m t (before_at ws i) (new_weights ps ws node b.made) → weight_sums (drop off (ws t).ranges) (after_first off (new_weights ps ws node b.made)) ≡ Some sums → own_after own node ≡ own
    → AreSums b.solution.base sums (mass m (suc t) (before_at ws i) b.solution.us)
shown_sums {silent} {n} {m} {t} {own} {f} {over} ps ws words vs i off node sums b few g e o =
    let room = b.room in let less = b.less in let after_n = b.walks.few in
    weights_bound off b.solution (before_at ws i) (new_weights ps ws node b.made) sums b.long few (omega (arith, few, less, after_n, room, o)) (b.walks.none i) g e

-- a value that is shown, and whose range is known, lies in it
pub checked_lies : {silent n m t own : ℕ} {f : Format} {over : ℤ} (ps : ℕ → Pass) (ws : ℕ → Walk) (words vs : List ℤ) (i off : ℕ) (w : ℤ) (ends : Range) (b : Before silent n m t own f over ps ws words vs (Checked i)) → off ≤ silent
    → IsChecked f over (at vs i) w → value_range true off (ws t).ranges (new_weights ps ws (Checked i) b.made) ≡ Some ends → Between (over *ℤ ends.low) (over *ℤ ends.high) (at vs i)
checked_lies {silent} {n} {m} {t} {own} {f} {over} ps ws words vs i off w ends b few h e =
    let s = b.solution in
    let sums = some_of (weight_sums (drop off (ws t).ranges) (after_first off (new_weights ps ws (Checked i) b.made))) (rounded_range true) ends e in
    let bound = shown_sums ps ws words vs i off (Checked i) sums.0 b few (checked_weigh ps ws words vs i b) sums.1 refl in
    let inside = (named ws vs i t (step_at b t (omega arith)).form b.walks (omega arith) (step_at b t (omega arith)).form_is).0 in
    whole_lies s.k s.base over sums.0 ends (at vs i) h.whole (mass m (suc t) (before_at ws i) s.us) s.above b.is_over s.whole h.is bound (s.stand i inside) sums.2

pub shown_lies : {silent n m t own : ℕ} {f : Format} {over : ℤ} (ps : ℕ → Pass) (ws : ℕ → Walk) (words vs : List ℤ) (i off : ℕ) (ends : Range) (b : Before silent n m t own f over ps ws words vs (Shown i)) → off ≤ silent
    → value_range false off (ws t).ranges (new_weights ps ws (Shown i) b.made) ≡ Some ends → Between (over *ℤ ends.low) (over *ℤ ends.high) (at vs i)
shown_lies {silent} {n} {m} {t} {own} {f} {over} ps ws words vs i off ends b few e =
    let s = b.solution in
    let sums = some_of (weight_sums (drop off (ws t).ranges) (after_first off (new_weights ps ws (Shown i) b.made))) (rounded_range false) ends e in
    let bound = shown_sums ps ws words vs i off (Shown i) sums.0 b few (plain_weigh ps ws words vs i b) sums.1 refl in
    let inside = (named ws vs i t (step_at b t (omega arith)).form b.walks (omega arith) (step_at b t (omega arith)).form_is).0 in
    fraction_between s.k s.base over sums.0 ends (at vs i) (mass m (suc t) (before_at ws i) s.us) s.positive b.is_over s.whole bound (s.stand i inside) sums.2
