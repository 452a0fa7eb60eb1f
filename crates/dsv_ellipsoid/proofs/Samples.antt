-- One sample of the direct form I while its past lies in the intervals.
use Rattle.std.proofs.Common.{◌≡◌, ℕ, ◌^◌, ◌+◌, true, false, List, [], ◌∷◌, ◌++◌, refl, sym, ap, subst, ◌∙◌, arith, append-nil}
use Rattle.std.proofs.Math.IntN.{ℤ, pos, ◌+ℤ◌, ◌-ℤ◌, ◌*ℤ◌, neg_ℤ}
use Rattle.std.specs.List.{All, AllZip}
use Rattle.std.proofs.lemmas.Int.{ints}
use Rattle.std.proofs.lemmas.List.Elements.{All-nil, All-cons, All-head, All-tail}
use lib.Signed.{◌≤ℤ◌}
use Rattle.dsv_word.specs.declared.format.Format.{Format}
use Rattle.dsv_word.specs.Words.{width, fit, IsWord}
use Rattle.dsv_word.specs.Quotients.{whole_shift}
use Rattle.dsv_linear.specs.Known.{error_range}
use Rattle.dsv_linear.proofs.Words.{fit_same}
use Rattle.dsv_meaning.specs.declared.summands.Summand.{Summand}
use Rattle.dsv_meaning.specs.Lines.{Sum, summands, product, next_summand, next_summands, narrow_line}
use Rattle.dsv_linear.specs.declared.range.Range.{Range}
use Rattle.dsv_ellipsoid.specs.Intervals.{LiesIn, HasInterval, AreWords, product_interval, later_intervals, line_intervals}
use Rattle.dsv_ellipsoid.specs.Disturbance.{is_rough, one_if, roughs, least_sum, greatest_sum}
use Rattle.dsv_ellipsoid.proofs.Errors.{product_errors_lie}
use Rattle.dsv_ellipsoid.proofs.Walks.{signed, sum_of_products, walk, product_lies, times_lies, word_in, one_more}

next_both : (f : Format) (s : Sum) (ts us : List (Summand ℤ)) → next_summands f s (ts ++ us) ≡ next_summands f (next_summands f s ts) us
next_both f s [] us = refl
next_both f s (t ∷ ts) us = next_both f (next_summand f s t) ts us

-- What a line of products that are added and products that are taken away gives: its exact values
-- are words, and its value is the sum with the errors.
pub record Gives (f : Format) (bs cs : List ℤ) (w v : ℕ → ℤ) (intervals : List Range) (t : Sum) : Type 0 where
  pub lie : AllZip HasInterval t.exact intervals
  pub words : All (IsWord f) t.exact
  pub added : ℤ
  pub added_least : (roughs f.frac_bits bs *ℤ (error_range f.rounding f.frac_bits).low) ≤ℤ added
  pub added_most : added ≤ℤ (roughs f.frac_bits bs *ℤ (error_range f.rounding f.frac_bits).high)
  pub taken : ℤ
  pub taken_least : (roughs f.frac_bits cs *ℤ (error_range f.rounding f.frac_bits).low) ≤ℤ taken
  pub taken_most : taken ≤ℤ (roughs f.frac_bits cs *ℤ (error_range f.rounding f.frac_bits).high)
  pub value : pos (2 ^ f.frac_bits) *ℤ t.value ≡ sum_of_products bs w 0 +ℤ added -ℤ (sum_of_products cs v 0 +ℤ taken)

-- the first product of a line
record Begins (f : Format) (c w : ℤ) (s : Sum) (p : Range) : Type 0 where
  inside : LiesIn p s.value
  inside_product : LiesIn p (whole_shift f.rounding f.frac_bits (c *ℤ w))
  words : All (IsWord f) s.exact
  value : s.value ≡ whole_shift f.rounding f.frac_bits (c *ℤ w)

begins : (f : Format) (c w : ℤ) (x : Range) → LiesIn x w → AreWords f (product_interval f c x) → Begins f c w (product f [] c w) (product_interval f c x)
begins f c w x h a =
    let r = whole_shift f.rounding f.frac_bits (c *ℤ w) in
    let p = product_interval f c x in
    let in_p = product_lies f c x w h in
    let word = word_in f p r a in_p in
    let same : fit f.overflow (width f) r ≡ r = fit_same f r word in
    record {
      inside = subst (LiesIn p) (sym same) in_p;
      inside_product = in_p;
      words = All-cons (IsWord f) r [] word (All-nil (IsWord f));
      value = same;
    }

-- the values of both rows
line_value : (d first mid last r a p q u t : ℤ) → first ≡ r → mid ≡ d *ℤ first +ℤ (p +ℤ q) → last ≡ mid +ℤ neg_ℤ (u +ℤ t)
    → last ≡ a +ℤ p +ℤ (d *ℤ r -ℤ a +ℤ q) -ℤ (u +ℤ t)
line_value d first mid last r a p q u t h k l =
    let e : d *ℤ first ≡ d *ℤ r = ap (λ z. d *ℤ z) h in
    omega (arith, ints, e, k, l)

zip_turned : (exact : List ℤ) (all parts : List Range) → all ≡ parts → AllZip HasInterval exact parts → AllZip HasInterval exact all
zip_turned exact all parts e h = subst (AllZip HasInterval exact) (sym e) h

-- a row's intervals with nothing after them
alone : (f : Format) (v : Range) (us : List (Summand Range)) (passed : List Range) → later_intervals f v (us ++ []) ≡ passed ++ [] → later_intervals f v us ≡ passed
alone f v us passed e = ap (later_intervals f v) (sym (append-nil us)) ∙ e ∙ append-nil passed

-- the first interval, those of the first row and those of the second
joined_parts : (p : Range) (all passed tail second : List Range) → all ≡ passed ++ tail → tail ≡ second → p ∷ all ≡ (p ∷ passed) ++ second
joined_parts p all passed tail second h k = ap (λ l. p ∷ l) h ∙ ap (λ l. p ∷ (passed ++ l)) k

pub whole_line : (f : Format) (b : ℤ) (bs cs : List ℤ) (w v : ℕ → ℤ) (x y : Range) → ((i : ℕ) → LiesIn x (w i)) → ((i : ℕ) → LiesIn y (v i))
    → All (AreWords f) (line_intervals f (summands false (b ∷ bs) (λ i. x) 0 ++ summands true cs (λ i. y) 0))
    → Gives f (b ∷ bs) cs w v (line_intervals f (summands false (b ∷ bs) (λ i. x) 0 ++ summands true cs (λ i. y) 0)) (narrow_line f [] (summands false (b ∷ bs) w 0 ++ summands true cs v 0))
unfolding sum_of_products signed
whole_line f b bs cs w v x y hw hv intervals =
    let d = pos (2 ^ f.frac_bits) in
    let e0 = (error_range f.rounding f.frac_bits).low in
    let e1 = (error_range f.rounding f.frac_bits).high in
    let p = product_interval f b x in
    let tail = later_intervals f p (summands false bs (λ i. x) 1 ++ summands true cs (λ i. y) 0) in
    let s0 = product f [] b (w 0) in
    let g = begins f b (w 0) x (hw 0) (All-head (AreWords f) p tail intervals) in
    let first = walk f false bs w x 1 s0 p (summands true cs (λ i. y) 0) g.inside hw g.words (All-tail (AreWords f) p tail intervals) in
    let t1 = next_summands f s0 (summands false bs w 1) in
    let rest : All (AreWords f) (later_intervals f first.reached (summands true cs (λ i. y) 0 ++ [])) =
    subst (λ ts. All (AreWords f) (later_intervals f first.reached ts)) (sym (append-nil (summands true cs (λ i. y) 0))) first.later in
    let second = walk f true cs v y 0 t1 first.reached [] first.inside hv first.words rest in
    let ends = alone f first.reached (summands true cs (λ i. y) 0) second.passed second.parts in
    let whole = joined_parts p tail first.passed (later_intervals f first.reached (summands true cs (λ i. y) 0)) second.passed first.parts ends in
    let own = product_errors_lie f.rounding f.frac_bits b (w 0) in
    let low = one_more (one_if (is_rough f.frac_bits b)) (roughs f.frac_bits bs) e0 in
    let high = one_more (one_if (is_rough f.frac_bits b)) (roughs f.frac_bits bs) e1 in
    let r = whole_shift f.rounding f.frac_bits (b *ℤ w 0) in
    let all = line_intervals f (summands false (b ∷ bs) (λ i. x) 0 ++ summands true cs (λ i. y) 0) in
    subst (Gives f (b ∷ bs) cs w v all) (sym (next_both f s0 (summands false bs w 1) (summands true cs v 0))) (record {
      lie = zip_turned (next_summands f t1 (summands true cs v 0)).exact all ((p ∷ first.passed) ++ second.passed) whole (second.zip (p ∷ first.passed) (first.zip (p ∷ []) (g.inside_product, tt)));
      words = second.words;
      added = d *ℤ r -ℤ b *ℤ w 0 +ℤ first.error;
      added_least = omega (arith, ints, low, own.least, first.least);
      added_most = omega (arith, ints, high, own.most, first.most);
      taken = second.error;
      taken_least = second.least;
      taken_most = second.most;
      value = line_value d s0.value (d *ℤ t1.value) (d *ℤ (next_summands f t1 (summands true cs v 0)).value) r (b *ℤ w 0) (sum_of_products bs w 1) first.error (sum_of_products cs v 0) second.error g.value first.value second.value;
    })

-- the sum of products over an interval
pub record SumLies (cs : List ℤ) (x : Range) (w : ℕ → ℤ) (k : ℕ) : Type 0 where
  pub least : least_sum cs x ≤ℤ sum_of_products cs w k
  pub most : sum_of_products cs w k ≤ℤ greatest_sum cs x

pub sum_lies : (cs : List ℤ) (x : Range) (w : ℕ → ℤ) (k : ℕ) → ((i : ℕ) → LiesIn x (w i)) → SumLies cs x w k
unfolding sum_of_products
sum_lies [] x w k h = record { least = omega (arith, ints); most = omega (arith, ints) }
sum_lies (c ∷ cs) x w k h =
    let own = times_lies c x (w k) (h k) in
    let others = sum_lies cs x w (k + 1) h in
    record { least = omega (arith, ints, own.least, others.least); most = omega (arith, ints, own.most, others.most) }
