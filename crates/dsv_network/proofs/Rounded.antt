-- The weights of values, and the symbol of a quotient.
use Rattle.std.proofs.Common.{◌≡◌, ℕ, zero, suc, ◌+◌, ◌<◌, ◌≤◌, inl, inr, ◌⊎◌, Bool, true, false, if◌then◌else◌, List, [], ◌∷◌, length, refl, sym, ap, ◌∙◌, arith}
use Rattle.std.specs.Prelude.{Some, nat_lt, int_lt}
use Rattle.std.specs.Int.{int_rem_euclid}
use Rattle.std.proofs.Math.IntN.{ℤ, pos, ◌+ℤ◌, ◌-ℤ◌, ◌*ℤ◌}
use Rattle.std.proofs.lemmas.Int.{ints}
use Rattle.std.proofs.lemmas.Bool.{cases_lt, ltb-true, ltb-false}
use lib.Signed.{◌<ℤ◌, ◌≤ℤ◌}
use Rattle.dsv_algebra.proofs.Normaliser.{ring, env, var, plus, times}
use Rattle.dsv_algebra.proofs.Sums.{sum_same, sum_one, sum_none}
use Rattle.dsv_algebra.proofs.Floors.{floored_is}
use Rattle.dsv_algebra.specs.Floor.{floor_of}
use Rattle.dsv_algebra.specs.Narrow.{narrow_of}
use Rattle.dsv_algebra.specs.Vectors.{sum_to}
use Rattle.dsv_word.proofs.Floors.{parted}
use Rattle.dsv_netlist.specs.Nodes.{at}
use Rattle.dsv_linear.specs.declared.range.Range.{Range}
use Rattle.dsv_linear.specs.Forms.{◌>>=◌, range_scale, range_at, both, lower, upper, scaled_range, sums_range}
use Rattle.dsv_linear.specs.Meaning.{LiesIn}
use Rattle.dsv_linear.proofs.Numbers.{some_of, narrow_is, times_none, times_up, times_back}
use Rattle.dsv_linear.proofs.Meanings.{entries_are}
use Rattle.dsv_linear.proofs.Roundings.{both_are, lower_is, upper_is, low_fits, high_fits}
use Rattle.dsv_network.specs.declared.signal.NearQuotient.{NearQuotient}
use Rattle.dsv_network.specs.declared.weights.Part.{Part}
use Rattle.dsv_network.specs.declared.pass.Pass.{Pass}
use Rattle.dsv_network.specs.declared.weights.Weights.{Weights}
use Rattle.dsv_network.specs.Samples.{part_of, kept, added, loss_divisor, symbol_range}
use Rattle.dsv_network.proofs.Bounds.{Spans, positive_part, negative_part, spans_one, spans_none, spans_all, AreSpanned}
use Rattle.dsv_network.proofs.Masses.{mass, mass_same, mass_add, mass_scale}

-- ---- parts of coefficients, added up
-- over T samples, for the symbols of samples
abbrev pub Summed : ℕ → ℕ → ℕ → (ℤ → ℤ) → (ℕ → ℕ → ℤ) → List ℤ → Type 0
Summed n m T g c list = (j : ℕ) → n ≤ j → j < m → at list j ≡ sum_to T (λ a. g (c a j))

-- of the sample before alone, for the symbols that registers begin with
abbrev pub Newest : ℕ → ℕ → (ℤ → ℤ) → (ℕ → ℕ → ℤ) → ℕ → List ℤ → Type 0
Newest n m g c t list = (j : ℕ) → j < n → j < m → at list j ≡ g (c t j)

kept_cases : (b : Bool) (count : ℕ) (old : List ℤ) (j : ℕ) → nat_lt j count ≡ b → count ≤ j → (if b then pos 0 else at old j) ≡ at old j
kept_cases true count old j e l = absurd (let h = ltb-true j count e in omega (arith, h, l))
kept_cases false count old j e l = refl

none_cases : (b : Bool) (count : ℕ) (old : List ℤ) (j : ℕ) → nat_lt j count ≡ b → j < count → (if b then pos 0 else at old j) ≡ pos 0
none_cases true count old j e l = refl
none_cases false count old j e l = absurd (let h = ltb-false j count e in omega (arith, h, l))

added_at : (pass : Pass) (part : Part) (d : ℕ) (old form new : List ℤ) → added pass part d old form ≡ Some new → (j : ℕ) → j < length pass.ranges → at new j ≡ kept pass.count old j +ℤ part_of part d (at form j)
added_at pass part d old form new e = (entries_are (length pass.ranges) (λ j. kept pass.count old j +ℤ part_of part d (at form j)) new e).each

no_first : (x y : ℤ) → x ≡ pos 0 → x +ℤ y ≡ y
no_first x y e = omega (arith, ints)

pub summed_more : (n m t : ℕ) (pass : Pass) (part : Part) (d : ℕ) (c : ℕ → ℕ → ℤ) (old form new : List ℤ) → pass.count ≡ n → length pass.ranges ≡ m → ((j : ℕ) → at form j ≡ c t j) → added pass part d old form ≡ Some new
    → Summed n m t (part_of part d) c old → Summed n m (suc t) (part_of part d) c new
summed_more n m t pass part d c old form new p q f e s j l r =
    added_at pass part d old form new e j (omega (arith, q, r))
    ∙ rw (kept_cases (nat_lt j pass.count) pass.count old j refl (omega (arith, p, l)), s j l r, f j) refl

pub newest_more : (n m t : ℕ) (pass : Pass) (part : Part) (d : ℕ) (c : ℕ → ℕ → ℤ) (old form new : List ℤ) → pass.count ≡ n → length pass.ranges ≡ m → ((j : ℕ) → at form j ≡ c t j) → added pass part d old form ≡ Some new
    → Newest n m (part_of part d) c t new
newest_more n m t pass part d c old form new p q f e j l r =
    added_at pass part d old form new e j (omega (arith, q, r))
    ∙ no_first (kept pass.count old j) (part_of part d (at form j)) (none_cases (nat_lt j pass.count) pass.count old j refl (omega (arith, p, l)))
    ∙ ap (λ v. part_of part d v) (f j)

-- ---- what they bound
-- coefficients e of all samples, of which the newest symbols from `own` on have none, and what is
-- known of the symbols
pub record AreHeld (n m t own : ℕ) (k : ℤ) (us e : ℕ → ℕ → ℤ) (ranges : List Range) : Type 0 where
  pub past : (a j : ℕ) → a < t → j < n → us a j ≡ pos 0
  pub start : (j : ℕ) → j < n → LiesIn k (range_at ranges j) (us t j)
  pub lies : (a j : ℕ) → a ≤ t → n ≤ j → j < m → (0 < a) ⊎ (j < own) → LiesIn k (range_at ranges j) (us a j)
  pub none : (j : ℕ) → own ≤ j → e 0 j ≡ pos 0

one_span : (n m t own : ℕ) (k : ℤ) (us e : ℕ → ℕ → ℤ) (ranges : List Range) (a j : ℕ) → AreHeld n m t own k us e ranges → a ≤ t → n ≤ j → j < m → Spans k (range_at ranges j) (positive_part (e a j)) (negative_part (e a j)) (e a j *ℤ us a j)
one_span n m t own k us e ranges zero j h l p q = elim (cases_lt j own) [
  | inl r ↦ spans_one k (range_at ranges j) (e 0 j) (us 0 j) (h.lies 0 j l p q (inr r))
  | inr r ↦ spans_none k (range_at ranges j) (e 0 j) (us 0 j) (h.none j r)
]
one_span n m t own k us e ranges (suc a) j h l p q = spans_one k (range_at ranges j) (e (suc a) j) (us (suc a) j) (h.lies (suc a) j l p q (inl (omega arith)))

-- weights that are the sums of their parts
pub record Weigh (n m t : ℕ) (e : ℕ → ℕ → ℤ) (w : Weights) : Type 0 where
  pub positive : Summed n m (suc t) positive_part e w.positive
  pub negative : Summed n m (suc t) negative_part e w.negative
  pub first_positive : Newest n m positive_part e t w.positive
  pub first_negative : Newest n m negative_part e t w.negative

pub spanned : (n m t own : ℕ) (k : ℤ) (us e : ℕ → ℕ → ℤ) (ranges : List Range) (w : Weights) → AreHeld n m t own k us e ranges → Weigh n m t e w → (j : ℕ) → j < m
    → Spans k (range_at ranges j) (at w.positive j) (at w.negative j) (sum_to (suc t) (λ a. e a j *ℤ us a j))
spanned n m t own k us e ranges w h g j l = elim (cases_lt j n) [
  | inl p ↦ (let s : sum_to (suc t) (λ a. e a j *ℤ us a j) ≡ e t j *ℤ us t j =
      sum_one (suc t) (λ a. e a j *ℤ us a j) t (omega arith) (λ a q r. ap (λ u. e a j *ℤ u) (h.past a j (omega (arith, q, r)) p) ∙ times_none (e a j)) in
      rw (g.first_positive j p l, g.first_negative j p l, s) (spans_one k (range_at ranges j) (e t j) (us t j) (h.start j p)))
  | inr p ↦ rw (g.positive j p l, g.negative j p l) (spans_all (suc t) k (range_at ranges j) (λ a. positive_part (e a j)) (λ a. negative_part (e a j)) (λ a. e a j *ℤ us a j)
      (λ a q. one_span n m t own k us e ranges a j h (omega (arith, q)) p l))
]

pub all_spanned : (n m t own off : ℕ) (k : ℤ) (us e : ℕ → ℕ → ℤ) (ranges : List Range) (w : Weights) → length ranges ≡ m → AreHeld n m t own k us e ranges → Weigh n m t e w
    → AreSpanned k off ranges w (λ i. sum_to (suc t) (λ a. e a (off + i) *ℤ us a (off + i)))
all_spanned n m t own off k us e ranges w q h g i l = spanned n m t own k us e ranges w h g (off + i) (omega (arith, q, l))

-- ---- what is left over
pub rest_up : (v : ℤ) (d : ℕ) → 0 < d → pos 0 ≤ℤ int_rem_euclid v (pos d)
rest_up v d p = let e = parted v d p in let f = floored_is v d p in let b = f.below in omega (arith, ints, e, b)

positive_cases : (b : Bool) (v : ℤ) → int_lt v (pos 0) ≡ b → pos 0 ≤ℤ v → (if b then pos 0 else v) ≡ v
positive_cases true v e p = absurd (omega (arith, ints))
positive_cases false v e p = refl

negative_cases : (b : Bool) (v : ℤ) → int_lt v (pos 0) ≡ b → pos 0 ≤ℤ v → (if b then v else pos 0) ≡ pos 0
negative_cases true v e p = absurd (omega (arith, ints))
negative_cases false v e p = refl

-- the weights of what is left over
pub rests_weigh : (n m t d : ℕ) (c : ℕ → ℕ → ℤ) (w : Weights) → 0 < d → Summed n m (suc t) (λ v. int_rem_euclid v (pos d)) c w.positive → Newest n m (λ v. int_rem_euclid v (pos d)) c t w.positive → w.negative ≡ []
    → Weigh n m t (λ a j. int_rem_euclid (c a j) (pos d)) w
rests_weigh n m t d c w p s f z =
    let up : (v : ℤ) → positive_part (int_rem_euclid v (pos d)) ≡ int_rem_euclid v (pos d) = λ v. positive_cases (int_lt (int_rem_euclid v (pos d)) (pos 0)) (int_rem_euclid v (pos d)) refl (rest_up v d p) in
    let down : (v : ℤ) → negative_part (int_rem_euclid v (pos d)) ≡ pos 0 = λ v. negative_cases (int_lt (int_rem_euclid v (pos d)) (pos 0)) (int_rem_euclid v (pos d)) refl (rest_up v d p) in
    let nothing : (j : ℕ) → at w.negative j ≡ pos 0 = λ j. ap (λ (xs : List ℤ). at xs j) z in
    record {
      positive = λ j l r. s j l r ∙ sym (sum_same (suc t) (λ a. positive_part (int_rem_euclid (c a j) (pos d))) (λ a. int_rem_euclid (c a j) (pos d)) (λ a q. up (c a j)));
      negative = λ j l r. nothing j ∙ sym (sum_same (suc t) (λ a. negative_part (int_rem_euclid (c a j) (pos d))) (λ a. pos 0) (λ a q. down (c a j)) ∙ sum_none (suc t));
      first_positive = λ j l r. f j l r ∙ sym (up (c t j));
      first_negative = λ j l r. nothing j ∙ sym (down (c t j));
    }

turned_part : (q d r : ℤ) → q *ℤ d +ℤ r ≡ d *ℤ q +ℤ r
turned_part q d r = ring (env (q ∷ d ∷ r ∷ [])) (plus (times (var 0) (var 1)) (var 2)) (plus (times (var 1) (var 0)) (var 2)) refl

pub mass_parted : (m n d : ℕ) (c us : ℕ → ℕ → ℤ) → 0 < d → mass m n c us ≡ pos d *ℤ mass m n (λ a j. floor_of (c a j) d) us +ℤ mass m n (λ a j. int_rem_euclid (c a j) (pos d)) us
mass_parted m n d c us p =
    let q : ℕ → ℕ → ℤ = λ a j. floor_of (c a j) d in
    let e : ℕ → ℕ → ℤ = λ a j. int_rem_euclid (c a j) (pos d) in
    mass_same m n c (λ a j. pos d *ℤ q a j +ℤ e a j) us (λ a j l r. parted (c a j) d p ∙ turned_part (q a j) (pos d) (e a j))
    ∙ mass_add m n (λ a j. pos d *ℤ q a j) e us
    ∙ ap (λ x. x +ℤ mass m n e us) (mass_scale m n (pos d) q us)

-- ---- the range of a quotient's symbol
pub record AreEnds (near : NearQuotient) (sums symbol : Range) : Type 0 where
  pub low_end : (pos (loss_divisor near) *ℤ symbol.low) ≤ℤ (pos (loss_divisor near) *ℤ (pos range_scale *ℤ near.errors.low) +ℤ sums.low)
  pub high_end : (pos (loss_divisor near) *ℤ (pos range_scale *ℤ near.errors.high) +ℤ sums.high) ≤ℤ (pos (loss_divisor near) *ℤ symbol.high)

pub symbol_ends : (near : NearQuotient) (sums symbol : Range) → 0 < loss_divisor near → symbol_range near sums ≡ Some symbol → AreEnds near sums symbol
symbol_ends near sums symbol p e =
    let d = loss_divisor near in
    let errors = near.errors in
    let four = some_of (both (lower sums.low d) (upper sums.high d)) (λ loss. scaled_range errors >>= λ error. sums_range error loss) symbol e in
    let five = some_of (scaled_range errors) (λ error. sums_range error four.0) symbol four.2 in
    let loss = both_are (lower sums.low d) (upper sums.high d) four.0 four.1 in
    let error = both_are (narrow_of (pos range_scale *ℤ errors.low)) (narrow_of (pos range_scale *ℤ errors.high)) five.0 five.1 in
    let all = both_are (narrow_of (five.0.low +ℤ four.0.low)) (narrow_of (five.0.high +ℤ four.0.high)) symbol five.2 in
    let down = lower_is sums.low d four.0.low p loss.low_is in
    let up = upper_is sums.high d four.0.high p loss.high_is in
    record {
      low_end = low_fits (pos d) symbol.low five.0.low four.0.low sums.low (pos range_scale) errors.low (narrow_is (five.0.low +ℤ four.0.low) symbol.low all.low_is) (narrow_is (pos range_scale *ℤ errors.low) five.0.low error.low_is) down.below;
      high_end = high_fits (pos d) symbol.high five.0.high four.0.high sums.high (pos range_scale) errors.high (narrow_is (five.0.high +ℤ four.0.high) symbol.high all.high_is) (narrow_is (pos range_scale *ℤ errors.high) five.0.high error.high_is) up.above;
    }

-- ---- the symbol lies in it
first_part : (s t d b step k v w new rests : ℤ) → s ≡ b *ℤ step → d *ℤ new ≡ s *ℤ k *ℤ (d *ℤ w -ℤ v) +ℤ rests → d *ℤ (t *ℤ new) ≡ t *ℤ k *ℤ step *ℤ (b *ℤ (d *ℤ w -ℤ v)) +ℤ t *ℤ rests
first_part s t d b step k v w new rests p q =
    let x = d *ℤ w -ℤ v in
    ring (env (d ∷ t ∷ new ∷ [])) (times (var 0) (times (var 1) (var 2))) (times (var 1) (times (var 0) (var 2))) refl
    ∙ ap (λ y. t *ℤ y) (q ∙ ap (λ z. z *ℤ k *ℤ x +ℤ rests) p)
    ∙ ring (env (t ∷ b ∷ step ∷ k ∷ x ∷ rests ∷ [])) (times (var 0) (plus (times (times (times (var 1) (var 2)) (var 3)) (var 4)) (var 5))) (plus (times (times (times (var 0) (var 3)) (var 2)) (times (var 1) (var 4))) (times (var 0) (var 5))) refl

second_part : (t d step k o e : ℤ) → t *ℤ k *ℤ step *ℤ (d *ℤ (o *ℤ e)) ≡ k *ℤ o *ℤ (d *ℤ step *ℤ (t *ℤ e))
second_part t d step k o e = ring (env (t ∷ d ∷ step ∷ k ∷ o ∷ e ∷ [])) (times (times (times (var 0) (var 3)) (var 2)) (times (var 1) (times (var 4) (var 5)))) (times (times (var 3) (var 4)) (times (times (var 1) (var 2)) (times (var 0) (var 5)))) refl

third_part : (b x y : ℤ) → b *ℤ (x +ℤ y) ≡ b *ℤ x +ℤ b *ℤ y
third_part b x y = ring (env (b ∷ x ∷ y ∷ [])) (times (var 0) (plus (var 1) (var 2))) (plus (times (var 0) (var 1)) (times (var 0) (var 2))) refl

fourth_part : (b d step e : ℤ) → b *ℤ (d *ℤ step *ℤ e) ≡ d *ℤ (b *ℤ step *ℤ e)
fourth_part b d step e = ring (env (b ∷ d ∷ step ∷ e ∷ [])) (times (var 0) (times (times (var 1) (var 2)) (var 3))) (times (var 1) (times (times (var 0) (var 2)) (var 3))) refl

-- what is known of a quotient w of v by d with an error over b, and of its symbol
pub record Quotes (s t d b step k o v w new rests : ℤ) : Type 0 where
  pub parts : s ≡ b *ℤ step
  pub symbol : d *ℤ new ≡ s *ℤ k *ℤ (d *ℤ w -ℤ v) +ℤ rests
  pub d_up : pos 0 <ℤ d
  pub t_up : pos 0 ≤ℤ (t *ℤ k *ℤ step)
  pub k_up : pos 0 ≤ℤ (k *ℤ o)

pub most_near : (s t d b step k o v w new rests high most new_high : ℤ) → Quotes s t d b step k o v w new rests → (b *ℤ (d *ℤ w -ℤ v)) ≤ℤ (d *ℤ (o *ℤ most)) → (t *ℤ rests) ≤ℤ (k *ℤ o *ℤ high)
    → (d *ℤ step *ℤ (t *ℤ most) +ℤ high) ≤ℤ (d *ℤ step *ℤ new_high) → (t *ℤ new) ≤ℤ (k *ℤ o *ℤ step *ℤ new_high)
most_near s t d b step k o v w new rests high most new_high q e r n =
    let x = times_up (t *ℤ k *ℤ step) (b *ℤ (d *ℤ w -ℤ v)) (d *ℤ (o *ℤ most)) q.t_up e in
    let y = times_up (k *ℤ o) (d *ℤ step *ℤ (t *ℤ most) +ℤ high) (d *ℤ step *ℤ new_high) q.k_up n in
    let first = first_part s t d b step k v w new rests q.parts q.symbol in
    let second = second_part t d step k o most in
    let third = third_part (k *ℤ o) (d *ℤ step *ℤ (t *ℤ most)) high in
    let fourth = fourth_part (k *ℤ o) d step new_high in
    times_back d (t *ℤ new) (k *ℤ o *ℤ step *ℤ new_high) q.d_up (omega (arith, ints, x, y, r, first, second, third, fourth))

pub least_near : (s t d b step k o v w new rests low least new_low : ℤ) → Quotes s t d b step k o v w new rests → (d *ℤ (o *ℤ least)) ≤ℤ (b *ℤ (d *ℤ w -ℤ v)) → (k *ℤ o *ℤ low) ≤ℤ (t *ℤ rests)
    → (d *ℤ step *ℤ new_low) ≤ℤ (d *ℤ step *ℤ (t *ℤ least) +ℤ low) → (k *ℤ o *ℤ step *ℤ new_low) ≤ℤ (t *ℤ new)
least_near s t d b step k o v w new rests low least new_low q e r n =
    let x = times_up (t *ℤ k *ℤ step) (d *ℤ (o *ℤ least)) (b *ℤ (d *ℤ w -ℤ v)) q.t_up e in
    let y = times_up (k *ℤ o) (d *ℤ step *ℤ new_low) (d *ℤ step *ℤ (t *ℤ least) +ℤ low) q.k_up n in
    let first = first_part s t d b step k v w new rests q.parts q.symbol in
    let second = second_part t d step k o least in
    let third = third_part (k *ℤ o) (d *ℤ step *ℤ (t *ℤ least)) low in
    let fourth = fourth_part (k *ℤ o) d step new_low in
    times_back d (k *ℤ o *ℤ step *ℤ new_low) (t *ℤ new) q.d_up (omega (arith, ints, x, y, r, first, second, third, fourth))
