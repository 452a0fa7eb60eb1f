-- Bounds of forms, and forms of values that are rounded.
use Rattle.std.proofs.Common.{◌≡◌, ℕ, suc, ◌*◌, ◌/◌, ◌<◌, Bool, true, false, if◌then◌else◌, List, [], ◌∷◌, ◌++◌, length, refl, sym, subst, ap, ◌∙◌, arith}
use Rattle.std.specs.Prelude.{Option, Some, int_lt}
use Rattle.std.proofs.Math.IntN.{ℤ, pos, ◌+ℤ◌, ◌-ℤ◌, ◌*ℤ◌, neg_ℤ}
use Rattle.std.specs.Int.{int_rem_euclid}
use Rattle.std.proofs.lemmas.Int.{ints}
use Rattle.std.proofs.lemmas.List.{get_or_append_left, get_or_push, length_push}
use lib.Signed.{◌<ℤ◌, ◌≤ℤ◌}
use Rattle.dsv_algebra.proofs.Normaliser.{ring, env, var, num, plus, times, minus}
use Rattle.dsv_algebra.proofs.Signs.{mul_not_negative, not_negative_factor, positive_factor}
use Rattle.dsv_algebra.proofs.Sums.{sum_same, sum_add, sum_scale}
use Rattle.dsv_algebra.proofs.Floors.{floored_is}
use Rattle.dsv_algebra.specs.Floor.{IsFloor, floor_of}
use Rattle.dsv_algebra.specs.Narrow.{narrow_of}
use Rattle.dsv_algebra.specs.Vectors.{sum_to}
use Rattle.dsv_word.proofs.Floors.{parted}
use Rattle.dsv_netlist.specs.Nodes.{at}
use Rattle.dsv_linear.specs.Facts.{Between}
use Rattle.dsv_linear.specs.declared.range.Range.{Range}
use Rattle.dsv_linear.specs.declared.point.Entry.{Entry}
use Rattle.dsv_linear.specs.Forms.{◌>>=◌, scale, range_scale, range, range_at, both, lower, upper, least_term, greatest_term, least, greatest, quotients, rests, loss_range, scaled_range, sums_range, symbol_range, with_symbol, rounded, form_range}
use Rattle.dsv_linear.specs.Meaning.{sum_at, Means, LiesIn, AreSymbols, grown}
use Rattle.dsv_linear.proofs.Numbers.{some_of, narrow_is, times_up, times_down, times_back, sum_le}
use Rattle.dsv_linear.proofs.Meanings.{AreEntries, entries_are, total_is, grown_last, sum_before, turned}

-- ---- sums of worst cases

pub least_le : (b : Bool) (k t c low high u : ℤ) → int_lt c (pos 0) ≡ b → (k *ℤ low) ≤ℤ (t *ℤ u) → (t *ℤ u) ≤ℤ (k *ℤ high)
    → (k *ℤ (c *ℤ (if b then high else low))) ≤ℤ (t *ℤ (c *ℤ u))
least_le true k t c low high u e l h = rw (turned c k high, turned c t u) (times_down c (t *ℤ u) (k *ℤ high) (omega (arith, ints)) h)
least_le false k t c low high u e l h = rw (turned c k low, turned c t u) (times_up c (k *ℤ low) (t *ℤ u) (omega (arith, ints)) l)

pub greatest_le : (b : Bool) (k t c low high u : ℤ) → int_lt c (pos 0) ≡ b → (k *ℤ low) ≤ℤ (t *ℤ u) → (t *ℤ u) ≤ℤ (k *ℤ high)
    → (t *ℤ (c *ℤ u)) ≤ℤ (k *ℤ (c *ℤ (if b then low else high)))
greatest_le true k t c low high u e l h = rw (turned c k low, turned c t u) (times_down c (k *ℤ low) (t *ℤ u) (omega (arith, ints)) l)
greatest_le false k t c low high u e l h = rw (turned c k high, turned c t u) (times_up c (t *ℤ u) (k *ℤ high) (omega (arith, ints)) h)

pub least_bounds : (k : ℤ) (us : ℕ → ℤ) (ranges : List Range) (form : List ℤ) (low : ℤ) → AreSymbols k us ranges → least ranges form ≡ Some low
    → (k *ℤ low) ≤ℤ (pos range_scale *ℤ sum_at (length ranges) form us)
least_bounds k us ranges form low a e =
    let n = length ranges in
    let t = pos range_scale in
    let s : k *ℤ low ≡ sum_to n (λ j. k *ℤ least_term ranges form j) = ap (λ z. k *ℤ z) (total_is n (least_term ranges form) low e) ∙ sym (sum_scale n k (least_term ranges form)) in
    rw (s, ← sum_scale n t (λ j. at form j *ℤ us j)) (sum_le n (λ j. k *ℤ least_term ranges form j) (λ j. t *ℤ (at form j *ℤ us j))
    (λ j p. let w = a.within j p in least_le (int_lt (at form j) (pos 0)) k t (at form j) (range_at ranges j).low (range_at ranges j).high (us j) refl w.least w.most))

pub greatest_bounds : (k : ℤ) (us : ℕ → ℤ) (ranges : List Range) (form : List ℤ) (high : ℤ) → AreSymbols k us ranges → greatest ranges form ≡ Some high
    → (pos range_scale *ℤ sum_at (length ranges) form us) ≤ℤ (k *ℤ high)
greatest_bounds k us ranges form high a e =
    let n = length ranges in
    let t = pos range_scale in
    let s : k *ℤ high ≡ sum_to n (λ j. k *ℤ greatest_term ranges form j) = ap (λ z. k *ℤ z) (total_is n (greatest_term ranges form) high e) ∙ sym (sum_scale n k (greatest_term ranges form)) in
    rw (s, ← sum_scale n t (λ j. at form j *ℤ us j)) (sum_le n (λ j. t *ℤ (at form j *ℤ us j)) (λ j. k *ℤ greatest_term ranges form j)
    (λ j p. let w = a.within j p in greatest_le (int_lt (at form j) (pos 0)) k t (at form j) (range_at ranges j).low (range_at ranges j).high (us j) refl w.least w.most))

-- ---- quotients
pub record AreBoth (low high : Option ℤ) (r : Range) : Type 0 where
  pub low_is : low ≡ Some r.low
  pub high_is : high ≡ Some r.high

pub both_are : (low high : Option ℤ) (r : Range) → both low high ≡ Some r → AreBoth low high r
both_are low high r e =
    let first = some_of low (λ l. high >>= λ h. Some (range l h)) r e in
    let second = some_of high (λ h. Some (range first.0 h)) r first.2 in
    let same : range first.0 second.0 ≡ r = let s = second.2 in cc in
    record { low_is = first.1 ∙ ap (λ q. Some q.low) same; high_is = second.1 ∙ ap (λ q. Some q.high) same }

pub lower_is : (v : ℤ) (d : ℕ) (w : ℤ) → 0 < d → lower v d ≡ Some w → IsFloor v d w
lower_is v d w p e = rw (narrow_is (floor_of v d) w e) (floored_is v d p)

-- the least whole number that isn't below the quotient
pub record IsUpper (v : ℤ) (d : ℕ) (w : ℤ) : Type 0 where
  pub above : v ≤ℤ (w *ℤ pos d)
  pub below : (w *ℤ pos d) <ℤ (v +ℤ pos d)

more_times : (w d : ℤ) → (w +ℤ pos 1) *ℤ d ≡ w *ℤ d +ℤ d
more_times w d = ring (env (w ∷ d ∷ [])) (times (plus (var 0) (num (pos 1))) (var 1)) (plus (times (var 0) (var 1)) (var 1)) refl

pub upper_is : (v : ℤ) (d : ℕ) (w : ℤ) → 0 < d → upper v d ≡ Some w → IsUpper v d w
upper_is v d w p e =
    let first = some_of (narrow_of (v +ℤ (pos d -ℤ pos 1))) (λ sum. narrow_of (floor_of sum d)) w e in
    let sum = narrow_is (v +ℤ (pos d -ℤ pos 1)) first.0 first.1 in
    let f = lower_is first.0 d w p first.2 in
    let g = more_times w (pos d) in
    let above = f.above in let below = f.below in
    record { above = omega (arith, ints); below = omega (arith, ints) }

-- ---- the range of a form
pub scale_positive : pos 0 <ℤ pos scale
unfolding scale
scale_positive = omega (arith, ints)

pub range_scale_positive : pos 0 <ℤ pos range_scale
unfolding range_scale
range_scale_positive = omega (arith, ints)

pub full_scale_positive : 0 < scale * range_scale
unfolding scale range_scale
full_scale_positive = omega arith

pub full_scale_is : pos (scale * range_scale) ≡ pos scale *ℤ pos range_scale
full_scale_is = omega (arith, ints)

-- t (s k v) is k times the value at both scales
pub rescaled : (s t k v : ℤ) → t *ℤ (s *ℤ k *ℤ v) ≡ k *ℤ (v *ℤ (s *ℤ t))
rescaled s t k v = ring (env (s ∷ t ∷ k ∷ v ∷ [])) (times (var 1) (times (times (var 0) (var 2)) (var 3))) (times (var 2) (times (var 3) (times (var 0) (var 1)))) refl

pub not_above : (low v d least : ℤ) → pos 0 <ℤ d → least ≤ℤ (v *ℤ d) → (low *ℤ d) <ℤ (least +ℤ d) → low ≤ℤ v
not_above low v d least p h e =
    let f : d *ℤ (v -ℤ low +ℤ pos 1) ≡ v *ℤ d -ℤ low *ℤ d +ℤ d = ring (env (d ∷ v ∷ low ∷ [])) (times (var 0) (plus (plus (var 1) (minus (var 2))) (num (pos 1)))) (plus (plus (times (var 1) (var 0)) (minus (times (var 2) (var 0)))) (var 0)) refl in
    let x : pos 0 <ℤ (v -ℤ low +ℤ pos 1) = positive_factor d (v -ℤ low +ℤ pos 1) p (rw f (omega (arith, ints))) in
    omega (arith, ints)

pub not_below : (high v d most : ℤ) → pos 0 <ℤ d → (v *ℤ d) ≤ℤ most → most <ℤ ((high +ℤ pos 1) *ℤ d) → v ≤ℤ high
not_below high v d most p h e =
    let f : d *ℤ (high -ℤ v +ℤ pos 1) ≡ (high +ℤ pos 1) *ℤ d -ℤ v *ℤ d = ring (env (d ∷ v ∷ high ∷ [])) (times (var 0) (plus (plus (var 2) (minus (var 1))) (num (pos 1)))) (plus (times (plus (var 2) (num (pos 1))) (var 0)) (minus (times (var 1) (var 0)))) refl in
    let x : pos 0 <ℤ (high -ℤ v +ℤ pos 1) = positive_factor d (high -ℤ v +ℤ pos 1) p (rw f (omega (arith, ints))) in
    omega (arith, ints)

pub form_ranges : (k : ℤ) (us : ℕ → ℤ) (ranges : List Range) (form : List ℤ) (v : ℤ) (ends : Range) → AreSymbols k us ranges → Means (length ranges) k us form v
    → form_range ranges form ≡ Some ends → Between ends.low ends.high v
form_ranges k us ranges form v ends a m e =
    let full = scale * range_scale in
    let first = some_of (least ranges form) (λ low. greatest ranges form >>= λ high. both (upper low full) (lower high full)) ends e in
    let second = some_of (greatest ranges form) (λ high. both (upper first.0 full) (lower high full)) ends first.2 in
    let b = both_are (upper first.0 full) (lower second.0 full) ends second.2 in
    let up = upper_is first.0 full ends.low full_scale_positive b.low_is in
    let down = lower_is second.0 full ends.high full_scale_positive b.high_is in
    let same : pos range_scale *ℤ sum_at (length ranges) form us ≡ k *ℤ (v *ℤ pos full) =
    ap (λ z. pos range_scale *ℤ z) (sym m.exact) ∙ rescaled (pos scale) (pos range_scale) k v ∙ ap (λ z. k *ℤ (v *ℤ z)) (sym full_scale_is) in
    let x : first.0 ≤ℤ (v *ℤ pos full) = times_back k first.0 (v *ℤ pos full) a.positive (rw same at (least_bounds k us ranges form first.0 a first.1)) in
    let y : (v *ℤ pos full) ≤ℤ second.0 = times_back k (v *ℤ pos full) second.0 a.positive (rw same at (greatest_bounds k us ranges form second.0 a second.1)) in
    let positive : pos 0 <ℤ pos full = let p = full_scale_positive in omega (arith, ints) in
    record { least = not_above ends.low v (pos full) first.0 positive x up.below; most = not_below ends.high v (pos full) second.0 positive y down.above }

-- ---- a value that is rounded
-- the quotients, what is left of them, and the range of the new symbol
pub record IsRounded (d : ℕ) (errors : Range) (ranges : List Range) (form : List ℤ) (entry : Entry) : Type 0 where
  pub quotients : List ℤ
  pub rests : List ℤ
  pub symbol : Range
  pub low : ℤ
  pub high : ℤ
  pub are_quotients : AreEntries (length ranges) (λ j. floor_of (at form j) d) quotients
  pub are_rests : AreEntries (length ranges) (λ j. int_rem_euclid (at form j) (pos d)) rests
  pub is_least : least ranges rests ≡ Some low
  pub is_greatest : greatest ranges rests ≡ Some high
  pub low_end : (pos scale *ℤ symbol.low) ≤ℤ (pos scale *ℤ (pos range_scale *ℤ errors.low) +ℤ low)
  pub high_end : (pos scale *ℤ (pos range_scale *ℤ errors.high) +ℤ high) ≤ℤ (pos scale *ℤ symbol.high)
  pub form_is : entry.form ≡ quotients ++ pos (scale / d) ∷ []
  pub symbol_is : entry.symbol ≡ Some symbol

grouped : (s a b : ℤ) → s *ℤ (a +ℤ b) ≡ s *ℤ a +ℤ b *ℤ s
grouped s a b = ring (env (s ∷ a ∷ b ∷ [])) (times (var 0) (plus (var 1) (var 2))) (plus (times (var 0) (var 1)) (times (var 2) (var 0))) refl

pub low_fits : (s new error loss low t least : ℤ) → new ≡ error +ℤ loss → error ≡ t *ℤ least → (loss *ℤ s) ≤ℤ low → (s *ℤ new) ≤ℤ (s *ℤ (t *ℤ least) +ℤ low)
low_fits s new error loss low t least e g h = rw (e, grouped s error loss, g) (omega (arith, ints))

pub high_fits : (s new error loss high t most : ℤ) → new ≡ error +ℤ loss → error ≡ t *ℤ most → high ≤ℤ (loss *ℤ s) → (s *ℤ (t *ℤ most) +ℤ high) ≤ℤ (s *ℤ new)
high_fits s new error loss high t most e g h = rw (e, grouped s error loss, g) (omega (arith, ints))

pub rounded_is : (d : ℕ) (errors : Range) (ranges : List Range) (form : List ℤ) (entry : Entry) → rounded d errors ranges form ≡ Some entry → IsRounded d errors ranges form entry
rounded_is d errors ranges form entry e =
    let n = length ranges in
    let p : 0 < scale = let h = scale_positive in omega (arith, ints) in
    let one = some_of (quotients n d form) (λ qs. rests n d form >>= λ rs. symbol_range errors ranges rs >>= λ symbol. with_symbol (qs ++ pos (scale / d) ∷ []) symbol) entry e in
    let two = some_of (rests n d form) (λ rs. symbol_range errors ranges rs >>= λ symbol. with_symbol (one.0 ++ pos (scale / d) ∷ []) symbol) entry one.2 in
    let three = some_of (symbol_range errors ranges two.0) (λ symbol. with_symbol (one.0 ++ pos (scale / d) ∷ []) symbol) entry two.2 in
    let four = some_of (loss_range ranges two.0) (λ loss. scaled_range errors >>= λ error. sums_range error loss) three.0 three.1 in
    let five = some_of (scaled_range errors) (λ error. sums_range error four.0) three.0 four.2 in
    let six = some_of (least ranges two.0) (λ low. greatest ranges two.0 >>= λ high. both (lower low scale) (upper high scale)) four.0 four.1 in
    let seven = some_of (greatest ranges two.0) (λ high. both (lower six.0 scale) (upper high scale)) four.0 six.2 in
    let loss = both_are (lower six.0 scale) (upper seven.0 scale) four.0 seven.2 in
    let error = both_are (narrow_of (pos range_scale *ℤ errors.low)) (narrow_of (pos range_scale *ℤ errors.high)) five.0 five.1 in
    let both_ends = both_are (narrow_of (five.0.low +ℤ four.0.low)) (narrow_of (five.0.high +ℤ four.0.high)) three.0 five.2 in
    let down = lower_is six.0 scale four.0.low p loss.low_is in
    let up = upper_is seven.0 scale four.0.high p loss.high_is in
    let made : Some (record { form = one.0 ++ pos (scale / d) ∷ []; symbol = Some three.0 }) ≡ Some entry = three.2 in
    let same : entry ≡ record { form = one.0 ++ pos (scale / d) ∷ []; symbol = Some three.0 } = cc in
    record {
      quotients = one.0;
      rests = two.0;
      symbol = three.0;
      low = six.0;
      high = seven.0;
      are_quotients = entries_are n (λ j. floor_of (at form j) d) one.0 one.1;
      are_rests = entries_are n (λ j. int_rem_euclid (at form j) (pos d)) two.0 two.1;
      is_least = six.1;
      is_greatest = seven.1;
      low_end = low_fits (pos scale) three.0.low five.0.low four.0.low six.0 (pos range_scale) errors.low (narrow_is (five.0.low +ℤ four.0.low) three.0.low both_ends.low_is) (narrow_is (pos range_scale *ℤ errors.low) five.0.low error.low_is) down.below;
      high_end = high_fits (pos scale) three.0.high five.0.high four.0.high seven.0 (pos range_scale) errors.high (narrow_is (five.0.high +ℤ four.0.high) three.0.high both_ends.high_is) (narrow_is (pos range_scale *ℤ errors.high) five.0.high error.high_is) up.above;
      form_is = ap (λ x. x.form) same;
      symbol_is = ap (λ x. x.symbol) same;
    }

-- the coefficients are d times the quotients and what is left
part : (d q r u : ℤ) → (q *ℤ d +ℤ r) *ℤ u ≡ d *ℤ (q *ℤ u) +ℤ r *ℤ u
part d q r u = ring (env (d ∷ q ∷ r ∷ u ∷ [])) (times (plus (times (var 1) (var 0)) (var 2)) (var 3)) (plus (times (var 0) (times (var 1) (var 3))) (times (var 2) (var 3))) refl

sums_parted : (n : ℕ) (d : ℕ) (form qs rs : List ℤ) (us : ℕ → ℤ) → 0 < d → AreEntries n (λ j. floor_of (at form j) d) qs → AreEntries n (λ j. int_rem_euclid (at form j) (pos d)) rs
    → sum_at n form us ≡ pos d *ℤ sum_at n qs us +ℤ sum_at n rs us
sums_parted n d form qs rs us p a b =
    sum_same n (λ j. at form j *ℤ us j) (λ j. pos d *ℤ (at qs j *ℤ us j) +ℤ at rs j *ℤ us j)
    (λ j h. ap (λ t. t *ℤ us j) (parted (at form j) d p) ∙ part (pos d) (floor_of (at form j) d) (int_rem_euclid (at form j) (pos d)) (us j)
    ∙ rw (a.each j h, b.each j h) refl)
    ∙ sum_add n (λ j. pos d *ℤ (at qs j *ℤ us j)) (λ j. at rs j *ℤ us j)
    ∙ ap (λ t. t +ℤ sum_at n rs us) (sum_scale n (pos d) (λ j. at qs j *ℤ us j))

-- d times the new symbol is the error and what the coefficients lose
pub new_symbol : (s d k v w qs rs : ℤ) → s *ℤ k *ℤ v ≡ d *ℤ qs +ℤ rs → d *ℤ (s *ℤ k *ℤ w -ℤ qs) ≡ s *ℤ k *ℤ (d *ℤ w -ℤ v) +ℤ rs
new_symbol s d k v w qs rs e =
    let first : d *ℤ (s *ℤ k *ℤ w -ℤ qs) ≡ s *ℤ k *ℤ (d *ℤ w) -ℤ d *ℤ qs =
    ring (env (s ∷ d ∷ k ∷ w ∷ qs ∷ [])) (times (var 1) (plus (times (times (var 0) (var 2)) (var 3)) (minus (var 4)))) (plus (times (times (var 0) (var 2)) (times (var 1) (var 3))) (minus (times (var 1) (var 4)))) refl in
    let second : s *ℤ k *ℤ (d *ℤ w -ℤ v) ≡ s *ℤ k *ℤ (d *ℤ w) -ℤ s *ℤ k *ℤ v =
    ring (env (s ∷ d ∷ k ∷ w ∷ v ∷ [])) (times (times (var 0) (var 2)) (plus (times (var 1) (var 3)) (minus (var 4)))) (plus (times (times (var 0) (var 2)) (times (var 1) (var 3))) (minus (times (times (var 0) (var 2)) (var 4)))) refl in
    omega (arith, ints, first, second)

-- d times a difference, in parts that aren't negative
above : (s t d step k e new rests high most new_high : ℤ) → s ≡ d *ℤ step → d *ℤ new ≡ s *ℤ k *ℤ e +ℤ rests
    → d *ℤ (k *ℤ step *ℤ new_high -ℤ t *ℤ new) ≡ k *ℤ (s *ℤ new_high -ℤ (s *ℤ (t *ℤ most) +ℤ high)) +ℤ (s *ℤ k *ℤ t) *ℤ (most -ℤ e) +ℤ (k *ℤ high -ℤ t *ℤ rests)
above s t d step k e new rests high most new_high p q =
    ring (env (t ∷ d ∷ step ∷ k ∷ new ∷ new_high ∷ [])) (times (var 1) (plus (times (times (var 3) (var 2)) (var 5)) (minus (times (var 0) (var 4))))) (plus (times (times (var 3) (times (var 1) (var 2))) (var 5)) (minus (times (var 0) (times (var 1) (var 4))))) refl
    ∙ ap (λ z. k *ℤ z *ℤ new_high -ℤ t *ℤ (d *ℤ new)) (sym p)
    ∙ ap (λ z. k *ℤ s *ℤ new_high -ℤ t *ℤ z) q
    ∙ ring (env (s ∷ t ∷ k ∷ e ∷ rests ∷ high ∷ most ∷ new_high ∷ []))
    (plus (times (times (var 2) (var 0)) (var 7)) (minus (times (var 1) (plus (times (times (var 0) (var 2)) (var 3)) (var 4)))))
    (plus (plus (times (var 2) (plus (times (var 0) (var 7)) (minus (plus (times (var 0) (times (var 1) (var 6))) (var 5))))) (times (times (times (var 0) (var 2)) (var 1)) (plus (var 6) (minus (var 3))))) (plus (times (var 2) (var 5)) (minus (times (var 1) (var 4))))) refl

flipped : (d a b : ℤ) → d *ℤ (b -ℤ a) ≡ neg_ℤ (d *ℤ (a -ℤ b))
flipped d a b = ring (env (d ∷ a ∷ b ∷ [])) (times (var 0) (plus (var 2) (minus (var 1)))) (minus (times (var 0) (plus (var 1) (minus (var 2))))) refl

pub most_fits : (s t d step k e new rests high most new_high : ℤ) → s ≡ d *ℤ step → pos 0 <ℤ d → pos 0 ≤ℤ s → pos 0 ≤ℤ t → pos 0 ≤ℤ k
    → d *ℤ new ≡ s *ℤ k *ℤ e +ℤ rests → e ≤ℤ most → (t *ℤ rests) ≤ℤ (k *ℤ high) → (s *ℤ (t *ℤ most) +ℤ high) ≤ℤ (s *ℤ new_high)
    → (t *ℤ new) ≤ℤ (k *ℤ step *ℤ new_high)
most_fits s t d step k e new rests high most new_high p dp sp tp kp q em rm nh =
    let skt : pos 0 ≤ℤ (s *ℤ k *ℤ t) = mul_not_negative (s *ℤ k) t (mul_not_negative s k sp kp) tp in
    let a = mul_not_negative k (s *ℤ new_high -ℤ (s *ℤ (t *ℤ most) +ℤ high)) kp (omega (arith, ints)) in
    let b = mul_not_negative (s *ℤ k *ℤ t) (most -ℤ e) skt (omega (arith, ints)) in
    let up : pos 0 ≤ℤ (d *ℤ (k *ℤ step *ℤ new_high -ℤ t *ℤ new)) = rw (above s t d step k e new rests high most new_high p q) (omega (arith, ints)) in
    let x = not_negative_factor d (k *ℤ step *ℤ new_high -ℤ t *ℤ new) dp up in
    omega (arith, ints)

pub least_fits : (s t d step k e new rests low least new_low : ℤ) → s ≡ d *ℤ step → pos 0 <ℤ d → pos 0 ≤ℤ s → pos 0 ≤ℤ t → pos 0 ≤ℤ k
    → d *ℤ new ≡ s *ℤ k *ℤ e +ℤ rests → least ≤ℤ e → (k *ℤ low) ≤ℤ (t *ℤ rests) → (s *ℤ new_low) ≤ℤ (s *ℤ (t *ℤ least) +ℤ low)
    → (k *ℤ step *ℤ new_low) ≤ℤ (t *ℤ new)
least_fits s t d step k e new rests low least new_low p dp sp tp kp q el rl nl =
    let skt : pos 0 ≤ℤ (s *ℤ k *ℤ t) = mul_not_negative (s *ℤ k) t (mul_not_negative s k sp kp) tp in
    let f = mul_not_negative k ((s *ℤ (t *ℤ least) +ℤ low) -ℤ s *ℤ new_low) kp (omega (arith, ints)) in
    let g = mul_not_negative (s *ℤ k *ℤ t) (e -ℤ least) skt (omega (arith, ints)) in
    let i = flipped k (s *ℤ new_low) (s *ℤ (t *ℤ least) +ℤ low) in
    let j = flipped (s *ℤ k *ℤ t) least e in
    let below = above s t d step k e new rests low least new_low p q in
    let down : pos 0 ≤ℤ (d *ℤ (t *ℤ new -ℤ k *ℤ step *ℤ new_low)) = rw (flipped d (k *ℤ step *ℤ new_low) (t *ℤ new), below) (omega (arith, ints)) in
    let y = not_negative_factor d (t *ℤ new -ℤ k *ℤ step *ℤ new_low) dp down in
    omega (arith, ints)

-- a value comes with a symbol over a denominator s times as great
pub record Enters (k : ℤ) (us : ℕ → ℤ) (ranges : List Range) (entry : Entry) (w : ℤ) : Type 0 where
  pub growth : ℤ
  pub value : ℤ
  pub symbol : Range
  pub positive : pos 0 <ℤ growth
  pub symbol_is : entry.symbol ≡ Some symbol
  pub lies : LiesIn (k *ℤ growth) symbol value
  pub means : Means (suc (length ranges)) (k *ℤ growth) (grown growth (length ranges) us value) entry.form w

pub quotient_value : (s k step w qs : ℤ) → s *ℤ (k *ℤ step) *ℤ w ≡ step *ℤ qs +ℤ step *ℤ (s *ℤ k *ℤ w -ℤ qs)
quotient_value s k step w qs = ring (env (s ∷ k ∷ step ∷ w ∷ qs ∷ [])) (times (times (var 0) (times (var 1) (var 2))) (var 3)) (plus (times (var 2) (var 4)) (times (var 2) (plus (times (times (var 0) (var 1)) (var 3)) (minus (var 4))))) refl

pub rounded_enters : (d : ℕ) (errors : Range) (k : ℤ) (us : ℕ → ℤ) (ranges : List Range) (form : List ℤ) (entry : Entry) (v w : ℤ) → 0 < d → pos scale ≡ pos d *ℤ pos (scale / d) → pos 0 <ℤ pos (scale / d)
    → rounded d errors ranges form ≡ Some entry → AreSymbols k us ranges → Means (length ranges) k us form v
    → Between errors.low errors.high (pos d *ℤ w -ℤ v) → Enters k us ranges entry w
rounded_enters d errors k us ranges form entry v w dp steps sp e a m b =
    let n = length ranges in
    let s = pos scale in
    let step = pos (scale / d) in
    let r = rounded_is d errors ranges form entry e in
    let q = sum_at n r.quotients us in
    let rest = sum_at n r.rests us in
    let new = s *ℤ k *ℤ w -ℤ q in
    let ws = grown step n us new in
    let total : s *ℤ k *ℤ v ≡ pos d *ℤ q +ℤ rest = m.exact ∙ sums_parted n d form r.quotients r.rests us dp r.are_quotients r.are_rests in
    let x = new_symbol s (pos d) k v w q rest total in
    let s_up : pos 0 ≤ℤ s = let h = scale_positive in omega (arith, ints) in
    let t_up : pos 0 ≤ℤ pos range_scale = let h = range_scale_positive in omega (arith, ints) in
    let k_up : pos 0 ≤ℤ k = let h = a.positive in omega (arith, ints) in
    let d_up : pos 0 <ℤ pos d = omega (arith, ints) in
    let long = r.are_quotients.long in
    let first : sum_at n (r.quotients ++ step ∷ []) ws ≡ step *ℤ q =
    sum_same n (λ j. at (r.quotients ++ step ∷ []) j *ℤ ws j) (λ j. at r.quotients j *ℤ ws j) (λ j p. ap (λ t. t *ℤ ws j) (get_or_append_left r.quotients (step ∷ []) (pos 0) j (omega arith)))
    ∙ sum_before step n us new r.quotients in
    let last : at (r.quotients ++ step ∷ []) n ≡ step = get_or_push r.quotients step (pos 0) n long in
    let all : sum_at (suc n) (r.quotients ++ step ∷ []) ws ≡ step *ℤ q +ℤ step *ℤ new = rw (first, last, grown_last step n us new) refl in
    let meant : Means (suc n) (k *ℤ step) ws (r.quotients ++ step ∷ []) w = record {
      short = omega (arith, long, length_push r.quotients step);
      exact = quotient_value s k step w q ∙ sym all;
    } in
    record {
      growth = step;
      value = new;
      symbol = r.symbol;
      positive = sp;
      symbol_is = r.symbol_is;
      lies = record {
        least = least_fits s (pos range_scale) (pos d) step k (pos d *ℤ w -ℤ v) new rest r.low errors.low r.symbol.low steps d_up s_up t_up k_up x b.least (least_bounds k us ranges r.rests r.low a r.is_least) r.low_end;
        most = most_fits s (pos range_scale) (pos d) step k (pos d *ℤ w -ℤ v) new rest r.high errors.high r.symbol.high steps d_up s_up t_up k_up x b.most (greatest_bounds k us ranges r.rests r.high a r.is_greatest) r.high_end;
      };
      means = subst (λ (xs : List ℤ). Means (suc n) (k *ℤ step) ws xs w) (sym r.form_is) meant;
    }
