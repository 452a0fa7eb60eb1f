-- The exact values of lines lie in their intervals, and what a line's value is while nothing is
-- fitted.
use Rattle.std.proofs.Common.{◌≡◌, ℕ, ◌^◌, ◌<◌, ◌+◌, ◌-◌, Bool, true, false, if◌then◌else◌, List, [], ◌∷◌, ◌++◌, refl, sym, ap, subst, ◌∙◌, arith, append_assoc, append-nil}
use Rattle.std.proofs.Math.IntN.{ℤ, pos, ◌+ℤ◌, ◌-ℤ◌, ◌*ℤ◌, neg_ℤ}
use Rattle.std.specs.Prelude.{◌==◌}
use Rattle.std.specs.List.{All, AllZip}
use Rattle.std.proofs.lemmas.Nat.{pow_pos}
use Rattle.std.proofs.lemmas.Int.{ints, by_lt_z}
use Rattle.std.proofs.lemmas.List.Elements.{All-nil, All-cons, All-head, All-tail}
use lib.Signed.{◌<ℤ◌, ◌≤ℤ◌}
use Rattle.dsv_algebra.specs.Floor.{floor_of}
use Rattle.dsv_algebra.proofs.Signs.{positive_factor}
use Rattle.dsv_algebra.proofs.Normaliser.{ring, env, var, num, plus, times, minus}
use Rattle.dsv_algebra.proofs.Floors.{floored_is}
use Rattle.dsv_names.specs.declared.rounding.Rounding.{Rounding}
use Rattle.dsv_names.specs.declared.rounding.Rounding.TheVariants as rounding
use Rattle.dsv_word.specs.declared.format.Format.{Format}
use Rattle.dsv_word.specs.Words.{width, fit, IsWord}
use Rattle.dsv_word.specs.Quotients.{whole_shift}
use Rattle.dsv_linear.specs.Known.{error_range}
use Rattle.dsv_linear.proofs.Numbers.{times_up, times_down}
use Rattle.dsv_linear.proofs.Words.{fit_same}
use Rattle.dsv_meaning.specs.declared.summands.Summand.{Summand}
use Rattle.dsv_meaning.specs.declared.summands.Summand.TheVariants.{Times}
use Rattle.dsv_meaning.specs.Lines.{Sum, summands, next_summand, next_summands}
use Rattle.dsv_linear.specs.declared.range.Range.{Range}
use Rattle.dsv_ellipsoid.specs.Intervals.{LiesIn, HasInterval, AreWords, lesser, greater, between, product_interval, joined_interval, later_intervals}
use Rattle.dsv_ellipsoid.specs.Disturbance.{is_rough, one_if, roughs}
use Rattle.dsv_ellipsoid.proofs.Errors.{product_errors_lie}

-- ---- rounding keeps an order
gap : (a b d : ℤ) → d *ℤ (b +ℤ pos 1 -ℤ a) ≡ (b +ℤ pos 1) *ℤ d -ℤ a *ℤ d
gap a b d = ring (env (a ∷ b ∷ d ∷ [])) (times (var 2) (plus (plus (var 1) (num (pos 1))) (minus (var 0)))) (plus (times (plus (var 1) (num (pos 1))) (var 2)) (minus (times (var 0) (var 2)))) refl

floor_up : (x y : ℤ) (d : ℕ) → 0 < d → x ≤ℤ y → floor_of x d ≤ℤ floor_of y d
floor_up x y d p h =
    let a = floor_of x d in
    let b = floor_of y d in
    let f = (floored_is x d p).below in
    let g = (floored_is y d p).above in
    let e = gap a b (pos d) in
    let t : pos 0 <ℤ (pos d *ℤ (b +ℤ pos 1 -ℤ a)) = omega (arith, ints, e, f, g, h) in
    let s : pos 0 <ℤ (b +ℤ pos 1 -ℤ a) = positive_factor (pos d) (b +ℤ pos 1 -ℤ a) (omega (arith, ints)) t in
    omega (arith, ints, s)

near_up : (b : Bool) (h u v x y : ℤ) → x ≤ℤ y → u ≤ℤ v → (if b then x else u) ≤ℤ (if b then y else v)
near_up true h u v x y p q = p
near_up false h u v x y p q = q

pub shift_up : (r : Rounding) (f : ℕ) (x y : ℤ) → x ≤ℤ y → whole_shift r f x ≤ℤ whole_shift r f y
shift_up rounding.Floor f x y h = floor_up x y (2 ^ f) (pow_pos f) h
shift_up rounding.Ceil f x y h = let g = floor_up (neg_ℤ y) (neg_ℤ x) (2 ^ f) (pow_pos f) (omega (arith, ints, h)) in omega (arith, ints, g)
shift_up rounding.Nearest f x y h =
    let half = pos (2 ^ (f - 1)) in
    near_up (f == 0) half (floor_of (x +ℤ half) (2 ^ f)) (floor_of (y +ℤ half) (2 ^ f)) x y h (floor_up (x +ℤ half) (y +ℤ half) (2 ^ f) (pow_pos f) (omega (arith, ints, h)))

-- ---- intervals
pub lesser_least : (a b : ℤ) → (lesser a b ≤ℤ a) × (lesser a b ≤ℤ b)
lesser_least a b = (grind (arith, ints), grind (arith, ints))

pub greater_most : (a b : ℤ) → (a ≤ℤ greater a b) × (b ≤ℤ greater a b)
greater_most a b = (grind (arith, ints), grind (arith, ints))

pub between_up : (a b v : ℤ) → a ≤ℤ v → v ≤ℤ b → LiesIn (between a b) v
between_up a b v p q = let l = (lesser_least a b).0 in let g = (greater_most a b).1 in record { least = omega (arith, ints, l, p); most = omega (arith, ints, g, q) }

pub between_down : (a b v : ℤ) → b ≤ℤ v → v ≤ℤ a → LiesIn (between a b) v
between_down a b v p q = let l = (lesser_least a b).1 in let g = (greater_most a b).0 in record { least = omega (arith, ints, l, p); most = omega (arith, ints, g, q) }

-- a product lies between the products of the ends
pub times_lies : (c : ℤ) (s : Range) (w : ℤ) → LiesIn s w → LiesIn (between (c *ℤ s.low) (c *ℤ s.high)) (c *ℤ w)
times_lies c s w h = by_lt_z c (pos 0)
    (λ less. between_down (c *ℤ s.low) (c *ℤ s.high) (c *ℤ w) (times_down c w s.high (omega (arith, ints, less)) h.most) (times_down c s.low w (omega (arith, ints, less)) h.least))
    (λ more. between_up (c *ℤ s.low) (c *ℤ s.high) (c *ℤ w) (times_up c s.low w more h.least) (times_up c w s.high more h.most))

-- the rounded one between the rounded products
pub product_lies : (f : Format) (c : ℤ) (s : Range) (w : ℤ) → LiesIn s w → LiesIn (product_interval f c s) (whole_shift f.rounding f.frac_bits (c *ℤ w))
product_lies f c s w h =
    let r : ℤ → ℤ = whole_shift f.rounding f.frac_bits in
    by_lt_z c (pos 0)
    (λ less. between_down (r (c *ℤ s.low)) (r (c *ℤ s.high)) (r (c *ℤ w))
    (shift_up f.rounding f.frac_bits (c *ℤ s.high) (c *ℤ w) (times_down c w s.high (omega (arith, ints, less)) h.most))
    (shift_up f.rounding f.frac_bits (c *ℤ w) (c *ℤ s.low) (times_down c s.low w (omega (arith, ints, less)) h.least)))
    (λ more. between_up (r (c *ℤ s.low)) (r (c *ℤ s.high)) (r (c *ℤ w))
    (shift_up f.rounding f.frac_bits (c *ℤ s.low) (c *ℤ w) (times_up c s.low w more h.least))
    (shift_up f.rounding f.frac_bits (c *ℤ w) (c *ℤ s.high) (times_up c w s.high more h.most)))

unfoldable pub signed : Bool → ℤ → ℤ
signed away z = if away then neg_ℤ z else z

unfoldable pub joined : Bool → ℤ → ℤ → ℤ
joined away v z = if away then v -ℤ z else v +ℤ z

joined_lies : (away : Bool) (s t : Range) (v z : ℤ) → LiesIn s v → LiesIn t z → LiesIn (joined_interval away s t) (joined away v z)
unfolding joined
joined_lies true s t v z h k = record { least = omega (arith, ints, h.least, k.most); most = omega (arith, ints, h.most, k.least) }
joined_lies false s t v z h k = record { least = omega (arith, ints, h.least, k.least); most = omega (arith, ints, h.most, k.most) }

pub word_in : (f : Format) (s : Range) (v : ℤ) → AreWords f s → LiesIn s v → IsWord f v
word_in f s v a h = record { low = omega (arith, ints, a.low.low, h.least); high = omega (arith, ints, a.high.high, h.most) }

-- ---- lists
pub All-push : {X : Type 0} (P : X → Type 0) (xs : List X) (x : X) → All P xs → P x → All P (xs ++ x ∷ [])
All-push P [] x a p = All-cons P x [] p (All-nil P)
All-push P (y ∷ ys) x a p = All-cons P y (ys ++ x ∷ []) (All-head P y ys a) (All-push P ys x (All-tail P y ys a) p)

pub zip_push : (xs : List ℤ) (ys : List Range) (x : ℤ) (y : Range) → AllZip HasInterval xs ys → LiesIn y x → AllZip HasInterval (xs ++ x ∷ []) (ys ++ y ∷ [])
zip_push [] [] x y h r = (r, tt)
zip_push [] (b ∷ bs) x y h r = absurd h
zip_push (a ∷ cs) [] x y h r = absurd h
zip_push (a ∷ cs) (b ∷ bs) x y h r = (h.0, zip_push cs bs x y h.1 r)

-- ---- one summand more
-- t is the line after one product more, while nothing is fitted
record IsNext (f : Format) (away : Bool) (c w : ℤ) (s t : Sum) (p j : Range) : Type 0 where
  value : t.value ≡ joined away s.value (whole_shift f.rounding f.frac_bits (c *ℤ w))
  inside : LiesIn j t.value
  words : All (IsWord f) t.exact
  zip : (done : List Range) → AllZip HasInterval s.exact done → AllZip HasInterval t.exact ((done ++ p ∷ []) ++ j ∷ [])

next : (f : Format) (away : Bool) (c w : ℤ) (s : Sum) (v x : Range) → LiesIn v s.value → LiesIn x w → All (IsWord f) s.exact
    → AreWords f (product_interval f c x) → AreWords f (joined_interval away v (product_interval f c x))
    → IsNext f away c w s (next_summand f s (Times away c w)) (product_interval f c x) (joined_interval away v (product_interval f c x))
unfolding joined
next f away c w s v x hv hx words wp wj =
    let r = whole_shift f.rounding f.frac_bits (c *ℤ w) in
    let p = product_interval f c x in
    let in_p = product_lies f c x w hx in
    let word_r = word_in f p r wp in_p in
    let same_r : fit f.overflow (width f) r ≡ r = fit_same f r word_r in
    let e = joined away s.value (fit f.overflow (width f) r) in
    let same_e : e ≡ joined away s.value r = ap (joined away s.value) same_r in
    let in_j : LiesIn (joined_interval away v p) e = subst (LiesIn (joined_interval away v p)) (sym same_e) (joined_lies away v p s.value r hv in_p) in
    let word_e = word_in f (joined_interval away v p) e wj in_j in
    let kept : fit f.overflow (width f) e ≡ e = fit_same f e word_e in
    record {
      value = kept ∙ same_e;
      inside = subst (LiesIn (joined_interval away v p)) (sym kept) in_j;
      words = All-push (IsWord f) (s.exact ++ r ∷ []) e (All-push (IsWord f) s.exact r words word_r) word_e;
      zip = λ done h. zip_push (s.exact ++ r ∷ []) (done ++ p ∷ []) e (joined_interval away v p) (zip_push s.exact done r p h in_p) in_j;
    }

-- ---- a row of summands
unfoldable pub sum_of_products : List ℤ → (ℕ → ℤ) → ℕ → ℤ
sum_of_products [] w k = pos 0
sum_of_products (c ∷ cs) w k = c *ℤ w k +ℤ sum_of_products cs w (k + 1)

-- What a row of summands does to a line that is at s while nothing is fitted: t is the line after
-- it, and the intervals of the rest are words.
pub record Walk (f : Format) (away : Bool) (cs : List ℤ) (w : ℕ → ℤ) (k : ℕ) (s t : Sum) (v x : Range) (rest : List (Summand Range)) : Type 0 where
  pub reached : Range
  pub passed : List Range
  pub parts : later_intervals f v (summands away cs (λ i. x) k ++ rest) ≡ passed ++ later_intervals f reached rest
  pub zip : (done : List Range) → AllZip HasInterval s.exact done → AllZip HasInterval t.exact (done ++ passed)
  pub inside : LiesIn reached t.value
  pub later : All (AreWords f) (later_intervals f reached rest)
  pub words : All (IsWord f) t.exact
  pub error : ℤ
  pub least : (roughs f.frac_bits cs *ℤ (error_range f.rounding f.frac_bits).low) ≤ℤ error
  pub most : error ≤ℤ (roughs f.frac_bits cs *ℤ (error_range f.rounding f.frac_bits).high)
  pub value : pos (2 ^ f.frac_bits) *ℤ t.value ≡ pos (2 ^ f.frac_bits) *ℤ s.value +ℤ signed away (sum_of_products cs w k +ℤ error)

pub one_more : (a n e : ℤ) → (a +ℤ n) *ℤ e ≡ a *ℤ e +ℤ n *ℤ e
one_more a n e = ring (env (a ∷ n ∷ e ∷ [])) (times (plus (var 0) (var 1)) (var 2)) (plus (times (var 0) (var 2)) (times (var 1) (var 2))) refl

no_times : (z : ℤ) → pos 0 *ℤ z ≡ pos 0
no_times z = ring (env (z ∷ [])) (times (num (pos 0)) (var 0)) (num (pos 0)) refl

scaled_joined : (away : Bool) (d v r : ℤ) → d *ℤ joined away v r ≡ d *ℤ v +ℤ signed away (d *ℤ r)
unfolding joined signed
scaled_joined true d v r = ring (env (d ∷ v ∷ r ∷ [])) (times (var 0) (plus (var 1) (minus (var 2)))) (plus (times (var 0) (var 1)) (minus (times (var 0) (var 2)))) refl
scaled_joined false d v r = ring (env (d ∷ v ∷ r ∷ [])) (times (var 0) (plus (var 1) (var 2))) (plus (times (var 0) (var 1)) (times (var 0) (var 2))) refl

both_signed : (away : Bool) (a e p q v : ℤ) → v +ℤ signed away (a +ℤ e) +ℤ signed away (p +ℤ q) ≡ v +ℤ signed away (a +ℤ p +ℤ (e +ℤ q))
unfolding signed
both_signed true a e p q v = omega (arith, ints)
both_signed false a e p q v = omega (arith, ints)

none_signed : (away : Bool) (z : ℤ) → z ≡ z +ℤ signed away (pos 0 +ℤ pos 0)
unfolding signed
none_signed true z = omega (arith, ints)
none_signed false z = omega (arith, ints)

-- a row's value by that of its first product and that of the others
grown : (away : Bool) (a e p q before first last : ℤ) → first ≡ before +ℤ signed away (a +ℤ e) → last ≡ first +ℤ signed away (p +ℤ q)
    → last ≡ before +ℤ signed away (a +ℤ p +ℤ (e +ℤ q))
grown away a e p q before first last h k = k ∙ ap (λ z. z +ℤ signed away (p +ℤ q)) h ∙ both_signed away a e p q before

error_apart : (z a : ℤ) → z ≡ a +ℤ (z -ℤ a)
error_apart z a = omega (arith, ints)

-- and that of its first product
first_grown : (away : Bool) (d s t r a : ℤ) → t ≡ joined away s r → d *ℤ t ≡ d *ℤ s +ℤ signed away (a +ℤ (d *ℤ r -ℤ a))
first_grown away d s t r a h = ap (λ z. d *ℤ z) h ∙ scaled_joined away d s r ∙ ap (λ z. d *ℤ s +ℤ signed away z) (error_apart (d *ℤ r) a)

-- two intervals more
two_parts : (p j : Range) (all passed rest : List Range) → all ≡ passed ++ rest → p ∷ j ∷ all ≡ (p ∷ j ∷ passed) ++ rest
two_parts p j all passed rest e = ap (λ l. p ∷ j ∷ l) e

two_zip : (p j : Range) (exact : List ℤ) (done passed : List Range) → AllZip HasInterval exact (((done ++ p ∷ []) ++ j ∷ []) ++ passed) → AllZip HasInterval exact (done ++ p ∷ j ∷ passed)
two_zip p j exact done passed h = subst (AllZip HasInterval exact) (append_assoc (done ++ p ∷ []) (j ∷ []) passed ∙ append_assoc done (p ∷ []) (j ∷ passed)) h

pub walk : (f : Format) (away : Bool) (cs : List ℤ) (w : ℕ → ℤ) (x : Range) (k : ℕ) (s : Sum) (v : Range) (rest : List (Summand Range))
    → LiesIn v s.value → ((i : ℕ) → LiesIn x (w i)) → All (IsWord f) s.exact
    → All (AreWords f) (later_intervals f v (summands away cs (λ i. x) k ++ rest))
    → Walk f away cs w k s (next_summands f s (summands away cs w k)) v x rest
unfolding sum_of_products
walk f away [] w x k s v rest hv hw words intervals =
    let e0 = no_times (error_range f.rounding f.frac_bits).low in
    let e1 = no_times (error_range f.rounding f.frac_bits).high in
    record {
      reached = v;
      passed = [];
      parts = refl;
      zip = λ done g. rw (append-nil done) g;
      inside = hv;
      later = intervals;
      words = words;
      error = pos 0;
      least = omega (arith, ints, e0);
      most = omega (arith, ints, e1);
      value = none_signed away (pos (2 ^ f.frac_bits) *ℤ s.value);
    }
walk f away (c ∷ cs) w x k s v rest hv hw words intervals =
    let d = pos (2 ^ f.frac_bits) in
    let r = whole_shift f.rounding f.frac_bits (c *ℤ w k) in
    let p = product_interval f c x in
    let j = joined_interval away v p in
    let tail = later_intervals f j (summands away cs (λ i. x) (k + 1) ++ rest) in
    let after = All-tail (AreWords f) p (j ∷ tail) intervals in
    let n = next f away c (w k) s v x hv (hw k) words (All-head (AreWords f) p (j ∷ tail) intervals) (All-head (AreWords f) j tail after) in
    let s1 = next_summand f s (Times away c (w k)) in
    let h = walk f away cs w x (k + 1) s1 j rest n.inside hw n.words (All-tail (AreWords f) j tail after) in
    let own = product_errors_lie f.rounding f.frac_bits c (w k) in
    let e = d *ℤ r -ℤ c *ℤ w k in
    let q = sum_of_products cs w (k + 1) in
    let low = one_more (one_if (is_rough f.frac_bits c)) (roughs f.frac_bits cs) (error_range f.rounding f.frac_bits).low in
    let high = one_more (one_if (is_rough f.frac_bits c)) (roughs f.frac_bits cs) (error_range f.rounding f.frac_bits).high in
    record {
      reached = h.reached;
      passed = p ∷ j ∷ h.passed;
      parts = two_parts p j tail h.passed (later_intervals f h.reached rest) h.parts;
      zip = λ done z. two_zip p j (next_summands f s1 (summands away cs w (k + 1))).exact done h.passed (h.zip ((done ++ p ∷ []) ++ j ∷ []) (n.zip done z));
      inside = h.inside;
      later = h.later;
      words = h.words;
      error = e +ℤ h.error;
      least = omega (arith, ints, low, own.least, h.least);
      most = omega (arith, ints, high, own.most, h.most);
      value = grown away (c *ℤ w k) e q h.error (d *ℤ s.value) (d *ℤ s1.value) (d *ℤ (next_summands f s (summands away (c ∷ cs) w k)).value) (first_grown away d s.value s1.value r (c *ℤ w k) n.value) h.value;
    }
