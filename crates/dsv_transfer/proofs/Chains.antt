-- The readings of the direct forms and of the delta forms, and the signals in the registers as chains.
use Rattle.std.proofs.Common.{◌≡◌, ℕ, zero, suc, ◌+◌, ◌-◌, ◌*◌, ◌/◌, ◌%◌, ◌^◌, ◌<◌, ◌≤◌, ◌==◌, Bool, true, false, List, [], ◌∷◌, length, refl, sym, ap, ◌∙◌, arith}
use Rattle.std.proofs.Math.IntN.{ℤ, pos, ◌+ℤ◌, ◌-ℤ◌, ◌*ℤ◌}
use Rattle.std.proofs.Math.Nat.{pow-suc}
use Rattle.std.proofs.lemmas.Int.{ints}
use Rattle.std.proofs.lemmas.Bool.Decides.{nat_tests}
use Rattle.std.specs.Int.RustNames.{unsigned_abs}
use lib.Signed.{◌<ℤ◌, ◌≤ℤ◌}
use Rattle.dsv_algebra.specs.Vectors.{Vector, vector_of}
use Rattle.dsv_algebra.proofs.Normaliser.{ring, env, var, plus, times, minus}
use Rattle.dsv_delta.specs.ZCoefficients.{Dyadic, dyadic}
use Rattle.dsv_quantiser.specs.QuantisedView.{QuantisedView, unit}
use Rattle.dsv_roundoff.specs.Written.{AreLines, delta_lines}
use Rattle.dsv_roundoff.proofs.Scaling.{add_spread, sub_spread, power_up, divided}
use Rattle.dsv_transfer.proofs.Expansions.{difference}
use Rattle.dsv_transfer.proofs.Lines.{delta_at}
use Rattle.dsv_transfer.proofs.Readings.{AreReadings, Follows, AreChain}

-- ---- direct forms
-- the value j samples ago
abbrev pub value_at : ℕ → Vector → ℤ
value_at j v = v j

pub values_are_readings : (n : ℕ) → AreReadings n value_at
values_are_readings n j h = record { add = λ v w. refl; scale = λ c v. refl; same = λ v w e. e j h }

-- a delay line after the signal that goes into it
pub delay_chain : (n : ℕ) (X : Vector) (us : ℕ → List ℤ) → ((t : ℕ) → t < n → us t ≡ X (suc t) ∷ us (suc t)) → AreChain n value_at (λ j t. vector_of (X t ∷ us t) j)
delay_chain n X us h k p i r = ap (λ l. vector_of l k) (h i r)

-- ---- delta forms
-- a reading by the powers of z - 1 and of delta, both in whole numbers
abbrev pub difference_at : Dyadic → ℕ → ℕ → Vector → ℤ
difference_at d n j v = pos (d.numerator ^ j * d.denominator ^ (n - j)) *ℤ difference (n - j) v j

exchanged : (a b c e : ℤ) → (a +ℤ b) -ℤ (c +ℤ e) ≡ (a -ℤ c) +ℤ (b -ℤ e)
exchanged a b c e = omega (arith, ints)

difference_add : (k : ℕ) (v w : Vector) (t : ℕ) → difference k (λ i. v i +ℤ w i) t ≡ difference k v t +ℤ difference k w t
difference_add zero v w t = refl
difference_add (suc k) v w t = rw (difference_add k v w t, difference_add k v w (suc t)) (exchanged (difference k v t) (difference k w t) (difference k v (suc t)) (difference k w (suc t)))

difference_scale : (k : ℕ) (c : ℤ) (v : Vector) (t : ℕ) → difference k (λ i. c *ℤ v i) t ≡ c *ℤ difference k v t
difference_scale zero c v t = refl
difference_scale (suc k) c v t = rw (difference_scale k c v t, difference_scale k c v (suc t)) (sym (sub_spread c (difference k v t) (difference k v (suc t))))

difference_same : (k : ℕ) (v w : Vector) (t n : ℕ) → t + k ≤ n → ((i : ℕ) → i ≤ n → v i ≡ w i) → difference k v t ≡ difference k w t
difference_same zero v w t n h e = e t (omega arith)
difference_same (suc k) v w t n h e = rw (difference_same k v w t n (omega arith) e, difference_same k v w (suc t) n (omega arith) e) refl

turned : (p c x : ℤ) → p *ℤ (c *ℤ x) ≡ c *ℤ (p *ℤ x)
turned p c x = ring (env (p ∷ c ∷ x ∷ [])) (times (var 0) (times (var 1) (var 2))) (times (var 1) (times (var 0) (var 2))) refl

pub differences_are_readings : (d : Dyadic) (n : ℕ) → AreReadings n (difference_at d n)
differences_are_readings d n j h =
    let p = pos (d.numerator ^ j * d.denominator ^ (n - j)) in
    record {
      add = λ v w. ap (λ z. p *ℤ z) (difference_add (n - j) v w j) ∙ add_spread p (difference (n - j) v j) (difference (n - j) w j);
      scale = λ c v. ap (λ z. p *ℤ z) (difference_scale (n - j) c v j) ∙ turned p c (difference (n - j) v j);
      same = λ v w e. ap (λ z. p *ℤ z) (difference_same (n - j) v w j n (omega arith) e);
    }

-- one difference more of the one signal is a difference of the other
difference_follows : (p o : ℤ) (S T : Vector) (n : ℕ) → ((t : ℕ) → t < n → p *ℤ (S t -ℤ S (suc t)) ≡ o *ℤ T (suc t)) → (k t : ℕ) → t + k < n → p *ℤ difference (suc k) S t ≡ o *ℤ difference k T (suc t)
difference_follows p o S T n h zero t l = h t (omega arith)
difference_follows p o S T n h (suc k) t l =
    sub_spread p (difference (suc k) S t) (difference (suc k) S (suc t))
    ∙ rw (difference_follows p o S T n h k t (omega arith), difference_follows p o S T n h k (suc t) (omega arith)) refl
    ∙ sym (sub_spread o (difference k T (suc t)) (difference k T (suc (suc t))))

regrouped : (a b c x : ℤ) → (a *ℤ (b *ℤ c)) *ℤ x ≡ (a *ℤ b) *ℤ (c *ℤ x)
regrouped a b c x = ring (env (a ∷ b ∷ c ∷ x ∷ [])) (times (times (var 0) (times (var 1) (var 2))) (var 3)) (times (times (var 0) (var 1)) (times (var 2) (var 3))) refl

regrouped_back : (a b c x : ℤ) → (a *ℤ b) *ℤ (c *ℤ x) ≡ ((a *ℤ c) *ℤ b) *ℤ x
regrouped_back a b c x = ring (env (a ∷ b ∷ c ∷ x ∷ [])) (times (times (var 0) (var 1)) (times (var 2) (var 3))) (times (times (times (var 0) (var 2)) (var 1)) (var 3)) refl

ratio_follows : (d : Dyadic) (n : ℕ) (S T : Vector) → ((t : ℕ) → t < n → pos d.denominator *ℤ (S t -ℤ S (suc t)) ≡ pos d.numerator *ℤ T (suc t)) → Follows n (difference_at d n) S T
ratio_follows d n S T h i l =
    let r = n - suc i in
    let o = d.numerator in
    let p = d.denominator in
    let more : n - i ≡ suc r = omega arith in
    ap (λ m. pos (o ^ i * p ^ m) *ℤ difference m S i) more
    ∙ ap (λ m. pos (o ^ i * m) *ℤ difference (suc r) S i) (pow-suc p r)
    ∙ regrouped (pos (o ^ i)) (pos (p ^ r)) (pos p) (difference (suc r) S i)
    ∙ ap (λ z. pos (o ^ i * p ^ r) *ℤ z) (difference_follows (pos p) (pos o) S T n h r i (omega arith))
    ∙ regrouped_back (pos (o ^ i)) (pos (p ^ r)) (pos o) (difference r T (suc i))
    ∙ ap (λ m. pos (m * p ^ r) *ℤ difference r T (suc i)) (sym (pow-suc o i))

-- ---- delta as a fraction
halves : (num pw half den m : ℕ) → num * pw ≡ half * den → m ≡ 2 * half → num * (pw * 2) ≡ m * den
halves num pw half den m h e = rw e (omega arith)

ratio_case : (b : Bool) (m f : ℕ) → (m % 2 == 0) ≡ b → (dyadic (m / 2) f).numerator * 2 ^ f ≡ (m / 2) * (dyadic (m / 2) f).denominator
    → (dyadic m (suc f)).numerator * 2 ^ suc f ≡ m * (dyadic m (suc f)).denominator
ratio_case true m f e ih =
    let even : m ≡ 2 * (m / 2) = grind (arith, nat_tests) in
    rw e (ap (λ k. (dyadic (m / 2) f).numerator * k) (pow-suc 2 f) ∙ halves (dyadic (m / 2) f).numerator (2 ^ f) (m / 2) (dyadic (m / 2) f).denominator m ih even)
ratio_case false m f e ih = rw e refl

dyadic-ratio : (m f : ℕ) → (dyadic m f).numerator * 2 ^ f ≡ m * (dyadic m f).denominator
dyadic-ratio m zero = refl
dyadic-ratio m (suc f) = ratio_case (m % 2 == 0) m f refl (dyadic-ratio (m / 2) f)

in_words : (one delta o p s r x : ℤ) → pos 0 <ℤ one → o *ℤ one ≡ delta *ℤ p → one *ℤ s ≡ one *ℤ r +ℤ delta *ℤ x → p *ℤ (s -ℤ r) ≡ o *ℤ x
in_words one delta o p s r x up ratio h =
    let fell : one *ℤ s -ℤ one *ℤ r ≡ delta *ℤ x = omega (arith, ints) in
    divided one (p *ℤ (s -ℤ r)) (o *ℤ x) up
    (ring (env (one ∷ p ∷ s ∷ r ∷ [])) (times (var 0) (times (var 1) (plus (var 2) (minus (var 3))))) (times (var 1) (plus (times (var 0) (var 2)) (minus (times (var 0) (var 3))))) refl
    ∙ ap (λ z. p *ℤ z) fell
    ∙ ring (env (delta ∷ p ∷ x ∷ [])) (times (var 1) (times (var 0) (var 2))) (times (times (var 0) (var 1)) (var 2)) refl
    ∙ ap (λ z. z *ℤ x) (sym ratio)
    ∙ ring (env (o ∷ one ∷ x ∷ [])) (times (times (var 0) (var 1)) (var 2)) (times (var 1) (times (var 0) (var 2))) refl)

-- delta's fraction in lowest terms, as far as twos go
abbrev pub delta_of : QuantisedView → Dyadic
delta_of q = dyadic (unsigned_abs q.delta) q.format.frac_bits

positive_word : (w : ℤ) → pos 1 ≤ℤ w → w ≡ pos (unsigned_abs w)
positive_word w h = omega (arith, ints)

delta-ratio : (q : QuantisedView) → pos 1 ≤ℤ q.delta → pos (delta_of q).numerator *ℤ unit q.format ≡ q.delta *ℤ pos (delta_of q).denominator
delta-ratio q h = ap pos (dyadic-ratio (unsigned_abs q.delta) q.format.frac_bits) ∙ ap (λ w. w *ℤ pos (delta_of q).denominator) (sym (positive_word q.delta h))

-- a register that a signal times delta is added to follows that signal
pub register_follows : (q : QuantisedView) → pos 1 ≤ℤ q.delta → (n : ℕ) (S T : Vector)
    → ((t : ℕ) → t < n → unit q.format *ℤ S t ≡ unit q.format *ℤ S (suc t) +ℤ q.delta *ℤ T (suc t)) → Follows n (difference_at (delta_of q) n) S T
register_follows q up n S T h =
    let d = delta_of q in
    ratio_follows d n S T (λ t l.
    in_words (unit q.format) q.delta (pos d.numerator) (pos d.denominator) (S t) (S (suc t)) (T (suc t)) (power_up q.format.frac_bits) (delta-ratio q up) (h t l))

-- registers each of which has the one before it times delta added, after the signal that goes into the first
pub register_chain : (q : QuantisedView) → pos 1 ≤ℤ q.delta → (n : ℕ) (X : Vector) (us : ℕ → List ℤ)
    → ((t : ℕ) → t < n → AreLines q.format (delta_lines q (us (suc t)) (X (suc t) ∷ us (suc t))) (us t)) → ((t : ℕ) → t < n → length (us (suc t)) ≡ n)
    → AreChain n (difference_at (delta_of q) n) (λ j t. vector_of (X t ∷ us t) j)
register_chain q up n X us lines long k h =
    register_follows q up n (λ t. vector_of (us t) k) (λ t. vector_of (X t ∷ us t) k) (λ t l.
    let many = long t l in
    delta_at q (us (suc t)) (X (suc t) ∷ us (suc t)) (us t) (lines t l) (omega arith) k (omega arith))
