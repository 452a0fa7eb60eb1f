-- The three shapes of the written equations, and the one relation of input and output that each gives.
use Rattle.std.proofs.Common.{◌≡◌, ℕ, zero, suc, ◌<◌, ◌≤◌, refl, sym, ap, ◌∙◌, arith}
use Rattle.std.proofs.Math.IntN.{ℤ, pos, ◌+ℤ◌, ◌*ℤ◌}
use Rattle.std.proofs.lemmas.Int.{ints}
use lib.Signed.{◌<ℤ◌}
use Rattle.dsv_algebra.specs.Vectors.{Vector, dot}
use Rattle.dsv_linear.proofs.Numbers.{times_none}
use Rattle.dsv_roundoff.proofs.Scaling.{divided}
use Rattle.dsv_algebra.proofs.Dots.{dot_same, dot_scale, dot_swap}
use Rattle.dsv_transfer.proofs.Readings.{IsReading, AreReadings, Follows, AreChain, reading_none, reading_dot, exchanged}

-- the coefficients on the readings of both signals are the same
abbrev pub Meets : ℕ → (ℕ → Vector → ℤ) → Vector → Vector → Vector → Vector → Type 0
Meets n Q b a X Y = dot (suc n) a (λ j. Q j Y) ≡ dot (suc n) b (λ j. Q j X)

-- ---- sums of what is in two chains
pub first_shape : (n : ℕ) (Q : ℕ → Vector → ℤ) (b a : Vector) (U V : ℕ → Vector) → AreReadings n Q → AreChain n Q U → AreChain n Q V
    → ((t : ℕ) → t ≤ n → dot (suc n) a (λ j. V j t) ≡ dot (suc n) b (λ j. U j t)) → Meets n Q b a (U 0) (V 0)
first_shape n Q b a U V r u v h =
    let r0 = r 0 (omega arith) in
    dot_same (suc n) a (λ j. Q j (V 0)) (λ j. Q 0 (V j)) (λ j p. exchanged n Q V v j 0 (omega arith) (omega arith))
    ∙ sym (reading_dot n (Q 0) r0 (suc n) a V)
    ∙ r0.same (λ t. dot (suc n) a (λ j. V j t)) (λ t. dot (suc n) b (λ j. U j t)) h
    ∙ reading_dot n (Q 0) r0 (suc n) b U
    ∙ dot_same (suc n) b (λ j. Q 0 (U j)) (λ j. Q j (U 0)) (λ j p. exchanged n Q U u 0 j (omega arith) (omega arith))

-- ---- two sums of what is in one chain
-- one sum on the readings of the other
on_readings : (n : ℕ) (Q : ℕ → Vector → ℤ) (c a : Vector) (one : ℤ) (X : Vector) (W : ℕ → Vector) → AreReadings n Q → ((t : ℕ) → t ≤ n → dot (suc n) c (λ k. W k t) ≡ one *ℤ X t)
    → one *ℤ dot (suc n) a (λ j. Q j X) ≡ dot (suc n) a (λ j. dot (suc n) c (λ k. Q j (W k)))
on_readings n Q c a one X W r h =
    dot_scale (suc n) a one (λ j. Q j X)
    ∙ dot_same (suc n) a (λ j. one *ℤ Q j X) (λ j. dot (suc n) c (λ k. Q j (W k))) (λ j p.
    let rj = r j (omega arith) in
    sym (rj.scale one X) ∙ sym (rj.same (λ t. dot (suc n) c (λ k. W k t)) (λ t. one *ℤ X t) h) ∙ reading_dot n (Q j) rj (suc n) c W)

pub second_shape : (n : ℕ) (Q : ℕ → Vector → ℤ) (b a : Vector) (one : ℤ) (X Y : Vector) (W : ℕ → Vector) → pos 0 <ℤ one → AreReadings n Q → AreChain n Q W
    → ((t : ℕ) → t ≤ n → dot (suc n) a (λ k. W k t) ≡ one *ℤ X t) → ((t : ℕ) → t ≤ n → dot (suc n) b (λ k. W k t) ≡ one *ℤ Y t) → Meets n Q b a X Y
second_shape n Q b a one X Y W p r w state output =
    divided one (dot (suc n) a (λ j. Q j Y)) (dot (suc n) b (λ j. Q j X)) p
    (on_readings n Q b a one Y W r output
    ∙ dot_swap (suc n) (suc n) a b (λ j k. Q j (W k))
    ∙ dot_same (suc n) b (λ k. dot (suc n) a (λ j. Q j (W k))) (λ k. dot (suc n) a (λ j. Q k (W j))) (λ k h.
    dot_same (suc n) a (λ j. Q j (W k)) (λ j. Q k (W j)) (λ j g. exchanged n Q W w j k (omega arith) (omega arith)))
    ∙ sym (on_readings n Q a b one X W r state))

-- ---- registers into each of which the next one is added
moved : (z s x v w u m : ℤ) → z +ℤ s ≡ x +ℤ v → v +ℤ w ≡ u +ℤ m → z +ℤ (s +ℤ w) ≡ (x +ℤ u) +ℤ m
moved z s x v w u m h g = omega (arith, ints)

line_read : (n : ℕ) (Q : Vector → ℤ) (b a one : ℤ) (X Y T R : Vector) → IsReading n Q
    → ((t : ℕ) → t ≤ n → one *ℤ T t +ℤ a *ℤ Y t ≡ b *ℤ X t +ℤ one *ℤ R t) → one *ℤ Q T +ℤ a *ℤ Q Y ≡ b *ℤ Q X +ℤ one *ℤ Q R
line_read n Q b a one X Y T R r h =
    let left : Q (λ t. one *ℤ T t +ℤ a *ℤ Y t) ≡ one *ℤ Q T +ℤ a *ℤ Q Y = r.add (λ t. one *ℤ T t) (λ t. a *ℤ Y t) ∙ rw (r.scale one T, r.scale a Y) refl in
    let right : Q (λ t. b *ℤ X t +ℤ one *ℤ R t) ≡ b *ℤ Q X +ℤ one *ℤ Q R = r.add (λ t. b *ℤ X t) (λ t. one *ℤ R t) ∙ rw (r.scale b X, r.scale one R) refl in
    sym left ∙ r.same (λ t. one *ℤ T t +ℤ a *ℤ Y t) (λ t. b *ℤ X t +ℤ one *ℤ R t) h ∙ right

-- at each of the first k places the register that is left stands for the sums so far
telescoped : (n : ℕ) (Q : ℕ → Vector → ℤ) (b a : Vector) (one : ℤ) (X Y : Vector) (T R : ℕ → Vector) → AreReadings n Q
    → ((i : ℕ) → i ≤ n → (t : ℕ) → t ≤ n → one *ℤ T i t +ℤ a i *ℤ Y t ≡ b i *ℤ X t +ℤ one *ℤ R i t)
    → ((i : ℕ) → i < n → Follows n Q (R i) (T (suc i))) → (k : ℕ) → k ≤ n
    → one *ℤ Q 0 (T 0) +ℤ dot k a (λ j. Q j Y) ≡ dot k b (λ j. Q j X) +ℤ one *ℤ Q k (T k)
telescoped n Q b a one X Y T R r lines chain zero h = omega (arith, ints)
telescoped n Q b a one X Y T R r lines chain (suc k) h =
    moved (one *ℤ Q 0 (T 0)) (dot k a (λ j. Q j Y)) (dot k b (λ j. Q j X)) (one *ℤ Q k (T k)) (a k *ℤ Q k Y) (b k *ℤ Q k X) (one *ℤ Q (suc k) (T (suc k)))
    (telescoped n Q b a one X Y T R r lines chain k (omega arith))
    (line_read n (Q k) (b k) (a k) one X Y (T k) (R k) (r k (omega arith)) (lines k (omega arith))
    ∙ ap (λ z. b k *ℤ Q k X +ℤ one *ℤ z) (chain k (omega arith) k (omega arith)))

quiet : (n : ℕ) (Q : Vector → ℤ) (one : ℤ) (V : Vector) → IsReading n Q → ((t : ℕ) → t ≤ n → V t ≡ pos 0) → one *ℤ Q V ≡ pos 0
quiet n Q one V r h = ap (λ z. one *ℤ z) (r.same V (λ t. pos 0) h ∙ reading_none n Q r) ∙ times_none one

both_ends : (z s x v w u m : ℤ) → z ≡ pos 0 → m ≡ pos 0 → z +ℤ s ≡ x +ℤ v → v +ℤ w ≡ u +ℤ m → s +ℤ w ≡ x +ℤ u
both_ends z s x v w u m first last h g = omega (arith, ints)

pub transposed_shape : (n : ℕ) (Q : ℕ → Vector → ℤ) (b a : Vector) (one : ℤ) (X Y : Vector) (T R : ℕ → Vector) → AreReadings n Q
    → ((i : ℕ) → i ≤ n → (t : ℕ) → t ≤ n → one *ℤ T i t +ℤ a i *ℤ Y t ≡ b i *ℤ X t +ℤ one *ℤ R i t)
    → ((t : ℕ) → t ≤ n → T 0 t ≡ pos 0) → ((t : ℕ) → t ≤ n → R n t ≡ pos 0) → ((i : ℕ) → i < n → Follows n Q (R i) (T (suc i))) → Meets n Q b a X Y
transposed_shape n Q b a one X Y T R r lines first last chain =
    both_ends (one *ℤ Q 0 (T 0)) (dot n a (λ j. Q j Y)) (dot n b (λ j. Q j X)) (one *ℤ Q n (T n)) (a n *ℤ Q n Y) (b n *ℤ Q n X) (one *ℤ Q n (R n))
    (quiet n (Q 0) one (T 0) (r 0 (omega arith)) first) (quiet n (Q n) one (R n) (r n (omega arith)) last)
    (telescoped n Q b a one X Y T R r lines chain n (omega arith))
    (line_read n (Q n) (b n) (a n) one X Y (T n) (R n) (r n (omega arith)) (lines n (omega arith)))
