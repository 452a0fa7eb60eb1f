-- Numbers that are read from a signal, and signals of which one follows another in all of them.
--
-- A signal is a function of how many samples ago. In a direct form reading j of a signal is its value j samples ago, in a
-- delta form what the power N - j of z - 1 makes of it, times powers of delta (Chains).
use Rattle.std.proofs.Common.{◌≡◌, ℕ, zero, suc, ◌+◌, ◌-◌, ◌<◌, ◌≤◌, sym, ap, ◌∙◌, arith, inl, inr}
use Rattle.std.proofs.Math.IntN.{ℤ, pos, ◌+ℤ◌, ◌*ℤ◌}
use Rattle.std.proofs.lemmas.Bool.{cases_lt}
use Rattle.dsv_algebra.specs.Vectors.{Vector, dot}
use Rattle.dsv_linear.proofs.Numbers.{none_times}

-- a number that is read from a signal is linear in it, and no value more than n samples ago is in it
pub record IsReading (n : ℕ) (Q : Vector → ℤ) : Type 0 where
  pub add : (v w : Vector) → Q (λ t. v t +ℤ w t) ≡ Q v +ℤ Q w
  pub scale : (c : ℤ) (v : Vector) → Q (λ t. c *ℤ v t) ≡ c *ℤ Q v
  pub same : (v w : Vector) → ((t : ℕ) → t ≤ n → v t ≡ w t) → Q v ≡ Q w

abbrev pub AreReadings : ℕ → (ℕ → Vector → ℤ) → Type 0
AreReadings n Q = (j : ℕ) → j ≤ n → IsReading n (Q j)

pub reading_none : (n : ℕ) (Q : Vector → ℤ) → IsReading n Q → Q (λ t. pos 0) ≡ pos 0
reading_none n Q r = r.scale (pos 0) (λ t. pos 0) ∙ none_times (Q (λ t. pos 0))

pub reading_dot : (n : ℕ) (Q : Vector → ℤ) → IsReading n Q → (m : ℕ) (c : Vector) (W : ℕ → Vector) → Q (λ t. dot m c (λ i. W i t)) ≡ dot m c (λ i. Q (W i))
reading_dot n Q r zero c W = reading_none n Q r
reading_dot n Q r (suc m) c W =
    r.add (λ t. dot m c (λ i. W i t)) (λ t. c m *ℤ W m t)
    ∙ ap (λ z. z +ℤ Q (λ t. c m *ℤ W m t)) (reading_dot n Q r m c W)
    ∙ ap (λ z. dot m c (λ i. Q (W i)) +ℤ z) (r.scale (c m) (W m))

-- ---- signals that follow
-- each reading of the one is the next reading of the other
abbrev pub Follows : ℕ → (ℕ → Vector → ℤ) → Vector → Vector → Type 0
Follows n Q after before = (i : ℕ) → i < n → Q i after ≡ Q (suc i) before

-- n signals after the first, each of which follows the one before it
abbrev pub AreChain : ℕ → (ℕ → Vector → ℤ) → (ℕ → Vector) → Type 0
AreChain n Q W = (k : ℕ) → k < n → Follows n Q (W (suc k)) (W k)

climbed : (n : ℕ) (Q : ℕ → Vector → ℤ) (W : ℕ → Vector) → AreChain n Q W → (m i k : ℕ) → i + m ≤ n → k + m ≤ n → Q i (W (k + m)) ≡ Q (i + m) (W k)
climbed n Q W c zero i k h g =
    let e : k + 0 ≡ k = omega arith in
    let f : i + 0 ≡ i = omega arith in
    ap (λ l. Q i (W l)) e ∙ ap (λ l. Q l (W k)) (sym f)
climbed n Q W c (suc m) i k h g =
    let e : k + suc m ≡ suc (k + m) = omega arith in
    let f : i + suc m ≡ suc i + m = omega arith in
    ap (λ l. Q i (W l)) e ∙ c (k + m) (omega arith) i (omega arith) ∙ climbed n Q W c m (suc i) k (omega arith) (omega arith) ∙ ap (λ l. Q l (W k)) (sym f)

ordered : (n : ℕ) (Q : ℕ → Vector → ℤ) (W : ℕ → Vector) → AreChain n Q W → (j k : ℕ) → j ≤ k → k ≤ n → Q j (W k) ≡ Q k (W j)
ordered n Q W c j k h g =
    let e : k ≡ j + (k - j) = omega arith in
    ap (λ l. Q j (W l)) e ∙ climbed n Q W c (k - j) j j (omega arith) (omega arith) ∙ ap (λ l. Q l (W j)) (sym e)

-- in a chain a reading and a signal may be exchanged
pub exchanged : (n : ℕ) (Q : ℕ → Vector → ℤ) (W : ℕ → Vector) → AreChain n Q W → (j k : ℕ) → j ≤ n → k ≤ n → Q j (W k) ≡ Q k (W j)
exchanged n Q W c j k h g = elim (cases_lt j k) [
  | inl less ↦ ordered n Q W c j k (omega arith) g
  | inr more ↦ sym (ordered n Q W c k j more h)
]
