-- Each of the six realisations has one of the three shapes, with the readings of a direct form or of a delta form.
use Rattle.std.proofs.Common.{◌≡◌, ℕ, zero, suc, ◌<◌, ◌≤◌, Bool, true, false, List, [], ◌∷◌, ◌++◌, length, drop, refl, sym, subst, ap, ◌∙◌, arith, inl, inr, ◌⊎◌}
use Rattle.std.proofs.Math.IntN.{ℤ, pos, ◌+ℤ◌, ◌*ℤ◌}
use Rattle.std.proofs.Math.ListN.{get_or-eq_default}
use Rattle.std.proofs.lemmas.Int.{ints}
use Rattle.std.proofs.lemmas.Bool.{cases_lt}
use Rattle.std.proofs.lemmas.List.{length-drop}
use lib.Signed.{◌≤ℤ◌}
use Rattle.dsv_algebra.specs.Vectors.{Vector, vector_of, dot}
use Rattle.dsv_names.specs.Realisations.{is_delta}
use Rattle.dsv_names.specs.declared.realisation.Realisation.{Realisation}
use Rattle.dsv_names.specs.declared.realisation.Realisation.TheVariants.{Dfi, Dfii, Tdfii, Ddfi, Ddfii, Tddfii}
use Rattle.dsv_quantiser.specs.QuantisedView.{QuantisedView, IsQuantisedView, unit}
use Rattle.dsv_meaning.specs.declared.summands.Summand.TheVariants.{Alone}
use Rattle.dsv_meaning.specs.Equations.{Past, order, ago, latest, feedback, forward_summands, feedback_summands, transposed_output}
use Rattle.dsv_linear.proofs.Numbers.{times_none}
use Rattle.dsv_roundoff.specs.Written.{IsLine, AreLines, delta_lines, transposed_lines}
use Rattle.dsv_roundoff.proofs.Scaling.{power_up}
use Rattle.dsv_transfer.proofs.Readings.{AreReadings, Follows, AreChain}
use Rattle.dsv_transfer.proofs.Shapes.{Meets, first_shape, second_shape, transposed_shape}
use Rattle.dsv_transfer.proofs.Chains.{value_at, values_are_readings, delay_chain, difference_at, differences_are_readings, delta_of, register_follows, register_chain}
use Rattle.dsv_transfer.proofs.Lines.{output_fed, state_fed, output_forward, output_transposed, transposed_at, delta_at, dropped}
use Rattle.dsv_transfer.proofs.SeenRuns.{Seen, chain_of, transposed_many}

-- ---- the three shapes
-- input and output meet the controller's words on these readings
abbrev pub MeetsWords : QuantisedView → (ℕ → Vector → ℤ) → Vector → Vector → Type 0
MeetsWords q Q X Y = Meets (order q) Q (vector_of q.b) (vector_of q.a) X Y

many_a : (q : QuantisedView) → IsQuantisedView q → length q.a ≡ suc (order q)
many_a q is = let some = is.some in omega arith

many_b : (q : QuantisedView) → IsQuantisedView q → length q.b ≡ suc (order q)
many_b q is = is.one_length ∙ many_a q is

first_meets : (q : QuantisedView) (Q : ℕ → Vector → ℤ) (X Y : Vector) (us vs : ℕ → List ℤ) → IsQuantisedView q → AreReadings (order q) Q
    → AreChain (order q) Q (λ j t. vector_of (X t ∷ us t) j) → AreChain (order q) Q (λ j t. vector_of (Y t ∷ vs t) j)
    → ((t : ℕ) → t ≤ order q → IsLine q.format (forward_summands q (ago (X t ∷ us t)) ++ feedback_summands q (ago (vs t)) 0) (Y t)) → MeetsWords q Q X Y
first_meets q Q X Y us vs is r u v lines =
    first_shape (order q) Q (vector_of q.b) (vector_of q.a) (λ j t. vector_of (X t ∷ us t) j) (λ j t. vector_of (Y t ∷ vs t) j) r u v (λ t l.
    ap (λ m. dot m (vector_of q.a) (vector_of (Y t ∷ vs t))) (sym (many_a q is))
    ∙ output_fed q is (X t ∷ us t) (vs t) (Y t) (lines t l)
    ∙ ap (λ m. dot m (vector_of q.b) (vector_of (X t ∷ us t))) (many_b q is))

second_meets : (q : QuantisedView) (Q : ℕ → Vector → ℤ) (X Y W : Vector) (ws : ℕ → List ℤ) → IsQuantisedView q → AreReadings (order q) Q
    → AreChain (order q) Q (λ j t. vector_of (W t ∷ ws t) j)
    → ((t : ℕ) → t ≤ order q → IsLine q.format (Alone (X t) ∷ feedback_summands q (ago (ws t)) 0) (W t))
    → ((t : ℕ) → t ≤ order q → IsLine q.format (forward_summands q (ago (W t ∷ ws t))) (Y t)) → MeetsWords q Q X Y
second_meets q Q X Y W ws is r w states outputs =
    second_shape (order q) Q (vector_of q.b) (vector_of q.a) (unit q.format) X Y (λ j t. vector_of (W t ∷ ws t) j) (power_up q.format.frac_bits) r w
    (λ t l. ap (λ m. dot m (vector_of q.a) (vector_of (W t ∷ ws t))) (sym (many_a q is)) ∙ state_fed q is (ws t) (X t) (W t) (states t l))
    (λ t l. ap (λ m. dot m (vector_of q.b) (vector_of (W t ∷ ws t))) (sym (many_b q is)) ∙ output_forward q (W t ∷ ws t) (Y t) (outputs t l))

begun : (one y bx os : ℤ) → one *ℤ y ≡ bx +ℤ os → one *ℤ pos 0 +ℤ one *ℤ y ≡ bx +ℤ os
begun one y bx os h = let z = times_none one in omega (arith, ints)

transposed_line_at : (q : QuantisedView) (x y : ℤ) (s ts : List ℤ) → IsQuantisedView q → IsLine q.format (transposed_output q x s) y → AreLines q.format (transposed_lines x y (drop 1 q.b) (feedback q) s) ts → (i : ℕ) → i ≤ order q
    → unit q.format *ℤ vector_of (pos 0 ∷ ts) i +ℤ vector_of q.a i *ℤ y ≡ vector_of q.b i *ℤ x +ℤ unit q.format *ℤ vector_of s i
transposed_line_at q x y s ts is output lines zero l =
    ap (λ z. unit q.format *ℤ pos 0 +ℤ z *ℤ y) is.leading ∙ begun (unit q.format) y (vector_of q.b 0 *ℤ x) (unit q.format *ℤ vector_of s 0) (output_transposed q x y s output)
transposed_line_at q x y s ts is output lines (suc i) l =
    let e = is.one_length in
    let b = length-drop 1 q.b in
    let a = length-drop 1 q.a in
    ap (λ z. unit q.format *ℤ vector_of ts i +ℤ z *ℤ y) (sym (dropped q.a i))
    ∙ transposed_at q.format x y (drop 1 q.b) (feedback q) s ts lines (omega arith) i (omega arith)
    ∙ ap (λ z. z *ℤ x +ℤ unit q.format *ℤ vector_of s (suc i)) (dropped q.b i)

transposed_meets : (q : QuantisedView) (Q : ℕ → Vector → ℤ) (X Y : Vector) (ss ts : ℕ → List ℤ) → IsQuantisedView q → AreReadings (order q) Q
    → ((i : ℕ) → i < order q → Follows (order q) Q (λ t. vector_of (ss t) i) (λ t. vector_of (ts t) i))
    → ((t : ℕ) → t ≤ order q → length (ss t) ≡ order q)
    → ((t : ℕ) → t ≤ order q → IsLine q.format (transposed_output q (X t) (ss t)) (Y t))
    → ((t : ℕ) → t ≤ order q → AreLines q.format (transposed_lines (X t) (Y t) (drop 1 q.b) (feedback q) (ss t)) (ts t)) → MeetsWords q Q X Y
transposed_meets q Q X Y ss ts is r follows many outputs lines =
    transposed_shape (order q) Q (vector_of q.b) (vector_of q.a) (unit q.format) X Y (λ j t. vector_of (pos 0 ∷ ts t) j) (λ i t. vector_of (ss t) i) r
    (λ i p t l. transposed_line_at q (X t) (Y t) (ss t) (ts t) is (outputs t l) (lines t l) i p)
    (λ t l. refl) (λ t l. get_or-eq_default (ss t) (pos 0) (let e = many t l in omega arith)) follows

-- ---- a choice for each sample
-- for each sample that is looked at, one of the values that there are
pub record Chosen {A : Type 0} (n : ℕ) (P : ℕ → A → Type 0) : Type 0 where
  pub values : ℕ → A
  pub hold : (t : ℕ) → t ≤ n → P t (values t)

abbrev pick : {A : Type 0} (n : ℕ) (P : ℕ → A → Type 0) → A → ((t : ℕ) → t ≤ n → (x : A) × P t x) → (t : ℕ) → (n < t) ⊎ (t ≤ n) → A
pick n P other f t (inl over) = other
pick n P other f t (inr h) = (f t h).0

picked : {A : Type 0} (n : ℕ) (P : ℕ → A → Type 0) (other : A) (f : (t : ℕ) → t ≤ n → (x : A) × P t x) (t : ℕ) (c : (n < t) ⊎ (t ≤ n)) → t ≤ n → P t (pick n P other f t c)
picked n P other f t (inl over) h = absurd (omega arith)
picked n P other f t (inr g) h = (f t g).1

chosen : {A : Type 0} (n : ℕ) (P : ℕ → A → Type 0) → A → ((t : ℕ) → t ≤ n → (x : A) × P t x) → Chosen n P
chosen n P other f = record { values = λ t. pick n P other f t (cases_lt n t); hold = λ t h. picked n P other f t (cases_lt n t) h }

-- ---- direct forms
abbrev DirectMeets : Realisation → Type 0
DirectMeets k = (q : QuantisedView) (X Y : Vector) → IsQuantisedView q → Seen k q X Y → MeetsWords q value_at X Y

dfi_meets : DirectMeets Dfi
dfi_meets q X Y is s =
    let n = order q in
    let us : ℕ → List ℤ = λ t. (s.past (suc t)).signal in
    let vs : ℕ → List ℤ = λ t. (s.past (suc t)).outputs in
    first_meets q value_at X Y us vs is (values_are_readings n)
    (delay_chain n X us (λ t l. ap (λ (p : Past). p.signal) (s.samples (suc t) (omega arith)).1))
    (delay_chain n Y vs (λ t l. ap (λ (p : Past). p.outputs) (s.samples (suc t) (omega arith)).1))
    (λ t l. (s.samples t l).0)

-- what w of a sample is
record IsState (q : QuantisedView) (x y : ℤ) (old new : List ℤ) (w : ℤ) : Type 0 where
  pub state : IsLine q.format (Alone x ∷ feedback_summands q (ago old) 0) w
  pub output : IsLine q.format (forward_summands q (ago (w ∷ old))) y
  pub next : new ≡ w ∷ old

dfii_meets : DirectMeets Dfii
dfii_meets q X Y is s =
    let n = order q in
    let ws : ℕ → List ℤ = λ t. (s.past (suc t)).signal in
    let w = chosen n (λ t. IsState q (X t) (Y t) (ws t) (s.past t).signal) (pos 0) (λ t l.
    let h = s.samples t l in
    (h.0, record { state = h.1; output = h.2; next = ap (λ (p : Past). p.signal) h.3 })) in
    second_meets q value_at X Y w.values ws is (values_are_readings n)
    (delay_chain n w.values ws (λ t l. (w.hold (suc t) (omega arith)).next))
    (λ t l. (w.hold t l).state) (λ t l. (w.hold t l).output)

tdfii_meets : DirectMeets Tdfii
tdfii_meets q X Y is s =
    let ss : ℕ → List ℤ = λ t. latest (s.past (suc t)).chain in
    let ts : ℕ → List ℤ = λ t. latest (s.past t).chain in
    transposed_meets q value_at X Y ss ts is (values_are_readings (order q)) (λ i l t h. refl) (λ t l. s.chains (suc t) (omega arith)) (λ t l. (s.samples t l).1) (λ t l.
    let h = s.samples t l in
    subst (λ us. AreLines q.format (transposed_lines (X t) (Y t) (drop 1 q.b) (feedback q) (ss t)) us) (sym (chain_of (s.past (suc t)) (s.past t) h.0 h.3)) h.2)

-- ---- delta forms
abbrev DeltaMeets : Realisation → Type 0
DeltaMeets k = (q : QuantisedView) (X Y : Vector) → IsQuantisedView q → pos 1 ≤ℤ q.delta → Seen k q X Y → MeetsWords q (difference_at (delta_of q) (order q)) X Y

ddfi_meets : DeltaMeets Ddfi
ddfi_meets q X Y is up s =
    let n = order q in
    let us : ℕ → List ℤ = λ t. latest (s.past (suc t)).chain in
    let vs : ℕ → List ℤ = λ t. latest (s.past (suc t)).output_chain in
    first_meets q (difference_at (delta_of q) n) X Y us vs is (differences_are_readings (delta_of q) n)
    (register_chain q up n X us (λ t l.
    let h = s.samples (suc t) (omega arith) in
    subst (λ ws. AreLines q.format (delta_lines q (us (suc t)) (X (suc t) ∷ us (suc t))) ws) (sym (ap (λ (p : Past). latest p.chain) h.5)) h.3)
    (λ t l. (s.chains (suc (suc t)) (omega arith)).0))
    (register_chain q up n Y vs (λ t l.
    let h = s.samples (suc t) (omega arith) in
    subst (λ ws. AreLines q.format (delta_lines q (vs (suc t)) (Y (suc t) ∷ vs (suc t))) ws) (sym (ap (λ (p : Past). latest p.output_chain) h.5)) h.4)
    (λ t l. (s.chains (suc (suc t)) (omega arith)).1))
    (λ t l. (s.samples t l).2)

-- what w_0 of a sample is
record IsFirstState (q : QuantisedView) (x y : ℤ) (old new : List ℤ) (w : ℤ) : Type 0 where
  pub state : IsLine q.format (Alone x ∷ feedback_summands q (ago old) 0) w
  pub output : IsLine q.format (forward_summands q (ago (w ∷ old))) y
  pub next : AreLines q.format (delta_lines q old (w ∷ old)) new

ddfii_meets : DeltaMeets Ddfii
ddfii_meets q X Y is up s =
    let n = order q in
    let ws : ℕ → List ℤ = λ t. latest (s.past (suc t)).chain in
    let w = chosen n (λ t. IsFirstState q (X t) (Y t) (ws t) (latest (s.past t).chain)) (pos 0) (λ t l.
    let h = s.samples t l in (
      h.0,
      record {
        state = h.2;
        output = h.3;
        next = subst (λ us. AreLines q.format (delta_lines q (ws t) (h.0 ∷ ws t)) us) (sym (chain_of (s.past (suc t)) (s.past t) h.1 h.5)) h.4;
      },
    )) in
    second_meets q (difference_at (delta_of q) n) X Y w.values ws is (differences_are_readings (delta_of q) n)
    (register_chain q up n w.values ws (λ t l. (w.hold (suc t) (omega arith)).next) (λ t l. s.chains (suc (suc t)) (omega arith)))
    (λ t l. (w.hold t l).state) (λ t l. (w.hold t l).output)

-- what t of a sample is
record AreChanges (q : QuantisedView) (x y : ℤ) (old new ts : List ℤ) : Type 0 where
  pub lines : AreLines q.format (transposed_lines x y (drop 1 q.b) (feedback q) old) ts
  pub next : AreLines q.format (delta_lines q old ts) new

tddfii_meets : DeltaMeets Tddfii
tddfii_meets q X Y is up s =
    let n = order q in
    let ss : ℕ → List ℤ = λ t. latest (s.past (suc t)).chain in
    let ts = chosen n (λ t. AreChanges q (X t) (Y t) (ss t) (latest (s.past t).chain)) [] (λ t l.
    let h = s.samples t l in
    (h.0, record { lines = h.3; next = subst (λ us. AreLines q.format (delta_lines q (ss t) h.0) us) (sym (chain_of (s.past (suc t)) (s.past t) h.1 h.5)) h.4 })) in
    transposed_meets q (difference_at (delta_of q) n) X Y ss ts.values is (differences_are_readings (delta_of q) n)
    (λ i p. register_follows q up n (λ t. vector_of (ss t) i) (λ t. vector_of (ts.values t) i) (λ t l.
    let many = s.chains (suc (suc t)) (omega arith) in
    let c = ts.hold (suc t) (omega arith) in
    let long = transposed_many q (X (suc t)) (Y (suc t)) (ss (suc t)) (ts.values (suc t)) is c.lines in
    delta_at q (ss (suc t)) (ts.values (suc t)) (ss t) c.next (omega arith) i (omega arith)))
    (λ t l. s.chains (suc t) (omega arith)) (λ t l. (s.samples t l).2) (λ t l. (ts.hold t l).lines)

-- ---- all
-- the readings of the coefficients in z, in a delta form or in another
abbrev pub reading_of : Bool → QuantisedView → ℕ → Vector → ℤ
reading_of true q = difference_at (delta_of q) (order q)
reading_of false q = value_at

abbrev FormMeets : Realisation → Type 0
FormMeets k = (q : QuantisedView) (X Y : Vector) → IsQuantisedView q → (is_delta k ≡ true → pos 1 ≤ℤ q.delta) → Seen k q X Y → MeetsWords q (reading_of (is_delta k) q) X Y

pub form_meets : (k : Realisation) → FormMeets k
form_meets Dfi q X Y is up s = dfi_meets q X Y is s
form_meets Dfii q X Y is up s = dfii_meets q X Y is s
form_meets Tdfii q X Y is up s = tdfii_meets q X Y is s
form_meets Ddfi q X Y is up s = ddfi_meets q X Y is (up refl) s
form_meets Ddfii q X Y is up s = ddfii_meets q X Y is (up refl) s
form_meets Tddfii q X Y is up s = tddfii_meets q X Y is (up refl) s
