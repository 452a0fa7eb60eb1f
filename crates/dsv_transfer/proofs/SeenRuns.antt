-- Exact runs of the written equations, looked at back from one of their samples.
use Rattle.std.proofs.Common.{◌≡◌, ℕ, zero, suc, ◌-◌, ◌<◌, ◌≤◌, List, [], ◌∷◌, length, drop, refl, sym, subst, ap, ◌∙◌, arith}
use Rattle.std.proofs.Math.IntN.{ℤ, ◌*ℤ◌}
use Rattle.std.proofs.lemmas.List.{length-take-le, length-drop}
use Rattle.dsv_algebra.specs.Vectors.{Vector, vector_of}
use Rattle.dsv_names.specs.declared.realisation.Realisation.{Realisation}
use Rattle.dsv_names.specs.declared.realisation.Realisation.TheVariants.{Dfi, Dfii, Tdfii, Ddfi, Ddfii, Tddfii}
use Rattle.dsv_quantiser.specs.QuantisedView.{QuantisedView, IsQuantisedView}
use Rattle.dsv_meaning.specs.Equations.{Past, order, latest, feedback, registers_of, start_as}
use Rattle.dsv_roundoff.specs.Written.{AreLines, delta_lines, transposed_lines, IsSampleAs, RunsFrom}
use Rattle.dsv_roundoff.proofs.ExactChains.{lines-length, delta_lines-length, transposed_lines-length}

-- ---- the pasts of a run
-- the past before each sample, and what each sample is
record Walk (k : Realisation) (q : QuantisedView) (d : ℤ) (p : Past) (xs ys : List ℤ) : Type 0 where
  pub past : ℕ → Past
  pub begins : past 0 ≡ p
  pub samples : (m : ℕ) → m < length xs → IsSampleAs k q (past m) (d *ℤ vector_of xs m) (vector_of ys m) (past (suc m))

abbrev before_pasts : Past → (ℕ → Past) → ℕ → Past
before_pasts p later zero = p
before_pasts p later (suc m) = later m

walk_samples : (q : QuantisedView) (d : ℤ) (p next : Past) (x y : ℤ) (xs ys : List ℤ) → IsSampleAs q.realisation q p (d *ℤ x) y next → (w : Walk q.realisation q d next xs ys) → (m : ℕ) → m < length (x ∷ xs)
    → IsSampleAs q.realisation q (before_pasts p w.past m) (d *ℤ vector_of (x ∷ xs) m) (vector_of (y ∷ ys) m) (w.past m)
walk_samples q d p next x y xs ys h w zero l = subst (λ (r : Past). IsSampleAs q.realisation q p (d *ℤ x) y r) (sym w.begins) h
walk_samples q d p next x y xs ys h w (suc m) l = w.samples m (omega arith)

walk_of : (q : QuantisedView) (d : ℤ) (p : Past) (xs ys : List ℤ) → RunsFrom q d p xs ys → Walk q.realisation q d p xs ys
walk_of q d p [] [] h = record { past = λ m. p; begins = refl; samples = λ m l. absurd (omega arith) }
walk_of q d p [] (y ∷ ys) h = absurd h
walk_of q d p (x ∷ xs) [] h = absurd h
walk_of q d p (x ∷ xs) (y ∷ ys) h =
    let w = walk_of q d h.0 xs ys h.2 in
    record { past = before_pasts p w.past; begins = refl; samples = walk_samples q d p h.0 x y xs ys h.1 w }

-- ---- how many registers
-- as many as the order, where they are chains
abbrev pub AreChains : Realisation → ℕ → Past → Type 0
AreChains Dfi n p = Unit {0}
AreChains Dfii n p = Unit {0}
AreChains Tdfii n p = length (latest p.chain) ≡ n
AreChains Ddfi n p = (length (latest p.chain) ≡ n) × (length (latest p.output_chain) ≡ n)
AreChains Ddfii n p = length (latest p.chain) ≡ n
AreChains Tddfii n p = length (latest p.chain) ≡ n

start_chains : (k : Realisation) (n : ℕ) (start : List ℤ) → length start ≡ registers_of k n → AreChains k n (start_as k n start)
start_chains Dfi n start h = tt
start_chains Dfii n start h = tt
start_chains Tdfii n start h = h
start_chains Ddfi n start h = (length-take-le n start (omega arith), omega (arith, length-drop n start))
start_chains Ddfii n start h = h
start_chains Tddfii n start h = h

pub chain_of : (p next : Past) (s : List ℤ) → next ≡ record p { chain = s ∷ p.chain } → latest next.chain ≡ s
chain_of p next s h = ap (λ (r : Past). latest r.chain) h

pub transposed_many : (q : QuantisedView) (x y : ℤ) (old new : List ℤ) → IsQuantisedView q → AreLines q.format (transposed_lines x y (drop 1 q.b) (feedback q) old) new → length new ≡ order q
transposed_many q x y old new is h =
    let e = is.one_length in
    let b = length-drop 1 q.b in
    let a = length-drop 1 q.a in
    lines-length q.format (transposed_lines x y (drop 1 q.b) (feedback q) old) new h ∙ transposed_lines-length x y (drop 1 q.b) (feedback q) old (omega arith) ∙ a

delta_many : (q : QuantisedView) (old vs new : List ℤ) → length old ≤ length vs → AreLines q.format (delta_lines q old vs) new → length new ≡ length old
delta_many q old vs new l h = lines-length q.format (delta_lines q old vs) new h ∙ delta_lines-length q old vs l

next_chains : (k : Realisation) (q : QuantisedView) (p : Past) (x y : ℤ) (next : Past) → IsQuantisedView q → AreChains k (order q) p → IsSampleAs k q p x y next → AreChains k (order q) next
next_chains Dfi q p x y next is c h = tt
next_chains Dfii q p x y next is c h = tt
next_chains Tdfii q p x y next is c h = ap length (chain_of p next h.0 h.3) ∙ transposed_many q x y (latest p.chain) h.0 is h.2
next_chains Ddfi q p x y next is c h = (
  ap (λ (r : Past). length (latest r.chain)) h.5 ∙ delta_many q (latest p.chain) (x ∷ latest p.chain) h.0 (omega arith) h.3 ∙ c.0,
  ap (λ (r : Past). length (latest r.output_chain)) h.5 ∙ delta_many q (latest p.output_chain) (y ∷ latest p.output_chain) h.1 (omega arith) h.4 ∙ c.1,
)
next_chains Ddfii q p x y next is c h = ap length (chain_of p next h.1 h.5) ∙ delta_many q (latest p.chain) (h.0 ∷ latest p.chain) h.1 (omega arith) h.4 ∙ c
next_chains Tddfii q p x y next is c h =
    let many = transposed_many q x y (latest p.chain) h.0 is h.3 in
    ap length (chain_of p next h.1 h.5) ∙ delta_many q (latest p.chain) h.0 h.1 (omega arith) h.4 ∙ c

walk_chains : (q : QuantisedView) (d : ℤ) (p : Past) (xs ys : List ℤ) → IsQuantisedView q → (w : Walk q.realisation q d p xs ys) → AreChains q.realisation (order q) p → (m : ℕ) → m ≤ length xs → AreChains q.realisation (order q) (w.past m)
walk_chains q d p xs ys is w c zero l = subst (λ (r : Past). AreChains q.realisation (order q) r) (sym w.begins) c
walk_chains q d p xs ys is w c (suc m) l =
    next_chains q.realisation q (w.past m) (d *ℤ vector_of xs m) (vector_of ys m) (w.past (suc m)) is (walk_chains q d p xs ys is w c m (omega arith)) (w.samples m (omega arith))

-- ---- looked back
-- X and Y are the inputs and the outputs so many samples ago, and past t is the past after the sample t samples ago
pub record Seen (k : Realisation) (q : QuantisedView) (X Y : Vector) : Type 0 where
  pub past : ℕ → Past
  pub samples : (t : ℕ) → t ≤ order q → IsSampleAs k q (past (suc t)) (X t) (Y t) (past t)
  pub chains : (t : ℕ) → t ≤ suc (order q) → AreChains k (order q) (past t)

pub seen : (q : QuantisedView) (d : ℤ) (start xs ys : List ℤ) (n : ℕ) → IsQuantisedView q → length start ≡ registers_of q.realisation (order q)
    → RunsFrom q d (start_as q.realisation (order q) start) xs ys → order q ≤ n → n < length xs
    → Seen q.realisation q (λ t. d *ℤ vector_of xs (n - t)) (λ t. vector_of ys (n - t))
seen q d start xs ys n is many h enough l =
    let k = q.realisation in
    let p = start_as k (order q) start in
    let w = walk_of q d p xs ys h in
    record {
      past = λ t. w.past (suc n - t);
      samples = λ t s. (
          let before : n - t ≡ suc n - suc t = omega arith in
          let after : suc (n - t) ≡ suc n - t = omega arith in
          subst (λ i. IsSampleAs k q (w.past i) (d *ℤ vector_of xs (n - t)) (vector_of ys (n - t)) (w.past (suc n - t))) before
          (subst (λ i. IsSampleAs k q (w.past (n - t)) (d *ℤ vector_of xs (n - t)) (vector_of ys (n - t)) (w.past i)) after (w.samples (n - t) (omega arith))));
      chains = λ t s. walk_chains q d p xs ys is w (start_chains k (order q) start many) (suc n - t) (omega arith);
    }
