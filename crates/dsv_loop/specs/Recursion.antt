-- What the plant's whole numbers are to its fractions, and what the loop's polynomial says of the
-- signals in the loop. A signal is a function of how many samples ago: y 0 is now, y 1 one sample
-- before.
use Rattle.std.specs.Prelude.{◌≡◌, ℕ, suc, ◌+◌, ◌<◌, List, [], ◌∷◌, length}
use Rattle.std.specs.Prelude.{ℤ, pos, ◌*ℤ◌, neg_ℤ}
use Rattle.dsv_fraction.specs.Ratio.{Ratio}
use Rattle.dsv_algebra.specs.Vectors.{Vector, vector_of, dot}
use Rattle.dsv_quantiser.specs.QuantisedView.{QuantisedView}
use Rattle.dsv_loop.specs.Loops.{TransferView, section_transfer}

-- the sum of c_k x(t + k): what the list makes of the signal, t samples ago
abbrev pub filtered : List ℤ → Vector → ℕ → ℤ
filtered cs x t = dot (length cs) (vector_of cs) (λ k. x (t + k))

-- t samples ago the output was what b / a makes of the input
abbrev pub Meets : TransferView → Vector → Vector → ℕ → Type 0
Meets f output input t = filtered f.a output t ≡ filtered f.b input t

-- In the last n samples each section's output was the next one's input: x 0 is the input of the
-- first section, and x (suc k) the output of section k.
abbrev pub AreInSeries : List QuantisedView → (ℕ → Vector) → ℕ → Type 0
AreInSeries [] x n = Unit {0}
AreInSeries (q ∷ qs) x n = ((t : ℕ) → t < n → Meets (section_transfer q) (x 1) (x 0) t)
    × AreInSeries qs (λ k. x (suc k)) n

-- in the last n samples u was the controller's output for the input -y, and y the plant's for u
pub record AreInLoop (c p : TransferView) (y u : Vector) (n : ℕ) : Type 0 where
  pub controller : (t : ℕ) → t < n → Meets c u (λ i. neg_ℤ (y i)) t
  pub plant : (t : ℕ) → t < n → Meets p y u t

-- t samples ago the signal obeyed the recursion with these coefficients
abbrev pub Obeys : List ℤ → Vector → ℕ → Type 0
Obeys cs y t = filtered cs y t ≡ pos 0

-- Each solution of the recursion with these coefficients is in the loop: for as many samples as a
-- signal obeys it, what the plant's numerator makes of the signal is an output, and what its
-- denominator makes of it the plant's input.
abbrev pub SolutionsAreInLoop : TransferView → TransferView → List ℤ → Type 0
SolutionsAreInLoop c p cs = (v : Vector) (n : ℕ) → ((t : ℕ) → t < n → Obeys cs v t)
    → AreInLoop c p (filtered p.b v) (filtered p.a v) n

-- each whole number is the fraction in its place times l
abbrev pub AreTimes : ℕ → List Ratio → List ℤ → Type 0
AreTimes l [] [] = Unit {0}
AreTimes l (q ∷ qs) (n ∷ ns) = (n *ℤ pos q.den ≡ q.num *ℤ pos l) × AreTimes l qs ns
AreTimes l qs ns = ⊥
