-- Lemmas alone cite this: what forms, ranges of symbols and estimates mean.
--
-- Symbols have values over a denominator, so a form is an equation in whole numbers. The
-- denominator grows at each rounding, and no code computes it.
use Rattle.std.specs.Prelude.{◌≡◌, ℕ, ◌<◌, ◌≤◌, ◌==◌, if◌then◌else◌, List, length}
use Rattle.std.specs.Prelude.{Option, IfSome, ℤ, pos, ◌*ℤ◌, ◌<ℤ◌, ◌≤ℤ◌}
use Rattle.dsv_algebra.specs.Vectors.{sum_to}
use Rattle.dsv_netlist.specs.Nodes.{at}
use Rattle.dsv_linear.specs.declared.range.Range.{Range}
use Rattle.dsv_linear.specs.declared.point.Estimate.{Estimate}
use Rattle.dsv_linear.specs.Forms.{scale, range_scale, range_at}
use Rattle.dsv_linear.specs.Known.{form_at}

-- the sum of the first n coefficients, each times its symbol
abbrev pub sum_at : ℕ → List ℤ → (ℕ → ℤ) → ℤ
sum_at n form us = sum_to n (λ j. at form j *ℤ us j)

-- where the first n symbols are these over k, the form's value is v
pub record Means (n : ℕ) (k : ℤ) (us : ℕ → ℤ) (form : List ℤ) (v : ℤ) : Type 0 where
  pub short : length form ≤ n
  pub exact : pos scale *ℤ k *ℤ v ≡ sum_at n form us

-- the symbol that is u over k is in its range
pub record LiesIn (k : ℤ) (r : Range) (u : ℤ) : Type 0 where
  pub least : (k *ℤ r.low) ≤ℤ (pos range_scale *ℤ u)
  pub most : (pos range_scale *ℤ u) ≤ℤ (k *ℤ r.high)

-- the symbols are these over k, each in its range
pub record AreSymbols (k : ℤ) (us : ℕ → ℤ) (ranges : List Range) : Type 0 where
  pub positive : pos 0 <ℤ k
  pub within : (j : ℕ) → j < length ranges → LiesIn k (range_at ranges j) (us j)

-- a form that is known means the value
abbrev pub Knows : ℕ → ℤ → (ℕ → ℤ) → Option (List ℤ) → ℤ → Type 0
Knows n k us form v = IfSome form (λ f. Means n k us f v)

-- each value has its form, where that is known
pub record Stand (n : ℕ) (k : ℤ) (us : ℕ → ℤ) (estimates : List Estimate) (values : List ℤ) :
    Type 0 where
  pub long : length estimates ≡ length values
  pub each : (i : ℕ) → i < length values → Knows n k us (form_at estimates i) (at values i)

-- the first n symbols at a denominator s times as great, and one more
abbrev pub grown : ℤ → ℕ → (ℕ → ℤ) → ℤ → ℕ → ℤ
grown s n us u j = if j == n then u else s *ℤ us j
