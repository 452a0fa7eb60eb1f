-- The search for a root size. Private contracts alone cite this.
use Rattle.std.specs.Prelude.{◌≡◌, ◌⊎◌, ℕ, ◌-◌, ◌<◌, true, false, if◌then◌else◌}
use Rattle.std.specs.Prelude.{List, length, ℤ, pos, ◌+ℤ◌, ◌≤ℤ◌}
use Rattle.dsv_algebra.specs.Vectors.{vector_of}
use Rattle.dsv_algebra.specs.Falling.{power}
use Rattle.dsv_table.specs.Rates.{scaled}
use Rattle.dsv_table.specs.RootSize.{parts, is_inside_at}

-- the first powers of a number
pub record ArePowers (base : ℤ) (count : ℕ) (list : List ℤ) : Type 0 where
  pub places : length list ≡ count
  pub same : (i : ℕ) → i < count → vector_of list i ≡ power base i

-- the coefficients of the polynomial with its roots divided by p hundred-thousandths
pub record AreScaled (cs : List ℤ) (p : ℤ) (list : List ℤ) : Type 0 where
  pub places : length list ≡ length cs
  pub same : (i : ℕ) → i < length cs
      → vector_of list i ≡ scaled (length cs - 1) p parts (vector_of cs) i

-- All roots are less in size than this number and the n-th power of two together, and the greatest
-- root isn't less than this number, unless that is 0.
pub record IsBracket (cs : List ℤ) (least : ℤ) (n : ℕ) : Type 0 where
  pub not_negative : pos 0 ≤ℤ least
  pub inside : is_inside_at (least +ℤ power (pos 2) n) cs ≡ true
  pub not_inside : (least ≡ pos 0) ⊎ (is_inside_at least cs ≡ false)

-- the powers of two below one at which the polynomial is inside
pub record AreSteps (cs steps : List ℤ) : Type 0 where
  pub powers : ArePowers (pos 2) (length steps) steps
  pub inside : is_inside_at (power (pos 2) (length steps)) cs ≡ true

-- the number and a step, unless the polynomial is inside there
abbrev pub raised_least : ℤ → ℤ → List ℤ → ℤ
raised_least least step cs = if is_inside_at (least +ℤ step) cs then least else least +ℤ step
