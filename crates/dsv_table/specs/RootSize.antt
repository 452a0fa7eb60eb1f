-- Between which numbers the size of a polynomial's greatest root is.
use Rattle.std.specs.Prelude.{◌≡◌, ◌⊎◌, ◌-◌, ◌<◌, Bool, true, false, List, length}
use Rattle.std.specs.Prelude.{ℤ, pos, ◌+ℤ◌, ◌<ℤ◌, ◌≤ℤ◌}
use Rattle.dsv_algebra.specs.Vectors.{vector_of}
use Rattle.dsv_table.specs.Table.{verdict_from}
use Rattle.dsv_table.specs.Rates.{scaled, HasFallAtRate, HasKeptAwayAtRate}
use Rattle.dsv_table.specs.declared.verdict.TableVerdict.{TableVerdict}
use Rattle.dsv_table.specs.declared.verdict.TableVerdict.TheVariants as verdict

-- two counts of hundred-thousandths
pub record RootSizeView : Type 0 where
  pub least : ℤ
  pub greatest : ℤ

-- how many hundred-thousandths 1 has
unfoldable pub parts : ℤ
parts = pos 100000

abbrev pub is_inside : TableVerdict → Bool
is_inside verdict.Inside = true
is_inside (verdict.NotInside row) = false

-- All roots of the polynomial are less than p hundred-thousandths in size, by its table.
abbrev pub is_inside_at : ℤ → List ℤ → Bool
is_inside_at p cs =
    let d = length cs - 1 in
    is_inside (verdict_from d 0 (scaled d p parts (vector_of cs)))

-- The greatest root of the polynomial is less in size than the greatest number, and not less than
-- the least, which is the number before it.
pub record IsRootSize (cs : List ℤ) (size : RootSizeView) : Type 0 where
  pub next : size.greatest ≡ size.least +ℤ pos 1
  pub least : pos 0 ≤ℤ size.least
  pub inside : is_inside_at size.greatest cs ≡ true
  pub not_inside : (size.least ≡ pos 0) ⊎ (is_inside_at size.least cs ≡ false)

-- Both numbers are shown by forms: one that falls at the rate of the greatest number, and one that
-- is kept away from 0 at the rate of the least.
abbrev pub RootSizesAreShown : Type 0
RootSizesAreShown = (cs : List ℤ) (size : RootSizeView)
    → 1 < length cs → pos 0 <ℤ vector_of cs 0 → IsRootSize cs size
    → HasFallAtRate (length cs - 1) size.greatest parts (vector_of cs)
    × ((size.least ≡ pos 0) ⊎ HasKeptAwayAtRate (length cs - 1) size.least parts (vector_of cs))

-- A polynomial has one root size.
abbrev pub OneRootSize : Type 0
OneRootSize = (cs : List ℤ) (a b : RootSizeView)
    → 1 < length cs → pos 0 <ℤ vector_of cs 0 → IsRootSize cs a → IsRootSize cs b → a ≡ b
