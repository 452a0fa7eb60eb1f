-- The entries of a form of two places; private contracts alone cite it.
use Rattle.std.specs.Prelude.{◌≤◌, ◌^◌, List, [], ◌∷◌, ℤ}
use Rattle.std.specs.Int.RustNames.{unsigned_abs}
use Rattle.dsv_closed_forms.specs.declared.entries.Entries.{Entries}

-- the entries row by row
abbrev pub rows_of : Entries → List (List ℤ)
rows_of e = (e.first ∷ e.upper ∷ []) ∷ (e.lower ∷ e.last ∷ []) ∷ []

-- no entry passes 2^74 in size
pub record HasSmallEntries (e : Entries) : Type 0 where
  pub first : unsigned_abs e.first ≤ 2 ^ 74
  pub upper : unsigned_abs e.upper ≤ 2 ^ 74
  pub lower : unsigned_abs e.lower ≤ 2 ^ 74
  pub last : unsigned_abs e.last ≤ 2 ^ 74
