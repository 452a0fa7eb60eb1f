-- What contracts see of a trail.
use Rattle.std.specs.Prelude.{ℕ, List}
use Rattle.dsv_trail.specs.declared.marks.Mark.{Mark}

-- how many variables there are, the literals in order with their levels and reasons, and how many
-- there were before each decision
pub record TrailView : Type 0 where
  pub vars : ℕ
  pub marks : List Mark
  pub limits : List ℕ
