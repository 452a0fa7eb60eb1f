-- What contracts see of the list of marks: scaffolding of the trail's own functions.
use Rattle.std.specs.Prelude.{ℕ, List}
use Rattle.dsv_trail.specs.declared.marks.Mark.{Mark}

-- how many variables there are, and the marks in order
pub record MarkListView : Type 0 where
  pub vars : ℕ
  pub marks : List Mark
