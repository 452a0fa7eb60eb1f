-- How marks are kept, with their room.
use Rattle.std.specs.Prelude.{◌≡◌, ℕ, ◌*◌, ◌<◌, ◌≤◌, ◌^◌, false, length, slice_get}
use Rattle.std.specs.Prelude.{slice_index_or, Some, vec_capacity}
use Rattle.dsv_cnf.specs.Literal.{Literal, code_of}
use Rattle.dsv_trail.specs.MarkListView.{MarkListView}
use Rattle.dsv_trail.specs.Places.{falsifies}
use Rattle.dsv_trail.specs.declared.marks.Mark.{Mark}
use Rattle.dsv_trail.specs.declared.marks.MarkList.TheInside.{Inside}

abbrev pub view_of : Inside → MarkListView
view_of m = record { vars = m.vars; marks = m.marks.items }

pub record IsMarkList (l : Inside) : Type 0 where
  pub small : l.vars < 2 ^ 32
  pub few : length l.marks.items ≤ l.vars
  pub room : l.vars ≤ vec_capacity l.marks
  pub over : (i : ℕ) (m : Mark) → slice_get l.marks.items i ≡ Some m → m.literal.var < l.vars
  pub falses : length l.falses.items ≡ 2 * l.vars
  pub places : length l.places.items ≡ l.vars
  pub are_false : (q : Literal) → q.var < l.vars
      → slice_index_or l.falses.items (code_of q) false ≡ falsifies l.marks.items q
  pub placed : (i : ℕ) (m : Mark) → slice_get l.marks.items i ≡ Some m
      → slice_index_or l.places.items m.literal.var 0 ≡ i
