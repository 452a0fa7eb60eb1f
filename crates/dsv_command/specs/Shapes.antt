-- What an argument is by its looks, where no `--` stands before it.
use Rattle.std.specs.Prelude.{ℕ, ◌==◌, List, [], ◌∷◌, Bool}
use Rattle.std.specs.Prelude.{Option, Some, None, if◌then◌else◌}
use Rattle.std.specs.List.{list_any, before_first, after_first}

-- what contracts see of a shape
pub data ShapeView : Type 0 where
  -- `-`, or an argument that doesn't begin with `-`
  plain : ShapeView
  -- `--`
  stop : ShapeView
  -- `--NAME`, or `--NAME=VALUE`
  long : List ℕ → Option (List ℕ) → ShapeView
  -- any other that begins with `-`
  dashed : ShapeView

abbrev pub equals_sign : ℕ
equals_sign = 61

abbrev pub dash : ℕ
dash = 45

abbrev pub is_equals : ℕ → Bool
is_equals byte = byte == equals_sign

abbrev pub is_dash : ℕ → Bool
is_dash byte = byte == dash

-- after two dashes; the first = ends the name
abbrev pub shape_after_dashes : List ℕ → ShapeView
shape_after_dashes [] = stop
shape_after_dashes (b ∷ bs) = if list_any is_equals (b ∷ bs)
    then long (before_first is_equals (b ∷ bs)) (Some (after_first is_equals (b ∷ bs)))
    else long (b ∷ bs) None

abbrev pub shape_after_dash : List ℕ → ShapeView
shape_after_dash [] = plain
shape_after_dash (b ∷ bs) = if is_dash b then shape_after_dashes bs else dashed

abbrev pub shape_of : List ℕ → ShapeView
shape_of [] = plain
shape_of (b ∷ bs) = if is_dash b then shape_after_dash bs else plain
