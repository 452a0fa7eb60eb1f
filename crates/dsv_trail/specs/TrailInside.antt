-- How a trail is kept, with its room.
use Rattle.std.specs.Prelude.{◌<◌, ◌≤◌, ◌^◌, length, vec_capacity}
use Rattle.dsv_trail.specs.TrailView.{TrailView}
use Rattle.dsv_trail.specs.Levels.{AreLevels}
use Rattle.dsv_trail.specs.declared.trail.Trail.TheInside.{Inside}

abbrev pub view_of : Inside → TrailView
view_of t = record { vars = t.marks.vars; marks = t.marks.marks; limits = t.limits.items }

pub record IsTrailInside (t : Inside) : Type 0 where
  pub small : t.marks.vars < 2 ^ 32
  pub few : length t.marks.marks ≤ t.marks.vars
  pub room : t.marks.vars ≤ vec_capacity t.limits
  pub levels : AreLevels t.limits.items t.marks.marks
