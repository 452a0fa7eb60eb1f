-- How a set of literals is kept.
use Rattle.std.specs.Prelude.{◌≡◌, ◌*◌, ◌≤◌, ◌^◌, ◌==◌, length, map}
use Rattle.std.specs.List.{All}
use Rattle.dsv_cnf.specs.LiteralSet.{SetView}
use Rattle.dsv_cnf.specs.declared.literal_set.LiteralSet.TheInside.{Inside}

abbrev pub view_of : Inside → SetView
view_of s = record { vars = s.vars; marks = map (λ m. m == s.round) s.marks.items }

-- there is a mark for each literal, and none of a round to come
pub record IsSet (s : Inside) : Type 0 where
  pub few_vars : s.vars ≤ 2 ^ 31
  pub room : length s.marks.items ≡ 2 * s.vars
  pub begun : 1 ≤ s.round
  pub past : All (λ m. m ≤ s.round) s.marks.items
