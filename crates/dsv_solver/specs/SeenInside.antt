-- Private contracts alone cite this file: how literals that were met are kept.
use Rattle.std.specs.Prelude.{◌≡◌, reverse}
use Rattle.dsv_cnf.specs.Formula.{IsOver, contains}
use Rattle.dsv_cnf.specs.LiteralSet.{set_of}
use Rattle.dsv_solver.specs.SeenView.{SeenView}
use Rattle.dsv_solver.specs.declared.seen.Seen.TheInside.{Inside}

abbrev pub view_of : Inside → SeenView
view_of s = record { vars = s.set.vars; literals = reverse s.inserted.items }

-- the set has the literals that were inserted
pub record IsSeen (s : Inside) : Type 0 where
  pub over : IsOver s.set.vars s.inserted.items
  pub marked : set_of s.set ≡ contains (reverse s.inserted.items)
