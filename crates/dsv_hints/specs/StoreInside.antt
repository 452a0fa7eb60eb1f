-- How the clauses of a derivation are kept, with their room.
use Rattle.std.specs.Prelude.{◌+◌, ◌<◌, ◌≤◌, ◌^◌, vec_len, vec_capacity}
use Rattle.dsv_cnf.specs.Formula.{IsOver}
use Rattle.dsv_hints.specs.Slots.{live_of, AreSlots}
use Rattle.dsv_hints.specs.StoreView.{StoreView}
use Rattle.dsv_hints.specs.declared.store.Store.TheInside.{Inside}

abbrev pub view_of : Inside → StoreView
view_of s = record {
  vars = s.vars;
  last = s.last;
  live = live_of s.literals.items s.slots.items;
  spare_clauses = s.spare_clauses;
  spare_literals = s.spare_literals;
}

pub record IsStore (s : Inside) : Type 0 where
  pub over : IsOver s.vars s.literals.items
  pub slots : AreSlots s.last s.literals.items s.slots.items
  pub room_clauses : vec_len s.slots + s.spare_clauses ≤ vec_capacity s.slots
  pub room_literals : vec_len s.literals + s.spare_literals ≤ vec_capacity s.literals
  pub few_literals : vec_len s.literals + s.spare_literals < 2 ^ 32
