-- Private contracts alone cite this file: how watched literals are kept.
use Rattle.std.specs.Prelude.{◌≡◌, ℕ, ◌*◌, ◌<◌, ◌≤◌, ◌^◌, length}
use Rattle.std.specs.Prelude.{slice_index_or, slice_index, []}
use Rattle.std.specs.Prelude.{slice_get, Some}
use Rattle.dsv_solver.specs.WatchView.{WatchView}
use Rattle.dsv_solver.specs.Watched.{IsPairOver, IsListed}
use Rattle.dsv_solver.specs.declared.watches.Pair.{Pair}
use Rattle.dsv_solver.specs.declared.watches.Watches.TheInside.{Inside}

abbrev pub view_of : Inside → WatchView
view_of w = record { vars = w.vars; pairs = w.pairs.items; lists = w.lists.items }

pub record IsWatches (w : Inside) : Type 0 where
  pub few_vars : w.vars ≤ 2 ^ 31
  pub room : length w.lists.items ≡ 2 * w.vars
  pub over : (i : ℕ) (p : Pair) → slice_get w.pairs.items i ≡ Some p → IsPairOver w.vars p
  pub listed : (i : ℕ) (p : Pair) → slice_get w.pairs.items i ≡ Some p → IsListed w.lists.items i p
  pub below : (k j : ℕ) → j < length (slice_index_or w.lists.items k [])
      → slice_index (slice_index_or w.lists.items k []) j < length w.pairs.items
