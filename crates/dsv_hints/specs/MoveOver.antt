-- The variables of what a hinted clause makes true.
use Rattle.std.specs.Prelude.{ℕ, ◌<◌}
use Rattle.dsv_hints.specs.declared.hints.Move.{Move}
use Rattle.dsv_hints.specs.declared.hints.Move.TheVariants.{Ends, Makes, Stuck}

abbrev pub IsMoveOver : ℕ → Move → Type 0
IsMoveOver vars (Makes l) = l.var < vars
IsMoveOver vars Ends = Unit {0}
IsMoveOver vars Stuck = Unit {0}
