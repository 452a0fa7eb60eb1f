use Rattle.std.proofs.Common.{◌≡◌, drop}
use Rattle.std.specs.List.{list_any}
use Rattle.std.specs.Str.{bytes_eq}
use Rattle.dsv_command.specs.Views.{names_view}
use Rattle.dsv_command.proofs.finding.is_among.Given as goal

abbrev pub invariant-loop-other : goal.invariant-loop-other
invariant-loop-other l = list_any (bytes_eq l.name) (names_view (drop l.other-index l.names)) ≡ list_any (bytes_eq l.name) (names_view l.names)
