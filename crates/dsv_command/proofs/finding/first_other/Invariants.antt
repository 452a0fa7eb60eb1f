use Rattle.std.proofs.Common.{◌≡◌, drop}
use Rattle.dsv_command.specs.Finding.{first_other}
use Rattle.dsv_command.specs.Views.{names_view}
use Rattle.dsv_command.proofs.finding.first_other.Given as goal

abbrev pub invariant-loop-name : goal.invariant-loop-name
invariant-loop-name l = first_other l.arguments (names_view l.own) (names_view (drop l.name-index l.options)) ≡ first_other l.arguments (names_view l.own) (names_view l.options)
