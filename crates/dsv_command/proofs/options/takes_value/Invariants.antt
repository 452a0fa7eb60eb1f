use Rattle.std.proofs.Common.{◌≡◌, drop}
use Rattle.std.specs.Map.{lookup}
use Rattle.std.specs.Str.{bytes_eq}
use Rattle.dsv_command.specs.Views.{options_view}
use Rattle.dsv_command.proofs.options.takes_value.Given as goal

abbrev pub invariant-loop-option : goal.invariant-loop-option
invariant-loop-option l = lookup (bytes_eq l.name) (options_view (drop l.option-index l.options)) ≡ lookup (bytes_eq l.name) (options_view l.options)
