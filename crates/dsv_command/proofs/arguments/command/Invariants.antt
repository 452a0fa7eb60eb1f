use Rattle.std.proofs.Common.{◌≡◌, drop, map}
use Rattle.clap.specs.Words.{app_of}
use Rattle.dsv_command.specs.ClapCommand.{command_app, option_rule}
use Rattle.dsv_command.specs.Options.{command_options}
use Rattle.dsv_command.specs.Views.{options_view}
use Rattle.dsv_command.proofs.ClapRules.{with_rules}
use Rattle.dsv_command.proofs.arguments.command.Given as goal

abbrev pub invariant-loop-option : goal.invariant-loop-option
invariant-loop-option l = with_rules (app_of l.command) (map option_rule (options_view (drop l.option-index l.options))) ≡ command_app command_options
