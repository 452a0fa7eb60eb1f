use Rattle.std.proofs.Common.{rules, ◌∙◌, ◌<◌, length}
use Rattle.clap.specs.Words.{app_of}
use Rattle.dsv_command.proofs.CommandLemmas.{one_rule_more}
use Rattle.dsv_command.proofs.arguments.command.Goals as goal

pub loop-option-preserved : goal.loop-option-preserved
loop-option-preserved c =
    let options = c.command_options-options.result.now in
    let inside : c.loop-option.option-index < length options = search rules in
    one_rule_more options c.loop-option.option-index _ (app_of c.loop-option.command) (app_of c.in_ok-command-2.command) _ inside c.option_argument.ensures.rule
    (c.in_ok-command-2.ensures.shape c.option_argument.ensures.local) ∙ c.loop-option.invariant
