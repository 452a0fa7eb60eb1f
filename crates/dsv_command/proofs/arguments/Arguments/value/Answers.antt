use Rattle.std.proofs.Common.{rules, ◌≡◌, ◌∙◌, ap, true, Some}
use Rattle.std.specs.Map.{lookup}
use Rattle.std.specs.Str.{bytes_eq}
use Rattle.clap.specs.Words.{found_of}
use Rattle.clap.proofs.WalkLemmas.{first_value-rows}
use Rattle.dsv_command.specs.Options.{command_options}
use Rattle.dsv_command.specs.Parts.{value_of}
use Rattle.dsv_command.proofs.arguments.Arguments.value.Goals as goal

pub returns-in-Some-true : goal.returns-in-Some-true
returns-in-Some-true c =
    let name = c.args.name.now in
    let takes_value : lookup (bytes_eq name) command_options ≡ Some true = search rules in
    c.get_str.ensures ∙ (first_value-rows (found_of c.self.inside.matches) name ∙ (c.self.invariant.value name takes_value ∙ ap (value_of name) c.self.view_is))
