use Rattle.std.proofs.Common.{rules, ◌≡◌, ◌∙◌, ap, refl, true, is_some}
use Rattle.std.specs.Map.{lookup}
use Rattle.std.specs.Str.{bytes_eq}
use Rattle.clap.specs.Words.{found_of}
use Rattle.dsv_command.specs.ClapRows.{is_given_source}
use Rattle.dsv_command.specs.Options.{command_options}
use Rattle.dsv_command.specs.Parts.{for_option, has_key}
use Rattle.dsv_command.proofs.ClapMatches.{from_command_line, given-rows}
use Rattle.dsv_command.proofs.arguments.Arguments.is_given.Goals as goal

pub returns-then-is_some : goal.returns-then-is_some
returns-then-is_some c =
    let name = c.args.name.now in
    let source : c.eq.result ≡ is_given_source c.value_source.result = c.eq.ensures ∙ from_command_line _ c.value_source.result refl refl in
    let known : is_some (lookup (bytes_eq name) command_options) ≡ true = search rules in
    source ∙ (given-rows (found_of c.self.inside.matches) name c.value_source.result c.value_source.ensures ∙ (c.self.invariant.given name known ∙ ap (has_key (for_option name)) c.self.view_is))
