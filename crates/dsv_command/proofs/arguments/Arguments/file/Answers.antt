use Rattle.std.proofs.Common.{◌∙◌, ap}
use Rattle.clap.specs.Words.{found_of}
use Rattle.clap.proofs.WalkLemmas.{first_value-rows}
use Rattle.dsv_command.specs.ClapCommand.{file_id}
use Rattle.dsv_command.specs.Parts.{file_of}
use Rattle.dsv_command.proofs.arguments.Arguments.file.Goals as goal

pub returns-clause-value : goal.returns-clause-value
returns-clause-value c = c.get_str.ensures ∙ (first_value-rows (found_of c.self.inside.matches) file_id ∙ (c.self.invariant.file ∙ ap file_of c.self.view_is))
