use Rattle.std.specs.Prelude.{length}
use Rattle.dsv_command.proofs.code_names.+are_name_bytes.Given as goal

abbrev pub decreases-are_name_bytes : goal.decreases-are_name_bytes
decreases-are_name_bytes l = length l.text.now
