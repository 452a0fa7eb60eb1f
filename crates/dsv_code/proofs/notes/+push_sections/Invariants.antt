use Rattle.std.specs.Prelude.{length}
use Rattle.dsv_code.proofs.notes.+push_sections.Given as goal

abbrev pub decreases-push_sections : goal.decreases-push_sections
decreases-push_sections l = length l.sections.now
