use Rattle.std.proofs.Common.{length}
use Rattle.dsv_word_lines.proofs.cascades.+put_sections.Given as goal

abbrev pub decreases-put_sections : goal.decreases-put_sections
decreases-put_sections g l = length l.sections.now
