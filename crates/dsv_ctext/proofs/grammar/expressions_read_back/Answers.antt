use Rattle.dsv_ctext.proofs.Readings.{reads_back}
use Rattle.dsv_ctext.proofs.grammar.expressions_read_back.Goals as goal

pub returns : goal.returns
returns c = reads_back
