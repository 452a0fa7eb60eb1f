use Rattle.dsv_ctext.proofs.Spellings.{spells}
use Rattle.dsv_ctext.proofs.grammar.expressions_are_spelled.Goals as goal

pub returns : goal.returns
returns c = spells
