use Rattle.std.proofs.lemmas.Nat.{and_mask}
use Rattle.dsv_term.proofs.word.low_bits.Goals as goal

pub returns : goal.returns
returns c = rw c.mask.ensures (and_mask c.args.number c.args.width)
