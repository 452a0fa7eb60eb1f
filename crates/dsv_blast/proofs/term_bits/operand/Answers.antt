use Rattle.dsv_blast.proofs.NodeValues.{over-at, width-at}
use Rattle.dsv_blast.proofs.term_bits.operand.Goals as goal

pub returns-clause-over : goal.returns-clause-over
returns-clause-over c = rw c.at.ensures (over-at c.args.circuit.now.formula.vars c.args.bits.now c.args.id.0 c.requires.earlier.over)

pub returns-clause-lawful : goal.returns-clause-lawful
returns-clause-lawful c = rw (c.at.ensures, ← width-at c.args.bits.now c.args.id.0) (c.requires.earlier.widths c.args.id.0 0 c.requires.stands)
