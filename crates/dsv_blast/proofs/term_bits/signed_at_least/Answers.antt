use Rattle.dsv_blast.proofs.NodeValues.{over-turned}
use Rattle.dsv_blast.proofs.term_bits.signed_at_least.Goals as goal

pub at_least-requires-clause-first : goal.at_least-requires-clause-first
at_least-requires-clause-first c = rw (c.as_slice.ensures, c.in_ok-first.ensures) (over-turned c.args.circuit.now.formula.vars c.args.first.now c.requires.first)

pub at_least-requires-clause-second : goal.at_least-requires-clause-second
at_least-requires-clause-second c = rw (c.as_slice-2.ensures, c.in_ok-second.ensures) (over-turned c.args.circuit.now.formula.vars c.args.second.now c.requires.second)
