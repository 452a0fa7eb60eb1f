use Rattle.dsv_blast.proofs.WordValues.{over-negations}
use Rattle.dsv_blast.proofs.words.at_least.Goals as goal

pub carry_out-requires-clause-second : goal.carry_out-requires-clause-second
carry_out-requires-clause-second c = rw (c.as_slice.ensures, c.in_ok-second.ensures) (over-negations c.args.circuit.now.formula.vars c.args.second.now c.requires.second)
