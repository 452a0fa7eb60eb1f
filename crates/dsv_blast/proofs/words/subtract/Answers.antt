use Rattle.dsv_blast.proofs.WordValues.{over-negations}
use Rattle.dsv_blast.proofs.words.subtract.Goals as goal

pub add-requires-clause-second : goal.add-requires-clause-second
add-requires-clause-second c = rw (c.as_slice.ensures, c.in_ok-second.ensures) (over-negations c.args.circuit.now.formula.vars c.args.second.now c.requires.second)
