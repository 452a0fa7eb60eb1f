use Rattle.std.proofs.Common.{◌<◌, length}
use Rattle.dsv_blast.proofs.ModelSteps.{place-narrow}
use Rattle.dsv_blast.proofs.model_values.values_of.Goals as goal

pub number-requires-clause-narrow : goal.number-requires-clause-narrow
number-requires-clause-narrow c =
    let inside : c.loop-i.i < length c.args.blasted.now.inputs = rw c.len-i-end.ensures at c.loop-i-test.true in
    rw c.at.ensures (place-narrow c.args.blasted.now.inputs c.loop-i.i inside c.args.blasted.now.widths)
