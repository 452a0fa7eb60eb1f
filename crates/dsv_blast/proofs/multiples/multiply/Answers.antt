use Rattle.std.proofs.Common.{◌∙◌, length}
use Rattle.dsv_blast.proofs.Growth.{over-more}
use Rattle.dsv_blast.proofs.CodeSteps.{multiple-next}
use Rattle.dsv_blast.proofs.multiples.multiply.Goals as goal

pub loop-i-preserved : goal.loop-i-preserved
loop-i-preserved c =
    let i = c.loop-i.invariant in
    let o = c.in_ok-sum-2.ensures in
    record {
      copied = over-more c.loop-i.circuit.formula.vars c.add_if.new.circuit.formula.vars c.as_slice-copies.result.now o.longer i.copied;
      summed = o.over;
      width = o.width ∙ i.width;
      rest = multiple-next (length c.args.word.now) c.loop-i.i c.loop-i.rest c.as_slice-copies.result.now c.loop-i.circuit c.add_if.new.circuit c.loop-i.sum c.in_ok-sum-2.sum c.loop-i-test.true o.circuit o.bits ∙ i.rest;
    }
