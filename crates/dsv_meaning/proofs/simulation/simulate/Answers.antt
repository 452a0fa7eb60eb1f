use Rattle.std.proofs.Common.{◌∙◌, refl, arith, slice_index_or, pos}
use Rattle.dsv_meaning.proofs.RunLemmas.{run_more}
use Rattle.dsv_meaning.proofs.simulation.simulate.Goals as goal

pub loop-x-preserved : goal.loop-x-preserved
loop-x-preserved c = record {
  same =
      run_more c.args.quantised.now c.loop-x.registers.items c.next_row-row.new.registers.items (slice_index_or c.args.inputs.now c.loop-x.x-index (pos 0)) c.args.inputs.now c.loop-x.x-index
      c.loop-x.rows.items c.push.new.self.items c.next_row-row.result c.loaded_registers-registers.ensures.numerator c.loop-x.invariant.many (omega arith) refl
      c.next_row-row.ensures.row c.next_row-row.ensures.registers c.in_ok-push.ensures.items ∙ c.loop-x.invariant.same;
  many = c.next_row-row.ensures.many ∙ c.loop-x.invariant.many;
}
