use Rattle.std.proofs.Common.{◌-◌, ◌∙◌, ap, length, arith}
use Rattle.dsv_loop.specs.Loops.{TransferView, in_series}
use Rattle.dsv_loop.proofs.Series.{one_more_section, one_more_quantised}
use Rattle.dsv_loop.proofs.transfer.controller_transfer.Goals as goal

pub loop-turn-preserved : goal.loop-turn-preserved
loop-turn-preserved c =
    let qs = c.args.sections.now in
    let l = c.loop-turn in
    let q = c.index-sections-count.result in
    let i = length qs - 1 - l.turn in
    record {
      same = one_more_section qs l.turn i q q l.transfer c.in_ok-transfer.transfer (omega arith) (omega arith) c.index-sections-count.is l.invariant.same
          (c.in_ok-transfer.ensures ∙ ap (λ (f : TransferView). in_series f l.transfer) c.in_ok-section.ensures.value);
      quantised = one_more_quantised qs l.turn i q q (omega arith) (omega arith) c.index-sections-count.is l.invariant.quantised c.section_transfer.ensures.quantised;
    }
