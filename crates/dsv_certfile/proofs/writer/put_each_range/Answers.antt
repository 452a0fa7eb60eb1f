use Rattle.std.proofs.Common.{[], pos, arith}
use Rattle.dsv_base.proofs.TakingLemmas.{writes_err}
use Rattle.dsv_base.proofs.ListWrites.{wrote_item, cut_item}
use Rattle.dsv_lines.specs.Texts.{line_text}
use Rattle.dsv_roundoff.specs.declared.offers.WordRange.{WordRange}
use Rattle.dsv_certfile.specs.Texts.{range_line}
use Rattle.dsv_certfile.proofs.writer.put_each_range.Goals as goal

pub returns-in_err-put_range : goal.returns-in_err-put_range
returns-in_err-put_range g c =
    let none : WordRange = record { low = pos 0; high = pos 0 } in
    writes_err c.from_residual.ensures.0
    (cut_item (λ range. line_text (range_line range)) [] c.args.ranges.now c.loop-it.it-index none (omega arith) c.loop-it.invariant c.in_err-put_range.ensures.cut)

pub loop-it-preserved : goal.loop-it-preserved
loop-it-preserved g c =
    let none : WordRange = record { low = pos 0; high = pos 0 } in
    wrote_item (λ range. line_text (range_line range)) [] c.args.ranges.now c.loop-it.it-index none (omega arith) c.loop-it.invariant c.in_ok-put_range.ensures.whole
