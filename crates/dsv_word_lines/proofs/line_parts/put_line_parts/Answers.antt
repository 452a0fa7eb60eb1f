use Rattle.std.proofs.Common.{[], arith}
use Rattle.dsv_base.proofs.TakingLemmas.{writes_cut, append_nil}
use Rattle.dsv_base.proofs.ListWrites.{cut_item}
use Rattle.std.specs.List.{flat_map}
use Rattle.dsv_word_lines.specs.declared.line_parts.LinePart.TheVariants.{Bytes}
use Rattle.dsv_word_lines.specs.LineParts.{line_part_text}
use Rattle.dsv_word_lines.proofs.line_parts.put_line_parts.Goals as goal

pub returns-in_err-put_line_part : goal.returns-in_err-put_line_part
returns-in_err-put_line_part g c =
    let ps = c.args.parts.now in
    let h = cut_item line_part_text [] ps c.loop-part.part-index (Bytes (record { ref_ptr = (0, 0); now = [] })) (omega arith) c.loop-part.invariant c.in_err-put_line_part.ensures.cut in
    rw (append_nil (flat_map line_part_text ps)) (writes_cut [] c.from_residual.ensures.0 h)
