use Rattle.std.proofs.Common.{[], arith}
use Rattle.dsv_base.proofs.TakingLemmas.{writes_cut, append_nil}
use Rattle.dsv_base.proofs.ListWrites.{cut_item}
use Rattle.std.specs.List.{flat_map}
use Rattle.dsv_word_lines.specs.ControlCharacters.{shown_bytes}
use Rattle.dsv_word_lines.proofs.control_characters.put_shown.Goals as goal

pub returns-in_err-put_all : goal.returns-in_err-put_all
returns-in_err-put_all g c =
    let bytes = c.args.text.now in
    let h = cut_item shown_bytes [] bytes c.loop-byte.byte-index 0 (omega arith) c.loop-byte.invariant (rw (← c.shown_byte.ensures) c.in_err-put_all.ensures.cut) in
    rw (append_nil (flat_map shown_bytes bytes)) (writes_cut [] c.from_residual.ensures.0 h)
