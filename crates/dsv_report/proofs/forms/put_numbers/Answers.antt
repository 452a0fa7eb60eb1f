use Rattle.std.proofs.Common.{[], arith}
use Rattle.std.specs.List.{flat_map}
use Rattle.dsv_base.specs.Text.{spaced_text}
use Rattle.dsv_base.proofs.TakingLemmas.{writes_cut, append_nil}
use Rattle.dsv_base.proofs.ListWrites.{cut_item}
use Rattle.dsv_report.proofs.forms.put_numbers.Goals as goal

pub returns-in_err-put_spaced : goal.returns-in_err-put_spaced
returns-in_err-put_spaced g c =
    let text = spaced_text g.I.Integer.text in
    let ns = c.args.numbers.now in
    let cut = rw c.number-item.is at c.in_err-put_spaced.ensures.cut in
    let h = cut_item text [] ns c.loop-number.number-index c.number-item.result (omega arith) c.loop-number.invariant cut in
    rw (append_nil (flat_map text ns)) (writes_cut [] c.from_residual.ensures.0 h)
