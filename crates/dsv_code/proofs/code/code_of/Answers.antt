use Rattle.std.proofs.Common.{map, rules, SFits, w64}
use Rattle.std.proofs.lemmas.Int.{to_z-of_z}
use Rattle.dsv_system.specs.RowViews.{row_of}
use Rattle.dsv_code.proofs.Written.{is_code}
use Rattle.dsv_code.proofs.code.code_of.Goals as goal

pub returns-clause-text : goal.returns-clause-text
returns-clause-text g c =
    let asking = c.args.asking.now in
    let notes = c.args.notes.now in
    let low : SFits w64 asking.low = search rules in
    let high : SFits w64 asking.high = search rules in
    let text = simp to_z-of_z at c.in_ok-code_text.ensures in
    is_code (g.S.Subject.view asking.subject.now) asking.net c.format.result asking.low asking.high c.as_bytes.result.now c.args.prefix.now c.as_slice.result.now notes.members notes.origin (map row_of c.args.rows.now) c.in_ok-code_text.field-0
    asking.same_net c.format.ensures asking.same_low asking.same_high c.as_bytes.ensures.value c.as_slice.ensures c.len-count.ensures.netlist asking.runs (c.wide_value.ensures.none.0 c.in_default.is) c.requires.named text
