use Rattle.std.proofs.Common.{map, sym}
use Rattle.std.specs.List.{flat_map}
use Rattle.dsv_base.proofs.TakingLemmas.{writes_after, writes_cut}
use Rattle.std.proofs.lemmas.Grind.{flat_map-append}
use Rattle.dsv_lines.specs.Texts.{line_text}
use Rattle.dsv_certfile.specs.Texts.{inequality_line, logs_lines}
use Rattle.dsv_certfile.proofs.LineTexts.{writes_as}
use Rattle.dsv_certfile.proofs.writer.put_invariant.Goals as goal

pub returns-in_err-put_inequalities-clause-text : goal.returns-in_err-put_inequalities-clause-text
returns-in_err-put_inequalities-clause-text g c =
    let xs = map inequality_line c.args.candidate.now.inequalities.items in
    let ys = logs_lines c.args.logs.now in
    writes_as (sym (flat_map-append line_text xs ys))
    (writes_cut (flat_map line_text ys) c.from_residual.ensures.0 (c.in_err-put_inequalities.ensures.text.cut))

pub returns-clause-text : goal.returns-clause-text
returns-clause-text g c =
    let xs = map inequality_line c.args.candidate.now.inequalities.items in
    let ys = logs_lines c.args.logs.now in
    writes_as (sym (flat_map-append line_text xs ys))
    (writes_after (c.in_ok-put_inequalities.ensures.text.whole) (c.put_logs.ensures.text))
