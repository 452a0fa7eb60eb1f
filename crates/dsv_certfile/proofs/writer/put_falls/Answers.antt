use Rattle.std.proofs.Common.{◌++◌}
use Rattle.std.specs.List.{flat_map}
use Rattle.dsv_base.proofs.TakingLemmas.{writes_after, writes_cut}
use Rattle.dsv_lines.specs.Texts.{line_text}
use Rattle.dsv_certfile.specs.Texts.{rows_lines, squares_lines}
use Rattle.dsv_certfile.specs.declared.keyword.Keyword.TheVariants as keyword
use Rattle.dsv_certfile.proofs.LineTexts.{writes_as, three_lists-text}
use Rattle.dsv_certfile.proofs.writer.put_falls.Goals as goal

pub returns-in_err-put_rows-clause-text : goal.returns-in_err-put_rows-clause-text
returns-in_err-put_rows-clause-text g c =
    let o = c.args.offer.now in
    writes_as (three_lists-text (rows_lines keyword.Form o.form.d o.form.rows) (squares_lines keyword.Positive o.form.d o.positive) (squares_lines keyword.Fall o.form.d o.fall))
    (writes_cut (flat_map line_text (squares_lines keyword.Positive o.form.d o.positive) ++ (flat_map line_text (squares_lines keyword.Fall o.form.d o.fall))) c.from_residual.ensures.0 (c.in_err-put_rows.ensures.text.cut))

pub returns-in_err-put_squares-clause-text : goal.returns-in_err-put_squares-clause-text
returns-in_err-put_squares-clause-text g c =
    let o = c.args.offer.now in
    writes_as (three_lists-text (rows_lines keyword.Form o.form.d o.form.rows) (squares_lines keyword.Positive o.form.d o.positive) (squares_lines keyword.Fall o.form.d o.fall))
    (writes_after (c.in_ok-put_rows.ensures.text.whole) (writes_cut (flat_map line_text (squares_lines keyword.Fall o.form.d o.fall)) c.from_residual-in_err-put_squares.ensures.0 (c.in_err-put_squares.ensures.text.cut)))

pub returns-clause-text : goal.returns-clause-text
returns-clause-text g c =
    let o = c.args.offer.now in
    writes_as (three_lists-text (rows_lines keyword.Form o.form.d o.form.rows) (squares_lines keyword.Positive o.form.d o.positive) (squares_lines keyword.Fall o.form.d o.fall))
    (writes_after (c.in_ok-put_rows.ensures.text.whole) (writes_after (c.in_ok-put_squares.ensures.text.whole) (c.put_squares-2.ensures.text)))
