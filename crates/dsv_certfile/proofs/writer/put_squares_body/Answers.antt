use Rattle.std.proofs.Common.{take}
use Rattle.std.specs.List.{flat_map}
use Rattle.dsv_base.proofs.TakingLemmas.{writes_after, writes_cut}
use Rattle.dsv_lines.specs.Texts.{line_text}
use Rattle.dsv_certfile.specs.Texts.{square_lines, rows_lines}
use Rattle.dsv_certfile.specs.declared.keyword.Keyword.TheVariants as keyword
use Rattle.dsv_certfile.proofs.LineTexts.{writes_as, two_lists-text}
use Rattle.dsv_certfile.proofs.writer.put_squares_body.Goals as goal

pub returns-in_err-put_all_squares-clause-text : goal.returns-in_err-put_all_squares-clause-text
returns-in_err-put_all_squares-clause-text g c =
    let a = c.args in
    let s = a.squares.now in
    writes_as (two_lists-text (square_lines a.d (take s.count s.weights) s.rows) (rows_lines keyword.Rest a.d s.rest))
    (writes_cut (flat_map line_text (rows_lines keyword.Rest a.d s.rest)) c.from_residual.ensures.0 c.in_err-put_all_squares.ensures.text.cut)

pub returns-clause-text : goal.returns-clause-text
returns-clause-text g c =
    let a = c.args in
    let s = a.squares.now in
    writes_as (two_lists-text (square_lines a.d (take s.count s.weights) s.rows) (rows_lines keyword.Rest a.d s.rest))
    (writes_after c.in_ok-put_all_squares.ensures.text.whole c.put_rows.ensures.text)
