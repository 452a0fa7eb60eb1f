use Rattle.std.proofs.Common.{◌≡◌, ◌+◌, List, ℕ, ◌++◌}
use Rattle.std.specs.List.{flat_map}
use Rattle.dsv_base.proofs.TakingLemmas.{writes_after, writes_cut}
use Rattle.dsv_lines.specs.Texts.{line_text}
use Rattle.dsv_certfile.specs.Ellipsoids.{levels_line, first_lines, ellipsoid_body}
use Rattle.dsv_certfile.specs.Texts.{rows_lines, squares_lines}
use Rattle.dsv_certfile.specs.declared.ellipsoid.Ellipsoid.{Ellipsoid}
use Rattle.dsv_certfile.specs.declared.keyword.Keyword.TheVariants as keyword
use Rattle.dsv_certfile.proofs.LineTexts.{writes_as, parted-text}
use Rattle.dsv_certfile.proofs.ellipsoid_writer.put_body.Goals as goal

abbrev first : Ellipsoid → List ℕ
first o = flat_map line_text (first_lines o)

abbrev step : Ellipsoid → List ℕ
step o = flat_map line_text (squares_lines keyword.Step (o.form.d + 1) o.step) ++ first o

whole : (o : Ellipsoid) → flat_map line_text (rows_lines keyword.Form o.form.d o.form.rows) ++ (line_text (levels_line o) ++ step o) ≡ flat_map line_text (ellipsoid_body o)
whole o = parted-text (rows_lines keyword.Form o.form.d o.form.rows) (levels_line o) (squares_lines keyword.Step (o.form.d + 1) o.step) (first_lines o)

pub returns-in_err-put_rows-clause-text : goal.returns-in_err-put_rows-clause-text
returns-in_err-put_rows-clause-text g c =
    let o = c.args.offer.now in
    writes_as (whole o) (writes_cut (line_text (levels_line o) ++ step o) c.from_residual.ensures.0 c.in_err-put_rows.ensures.text.cut)

pub returns-in_err-put_levels-clause-text : goal.returns-in_err-put_levels-clause-text
returns-in_err-put_levels-clause-text g c =
    let o = c.args.offer.now in
    writes_as (whole o) (writes_after c.in_ok-put_rows.ensures.text.whole (writes_cut (step o) c.from_residual-in_err-put_levels.ensures.0 c.in_err-put_levels.ensures.text.cut))

pub returns-in_err-put_squares-clause-text : goal.returns-in_err-put_squares-clause-text
returns-in_err-put_squares-clause-text g c =
    let o = c.args.offer.now in
    writes_as (whole o) (writes_after c.in_ok-put_rows.ensures.text.whole (writes_after c.in_ok-put_levels.ensures.text.whole
    (writes_cut (first o) c.from_residual-in_err-put_squares.ensures.0 c.in_err-put_squares.ensures.text.cut)))

pub returns-clause-text : goal.returns-clause-text
returns-clause-text g c =
    let o = c.args.offer.now in
    writes_as (whole o) (writes_after c.in_ok-put_rows.ensures.text.whole (writes_after c.in_ok-put_levels.ensures.text.whole
    (writes_after c.in_ok-put_squares.ensures.text.whole c.put_first.ensures.text)))
