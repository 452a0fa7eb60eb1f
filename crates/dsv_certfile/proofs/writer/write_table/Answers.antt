use Rattle.std.proofs.Common.{List, [], ◌∷◌, ◌++◌, length, map}
use Rattle.std.specs.List.{flat_map}
use Rattle.dsv_base.proofs.TakingLemmas.{writes_after, writes_cut}
use Rattle.dsv_lines.specs.Texts.{Line, line_text}
use Rattle.dsv_certfile.specs.Texts.{head_lines, kind_line, coefficient_line, word_line}
use Rattle.dsv_certfile.specs.declared.keyword.Keyword.TheVariants as keyword
use Rattle.dsv_certfile.specs.declared.kind.Kind.TheVariants as kind
use Rattle.dsv_certfile.proofs.LineTexts.{writes_as, framed-text}
use Rattle.dsv_certfile.proofs.writer.write_table.Goals as goal

pub returns-in_err-put_head-clause-text : goal.returns-in_err-put_head-clause-text
returns-in_err-put_head-clause-text g c =
    let cs = c.args.coefficients.now in
    let counts = length cs ∷ [] in
    let body : List Line = map coefficient_line cs in
    let last = line_text (word_line keyword.End) in
    writes_as (framed-text (head_lines c.args.job.now) (kind_line kind.Table counts) (word_line keyword.End) body)
    (writes_cut (line_text (kind_line kind.Table counts) ++ (flat_map line_text body ++ last)) c.from_residual.ensures.0 c.in_err-put_head.ensures.cut)

pub returns-in_err-put_table_kind-clause-text : goal.returns-in_err-put_table_kind-clause-text
returns-in_err-put_table_kind-clause-text g c =
    let cs = c.args.coefficients.now in
    let body : List Line = map coefficient_line cs in
    let last = line_text (word_line keyword.End) in
    writes_as (framed-text (head_lines c.args.job.now) (kind_line kind.Table (length cs ∷ [])) (word_line keyword.End) body)
    (writes_after c.in_ok-put_head.ensures.whole (writes_cut (flat_map line_text body ++ last) c.from_residual-in_err-put_table_kind.ensures.0 c.in_err-put_table_kind.ensures.cut))

pub returns-in_err-put_polynomial-clause-text : goal.returns-in_err-put_polynomial-clause-text
returns-in_err-put_polynomial-clause-text g c =
    let cs = c.args.coefficients.now in
    let body : List Line = map coefficient_line cs in
    let last = line_text (word_line keyword.End) in
    writes_as (framed-text (head_lines c.args.job.now) (kind_line kind.Table (length cs ∷ [])) (word_line keyword.End) body)
    (writes_after c.in_ok-put_head.ensures.whole (writes_after c.in_ok-put_table_kind.ensures.whole (writes_cut last c.from_residual-in_err-put_polynomial.ensures.0 (rw c.as_slice.ensures at c.in_err-put_polynomial.ensures.cut))))

pub returns-clause-text : goal.returns-clause-text
returns-clause-text g c =
    let cs = c.args.coefficients.now in
    let body : List Line = map coefficient_line cs in
    writes_as (framed-text (head_lines c.args.job.now) (kind_line kind.Table (length cs ∷ [])) (word_line keyword.End) body)
    (writes_after c.in_ok-put_head.ensures.whole (writes_after c.in_ok-put_table_kind.ensures.whole (writes_after (rw c.as_slice.ensures at c.in_ok-put_polynomial.ensures.whole) c.put_word.ensures)))
