use Rattle.std.proofs.Common.{[], ◌∷◌, ◌++◌}
use Rattle.dsv_base.proofs.TakingLemmas.{writes_after, writes_cut}
use Rattle.dsv_lines.specs.Texts.{line_text}
use Rattle.dsv_certfile.specs.Texts.{head_lines, kind_line, word_line}
use Rattle.dsv_certfile.specs.declared.keyword.Keyword.TheVariants as keyword
use Rattle.dsv_certfile.specs.declared.kind.Kind.TheVariants as kind
use Rattle.dsv_certfile.proofs.LineTexts.{writes_as, framed-text}
use Rattle.dsv_certfile.proofs.writer.write_gain.Goals as goal

pub returns-in_err-put_head-clause-text : goal.returns-in_err-put_head-clause-text
returns-in_err-put_head-clause-text g c =
    let kind_text = line_text (kind_line kind.Gain (c.args.depth ∷ [])) in
    let last = line_text (word_line keyword.End) in
    writes_as (framed-text (head_lines c.args.job.now) (kind_line kind.Gain (c.args.depth ∷ [])) (word_line keyword.End) [])
    (writes_cut (kind_text ++ last) c.from_residual.ensures.0 c.in_err-put_head.ensures.cut)

pub returns-in_err-put_gain_kind-clause-text : goal.returns-in_err-put_gain_kind-clause-text
returns-in_err-put_gain_kind-clause-text g c =
    let last = line_text (word_line keyword.End) in
    writes_as (framed-text (head_lines c.args.job.now) (kind_line kind.Gain (c.args.depth ∷ [])) (word_line keyword.End) [])
    (writes_after c.in_ok-put_head.ensures.whole (writes_cut last c.from_residual-in_err-put_gain_kind.ensures.0 c.in_err-put_gain_kind.ensures.cut))

pub returns-clause-text : goal.returns-clause-text
returns-clause-text g c =
    writes_as (framed-text (head_lines c.args.job.now) (kind_line kind.Gain (c.args.depth ∷ [])) (word_line keyword.End) [])
    (writes_after c.in_ok-put_head.ensures.whole (writes_after c.in_ok-put_gain_kind.ensures.whole c.put_word.ensures))
