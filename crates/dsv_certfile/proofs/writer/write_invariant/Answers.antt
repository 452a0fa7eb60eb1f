use Rattle.std.proofs.Common.{List, ◌++◌, map}
use Rattle.std.specs.List.{flat_map}
use Rattle.dsv_base.proofs.TakingLemmas.{writes_after, writes_cut}
use Rattle.dsv_lines.specs.Texts.{Line, line_text}
use Rattle.dsv_certfile.specs.Texts.{head_lines, kind_line, candidate_counts, inequality_line, logs_lines, word_line}
use Rattle.dsv_certfile.specs.declared.keyword.Keyword.TheVariants as keyword
use Rattle.dsv_certfile.specs.declared.kind.Kind.TheVariants as kind
use Rattle.dsv_certfile.proofs.LineTexts.{writes_as, framed-text}
use Rattle.dsv_certfile.proofs.writer.write_invariant.Goals as goal

pub returns-in_err-put_head-clause-text : goal.returns-in_err-put_head-clause-text
returns-in_err-put_head-clause-text g c =
    let job = c.args.job.now in
    let kind_text = line_text (kind_line kind.Invariant (candidate_counts c.args.candidate.now)) in
    let body : List Line = map inequality_line c.args.candidate.now.inequalities.items ++ logs_lines c.args.logs.now in
    let last = line_text (word_line keyword.End) in
    writes_as (framed-text (head_lines job) (kind_line kind.Invariant (candidate_counts c.args.candidate.now)) (word_line keyword.End) body)
    (writes_cut (kind_text ++ (flat_map line_text body ++ last)) c.from_residual.ensures.0 c.in_err-put_head.ensures.cut)

pub returns-in_err-put_candidate_kind-clause-text : goal.returns-in_err-put_candidate_kind-clause-text
returns-in_err-put_candidate_kind-clause-text g c =
    let job = c.args.job.now in
    let body : List Line = map inequality_line c.args.candidate.now.inequalities.items ++ logs_lines c.args.logs.now in
    let last = line_text (word_line keyword.End) in
    writes_as (framed-text (head_lines job) (kind_line kind.Invariant (candidate_counts c.args.candidate.now)) (word_line keyword.End) body)
    (writes_after c.in_ok-put_head.ensures.whole (writes_cut (flat_map line_text body ++ last) c.from_residual-in_err-put_candidate_kind.ensures.0 c.in_err-put_candidate_kind.ensures.cut))

pub returns-in_err-put_invariant-clause-text : goal.returns-in_err-put_invariant-clause-text
returns-in_err-put_invariant-clause-text g c =
    let job = c.args.job.now in
    let body : List Line = map inequality_line c.args.candidate.now.inequalities.items ++ logs_lines c.args.logs.now in
    let last = line_text (word_line keyword.End) in
    writes_as (framed-text (head_lines job) (kind_line kind.Invariant (candidate_counts c.args.candidate.now)) (word_line keyword.End) body)
    (writes_after c.in_ok-put_head.ensures.whole (writes_after c.in_ok-put_candidate_kind.ensures.whole (writes_cut last c.from_residual-in_err-put_invariant.ensures.0 c.in_err-put_invariant.ensures.text.cut)))

pub returns-clause-text : goal.returns-clause-text
returns-clause-text g c =
    let job = c.args.job.now in
    let body : List Line = map inequality_line c.args.candidate.now.inequalities.items ++ logs_lines c.args.logs.now in
    writes_as (framed-text (head_lines job) (kind_line kind.Invariant (candidate_counts c.args.candidate.now)) (word_line keyword.End) body)
    (writes_after c.in_ok-put_head.ensures.whole (writes_after c.in_ok-put_candidate_kind.ensures.whole (writes_after c.in_ok-put_invariant.ensures.text.whole c.put_word.ensures)))
