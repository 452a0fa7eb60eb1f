use Rattle.std.proofs.Common.{◌++◌}
use Rattle.std.specs.List.{flat_map}
use Rattle.dsv_base.proofs.TakingLemmas.{writes_after, writes_cut}
use Rattle.dsv_lines.specs.Texts.{line_text}
use Rattle.dsv_certfile.specs.Texts.{word_line, log_lines}
use Rattle.dsv_certfile.specs.declared.keyword.Keyword.TheVariants as keyword
use Rattle.dsv_certfile.proofs.LineTexts.{writes_as, sections-text}
use Rattle.dsv_certfile.proofs.writer.put_logs.Goals as goal

pub returns-in_err-put_word-clause-text : goal.returns-in_err-put_word-clause-text
returns-in_err-put_word-clause-text g c =
    let logs = c.args.logs.now in
    writes_as (sections-text (word_line keyword.Base) (word_line keyword.Step) (word_line keyword.Safe) (log_lines logs.base) (log_lines logs.step) (log_lines logs.safe))
    (writes_cut (flat_map line_text (log_lines logs.base) ++ (line_text (word_line keyword.Step) ++ (flat_map line_text (log_lines logs.step) ++ (line_text (word_line keyword.Safe) ++ (flat_map line_text (log_lines logs.safe)))))) c.from_residual.ensures.0 (c.in_err-put_word.ensures.cut))

pub returns-in_err-put_log-clause-text : goal.returns-in_err-put_log-clause-text
returns-in_err-put_log-clause-text g c =
    let logs = c.args.logs.now in
    writes_as (sections-text (word_line keyword.Base) (word_line keyword.Step) (word_line keyword.Safe) (log_lines logs.base) (log_lines logs.step) (log_lines logs.safe))
    (writes_after (c.in_ok-put_word.ensures.whole) (writes_cut (line_text (word_line keyword.Step) ++ (flat_map line_text (log_lines logs.step) ++ (line_text (word_line keyword.Safe) ++ (flat_map line_text (log_lines logs.safe))))) c.from_residual-in_err-put_log.ensures.0 (c.in_err-put_log.ensures.text.cut)))

pub returns-in_err-put_word-2-clause-text : goal.returns-in_err-put_word-2-clause-text
returns-in_err-put_word-2-clause-text g c =
    let logs = c.args.logs.now in
    writes_as (sections-text (word_line keyword.Base) (word_line keyword.Step) (word_line keyword.Safe) (log_lines logs.base) (log_lines logs.step) (log_lines logs.safe))
    (writes_after (c.in_ok-put_word.ensures.whole) (writes_after (c.in_ok-put_log.ensures.text.whole) (writes_cut (flat_map line_text (log_lines logs.step) ++ (line_text (word_line keyword.Safe) ++ (flat_map line_text (log_lines logs.safe)))) c.from_residual-in_err-put_word-2.ensures.0 (c.in_err-put_word-2.ensures.cut))))

pub returns-in_err-put_log-2-clause-text : goal.returns-in_err-put_log-2-clause-text
returns-in_err-put_log-2-clause-text g c =
    let logs = c.args.logs.now in
    writes_as (sections-text (word_line keyword.Base) (word_line keyword.Step) (word_line keyword.Safe) (log_lines logs.base) (log_lines logs.step) (log_lines logs.safe))
    (writes_after (c.in_ok-put_word.ensures.whole) (writes_after (c.in_ok-put_log.ensures.text.whole) (writes_after (c.in_ok-put_word-2.ensures.whole) (writes_cut (line_text (word_line keyword.Safe) ++ (flat_map line_text (log_lines logs.safe))) c.from_residual-in_err-put_log-2.ensures.0 (c.in_err-put_log-2.ensures.text.cut)))))

pub returns-in_err-put_word-3-clause-text : goal.returns-in_err-put_word-3-clause-text
returns-in_err-put_word-3-clause-text g c =
    let logs = c.args.logs.now in
    writes_as (sections-text (word_line keyword.Base) (word_line keyword.Step) (word_line keyword.Safe) (log_lines logs.base) (log_lines logs.step) (log_lines logs.safe))
    (writes_after (c.in_ok-put_word.ensures.whole) (writes_after (c.in_ok-put_log.ensures.text.whole) (writes_after (c.in_ok-put_word-2.ensures.whole) (writes_after (c.in_ok-put_log-2.ensures.text.whole) (writes_cut (flat_map line_text (log_lines logs.safe)) c.from_residual-in_err-put_word-3.ensures.0 (c.in_err-put_word-3.ensures.cut))))))

pub returns-clause-text : goal.returns-clause-text
returns-clause-text g c =
    let logs = c.args.logs.now in
    writes_as (sections-text (word_line keyword.Base) (word_line keyword.Step) (word_line keyword.Safe) (log_lines logs.base) (log_lines logs.step) (log_lines logs.safe))
    (writes_after (c.in_ok-put_word.ensures.whole) (writes_after (c.in_ok-put_log.ensures.text.whole) (writes_after (c.in_ok-put_word-2.ensures.whole) (writes_after (c.in_ok-put_log-2.ensures.text.whole) (writes_after (c.in_ok-put_word-3.ensures.whole) (c.put_log-3.ensures.text))))))
