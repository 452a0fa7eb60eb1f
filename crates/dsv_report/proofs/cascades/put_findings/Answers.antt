use Rattle.std.proofs.Common.{rules, ◌≡◌, get_or, arith}
use Rattle.dsv_base.proofs.TakingLemmas.{writes_err}
use Rattle.dsv_report.proofs.NumberedLines.{wrote_line, cut_line}
use Rattle.dsv_report.specs.CascadeTexts.{section_table_text}
use Rattle.dsv_report.proofs.cascades.put_findings.Goals as goal

pub returns-in_err-put_section_table : goal.returns-in_err-put_section_table
returns-in_err-put_section_table g c =
    let found = c.index-findings-section.result in
    let item : found ≡ get_or c.args.findings.now c.loop-section.section found = search rules in
    writes_err c.from_residual.ensures.0
    (cut_line section_table_text c.args.findings.now c.loop-section.section found (omega arith) item c.loop-section.invariant c.in_err-put_section_table.ensures.cut)

pub loop-section-preserved : goal.loop-section-preserved
loop-section-preserved g c =
    let found = c.index-findings-section.result in
    let item : found ≡ get_or c.args.findings.now c.loop-section.section found = search rules in
    wrote_line section_table_text c.args.findings.now c.loop-section.section found (omega arith) item c.loop-section.invariant c.in_ok-put_section_table.ensures.whole
