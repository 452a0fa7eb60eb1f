use Rattle.dsv_base.proofs.TakingLemmas.{writes_after, writes_cut}
use Rattle.dsv_word_lines.specs.WordLines.{lines_of_sections}
use Rattle.dsv_cascade.specs.Cascades.{sections_of}
use Rattle.dsv_word_lines.proofs.cascades.put_cascade_lines.Goals as goal

pub returns-in_err-put_head : goal.returns-in_err-put_head
returns-in_err-put_head g c =
    writes_cut (lines_of_sections 0 (sections_of c.args.cascade.now)) c.from_residual.ensures.0 (rw c.first_section.ensures.same at c.in_err-put_head.ensures.cut)

pub returns-in_err-put_section : goal.returns-in_err-put_section
returns-in_err-put_section g c =
    writes_after (rw c.first_section.ensures.same at c.in_ok-put_head.ensures.whole)
    (writes_cut (lines_of_sections 1 c.args.cascade.now.later) c.from_residual-in_err-put_section.ensures.0 (rw c.first_section-2.ensures.same at c.in_err-put_section.ensures.cut))

pub returns : goal.returns
returns g c =
    writes_after (rw c.first_section.ensures.same at c.in_ok-put_head.ensures.whole)
    (writes_after (rw c.first_section-2.ensures.same at c.in_ok-put_section.ensures.whole) (rw c.later_sections.ensures.same at c.put_sections.ensures))
