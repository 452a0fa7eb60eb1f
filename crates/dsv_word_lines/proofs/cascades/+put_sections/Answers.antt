use Rattle.std.proofs.Common.{◌≡◌, ◌+◌, ◌∷◌, rules}
use Rattle.dsv_base.proofs.TakingLemmas.{writes_after, writes_cut}
use Rattle.dsv_word_lines.specs.WordLines.{section_lines, lines_of_sections}
use Rattle.dsv_word_lines.proofs.cascades.+put_sections.Goals as goal

pub returns-in_err-put_section : goal.returns-in_err-put_section
returns-in_err-put_section g t c =
    let same : c.args.sections.now ≡ c.in-Some.section.now ∷ c.in-Some.others.now = search rules in
    rw same (writes_cut (lines_of_sections (c.args.number + 1) c.in-Some.others.now) c.from_residual.ensures.0 c.in_err-put_section.ensures.cut)

pub returns : goal.returns
returns g t c =
    let same : c.args.sections.now ≡ c.in-Some.section.now ∷ c.in-Some.others.now = search rules in
    rw same (writes_after {x = section_lines c.args.number c.in-Some.section.now} c.in_ok-put_section.ensures.whole c.put_sections.ensures)
