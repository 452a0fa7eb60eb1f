use Rattle.std.proofs.Common.{rules, ◌≡◌, get_or}
use Rattle.dsv_poly_table.proofs.Findings.{next_inside, first_other}
use Rattle.dsv_poly_table.proofs.sections.section_tables.Goals as goal

pub returns-in-Err : goal.returns-in-Err
returns-in-Err c =
    let sections = c.args.sections.now in
    let i = c.loop-section.section in
    let q = c.index-sections-section.result in
    let item : q ≡ get_or sections i q = search rules in
    (q, first_other q sections c.loop-section.findings i c.loop-section.invariant c.loop-section-test.true item, search rules)

pub returns-then-not-is_inside : goal.returns-then-not-is_inside
returns-then-not-is_inside c =
    let sections = c.args.sections.now in
    let i = c.loop-section.section in
    let q = c.index-sections-section.result in
    let item : q ≡ get_or sections i q = search rules in
    (q, first_other q sections c.loop-section.findings i c.loop-section.invariant c.loop-section-test.true item, search rules, search rules)

pub loop-section-preserved : goal.loop-section-preserved
loop-section-preserved c =
    let sections = c.args.sections.now in
    let i = c.loop-section.section in
    let q = c.index-sections-section.result in
    let item : q ≡ get_or sections i q = search rules in
    rw (c.in_ok-push.ensures.ok) (next_inside q sections c.loop-section.findings c.in_ok-found.found i c.loop-section.invariant c.loop-section-test.true item (search rules, search rules))
