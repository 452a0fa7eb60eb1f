use Rattle.std.proofs.Common.{rules, ◌≡◌, get_or, arith}
use Rattle.dsv_base.proofs.TakingLemmas.{writes_err}
use Rattle.dsv_report.proofs.NumberedLines.{wrote_line, cut_line}
use Rattle.dsv_report.specs.CascadeTexts.{section_text}
use Rattle.dsv_report.proofs.cascades.put_offers.Goals as goal

pub returns-in_err-put_offer : goal.returns-in_err-put_offer
returns-in_err-put_offer g c =
    let offer = c.index-offers-section.result in
    let item : offer ≡ get_or c.args.offers.now c.loop-section.section offer = search rules in
    writes_err c.from_residual.ensures.0
    (cut_line section_text c.args.offers.now c.loop-section.section offer (omega arith) item c.loop-section.invariant c.in_err-put_offer.ensures.cut)

pub loop-section-preserved : goal.loop-section-preserved
loop-section-preserved g c =
    let offer = c.index-offers-section.result in
    let item : offer ≡ get_or c.args.offers.now c.loop-section.section offer = search rules in
    wrote_line section_text c.args.offers.now c.loop-section.section offer (omega arith) item c.loop-section.invariant c.in_ok-put_offer.ensures.whole
