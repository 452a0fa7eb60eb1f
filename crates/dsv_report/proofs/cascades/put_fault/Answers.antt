use Rattle.std.proofs.Common.{◌++◌, take}
use Rattle.dsv_base.proofs.TakingLemmas.{writes_after, writes_cut}
use Rattle.dsv_report.specs.Forms.{form_text, start_text}
use Rattle.dsv_report.proofs.cascades.put_fault.Goals as goal

pub returns-in_err-put_section_of-in-KeptAway : goal.returns-in_err-put_section_of-in-KeptAway
returns-in_err-put_section_of-in-KeptAway g c =
    let k = c.in-KeptAway in
    rw k.is (writes_cut (form_text k.poly k.offer.form k.fall ++ start_text (take k.offer.form.d k.offer.start) k.value) c.from_residual.ensures.0 c.in_err-put_section_of-in-KeptAway.ensures.cut)

pub returns-in_ok-put_section_of-in-KeptAway : goal.returns-in_ok-put_section_of-in-KeptAway
returns-in_ok-put_section_of-in-KeptAway g c =
    rw c.in-KeptAway.is (writes_after c.in_ok-put_section_of-in-KeptAway.ensures.whole c.put_kept_away.ensures)
