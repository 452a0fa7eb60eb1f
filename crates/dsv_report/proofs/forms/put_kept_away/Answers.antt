use Rattle.std.proofs.Common.{take}
use Rattle.dsv_base.proofs.TakingLemmas.{writes_after, writes_err, cut_more}
use Rattle.dsv_report.specs.Forms.{start_text}
use Rattle.dsv_report.proofs.forms.put_kept_away.Goals as goal

pub returns-in_err-put_form : goal.returns-in_err-put_form
returns-in_err-put_form g c =
    let offer = c.args.offer.now in
    writes_err c.from_residual.ensures.0 (cut_more (start_text (take offer.form.d offer.start) c.args.value.now) c.in_err-put_form.ensures.cut)

pub returns : goal.returns
returns g c = writes_after c.in_ok-put_form.ensures.whole c.put_start.ensures
