use Rattle.std.specs.List.{flat_map}
use Rattle.std.specs.Fmt.{signed_decimal}
use Rattle.dsv_base.specs.Text.{spaced_text}
use Rattle.dsv_base.proofs.TakingLemmas.{writes_after, writes_err, cut_later, cut_more, wrote_more}
use Rattle.dsv_report.specs.Forms.{value_text}
use Rattle.dsv_report.proofs.forms.put_start.Goals as goal

pub returns-in_err-put_all : goal.returns-in_err-put_all
returns-in_err-put_all g c =
    writes_err c.from_residual.ensures.0 (cut_more (value_text c.args.value.now) (cut_more (flat_map (spaced_text signed_decimal) c.args.start.now) c.in_err-put_all.ensures.cut))

pub returns-in_err-put_numbers : goal.returns-in_err-put_numbers
returns-in_err-put_numbers g c =
    writes_err c.from_residual-in_err-put_numbers.ensures.0 (cut_more (value_text c.args.value.now) (cut_later c.in_ok-put_all.ensures.whole c.in_err-put_numbers.ensures.cut))

pub returns : goal.returns
returns g c = writes_after (wrote_more c.in_ok-put_all.ensures.whole c.in_ok-put_numbers.ensures.whole) c.put_value.ensures
