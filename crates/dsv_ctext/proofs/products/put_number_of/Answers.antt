use Rattle.dsv_base.proofs.TakingLemmas.{writes_after, writes_cut}
use Rattle.dsv_ctext.specs.Comments.{millionths_text, millionths}
use Rattle.dsv_ctext.proofs.products.put_number_of.Goals as goal

pub returns-in_err-put_all : goal.returns-in_err-put_all
returns-in_err-put_all g c = rw (← c.sign_text.ensures) (writes_cut {x = (c.sign_text.result.now)} ((millionths_text (millionths c.args.bits c.args.coeff.now))) c.from_residual.ensures.0 c.in_err-put_all.ensures.cut)

pub returns : goal.returns
returns g c = rw (← c.sign_text.ensures, ← c.millionths.ensures.value) (writes_after {x = (c.sign_text.result.now)} {y = (millionths_text c.millionths.result)} c.in_ok-put_all.ensures.whole (c.put_millionths.ensures))
