use Rattle.dsv_base.proofs.TakingLemmas.{writes_after}
use Rattle.dsv_ctext.specs.Comments.{value_text}
use Rattle.dsv_ctext.proofs.ProductTexts.{one_value}
use Rattle.dsv_ctext.proofs.products.put_factor.Goals as goal

pub returns-in_ok-put_all-in-Some : goal.returns-in_ok-put_all-in-Some
returns-in_ok-put_all-in-Some g c =
    rw (c.in-Some.is, one_value c.args.bits c.args.started c.in-Some.coeff, ← c.separator.ensures) (writes_after {x = c.separator.result.now} {y = value_text c.args.bits c.in-Some.coeff} c.in_ok-put_all-in-Some.ensures.whole c.put_number_of.ensures)
