use Rattle.std.proofs.Common.{false}
use Rattle.std.specs.Prelude.{codes}
use Rattle.dsv_base.proofs.TakingLemmas.{writes_after, writes_cut}
use Rattle.dsv_ctext.specs.Comments.{values_text}
use Rattle.dsv_ctext.proofs.ProductTexts.{values_at, comment_written}
use Rattle.dsv_ctext.proofs.products.put_comment.Goals as goal

pub returns-in_err-put_products : goal.returns-in_err-put_products
returns-in_err-put_products g c =
    rw (comment_written c.args.plan.now.names.remarks.format.frac_bits c.has_products.result (values_at c.args.plan.now.net.now c.args.i) c.has_products.ensures c.if-has_products.true) (writes_cut {x = values_text c.args.plan.now.names.remarks.format.frac_bits false (values_at c.args.plan.now.net.now c.args.i)} (codes " */") c.from_residual.ensures.0 c.in_err-put_products.ensures.cut)

pub returns-in_ok-put_products : goal.returns-in_ok-put_products
returns-in_ok-put_products g c =
    rw (comment_written c.args.plan.now.names.remarks.format.frac_bits c.has_products.result (values_at c.args.plan.now.net.now c.args.i) c.has_products.ensures c.if-has_products.true) (writes_after {x = values_text c.args.plan.now.names.remarks.format.frac_bits false (values_at c.args.plan.now.net.now c.args.i)} {y = codes " */"} c.in_ok-put_products.ensures.whole c.put_all.ensures)
