use Rattle.std.proofs.Common.{◌++◌, ◌∷◌, []}
use Rattle.std.specs.Prelude.{codes}
use Rattle.dsv_base.proofs.TakingLemmas.{writes_after, writes_cut}
use Rattle.dsv_c.specs.Programs.{codes_of, code_at}
use Rattle.dsv_ctext.specs.Comments.{comment_text, coefficients_of}
use Rattle.dsv_ctext.proofs.products.put_fit_end.Goals as goal

pub returns-in_err-put_all : goal.returns-in_err-put_all
returns-in_err-put_all g c = writes_cut {x = (codes ");")} ((comment_text c.args.plan.now.names.remarks.format.frac_bits (coefficients_of (code_at (codes_of c.args.plan.now.net.now) c.args.i).expr)) ++ ((10 ∷ []))) c.from_residual.ensures.0 c.in_err-put_all.ensures.cut

pub returns-in_err-put_comment : goal.returns-in_err-put_comment
returns-in_err-put_comment g c = writes_after {x = (codes ");")} {y = (comment_text c.args.plan.now.names.remarks.format.frac_bits (coefficients_of (code_at (codes_of c.args.plan.now.net.now) c.args.i).expr)) ++ ((10 ∷ []))} c.in_ok-put_all.ensures.whole (writes_cut {x = (comment_text c.args.plan.now.names.remarks.format.frac_bits (coefficients_of (code_at (codes_of c.args.plan.now.net.now) c.args.i).expr))} ((10 ∷ [])) c.from_residual-in_err-put_comment.ensures.0 c.in_err-put_comment.ensures.cut)

pub returns : goal.returns
returns g c = writes_after {x = (codes ");")} {y = (comment_text c.args.plan.now.names.remarks.format.frac_bits (coefficients_of (code_at (codes_of c.args.plan.now.net.now) c.args.i).expr)) ++ ((10 ∷ []))} c.in_ok-put_all.ensures.whole (writes_after {x = (comment_text c.args.plan.now.names.remarks.format.frac_bits (coefficients_of (code_at (codes_of c.args.plan.now.net.now) c.args.i).expr))} {y = (10 ∷ [])} c.in_ok-put_comment.ensures.whole (c.put_all-2.ensures))
