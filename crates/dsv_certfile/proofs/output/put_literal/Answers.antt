use Rattle.std.proofs.Common.{◌+◌, ◌++◌, decimal}
use Rattle.dsv_base.proofs.TakingLemmas.{writes_after, writes_cut}
use Rattle.dsv_cnf.specs.Dimacs.{sign_text}
use Rattle.dsv_certfile.proofs.output.put_literal.Goals as goal

pub returns-in_err-put_all-clause-text : goal.returns-in_err-put_all-clause-text
returns-in_err-put_all-clause-text g c =
    writes_cut (sign_text c.args.literal ++ decimal (c.args.literal.var + 1)) c.from_residual.ensures.0 c.in_err-put_all.ensures.cut

pub returns-in_err-put_sign-clause-text : goal.returns-in_err-put_sign-clause-text
returns-in_err-put_sign-clause-text g c =
    writes_after c.in_ok-put_all.ensures.whole
    (writes_cut (decimal (c.args.literal.var + 1)) c.from_residual-in_err-put_sign.ensures.0 c.in_err-put_sign.ensures.cut)

pub returns-clause-text : goal.returns-clause-text
returns-clause-text g c =
    writes_after c.in_ok-put_all.ensures.whole (writes_after c.in_ok-put_sign.ensures.whole (rw c.var.ensures.value at c.put_number.ensures))
