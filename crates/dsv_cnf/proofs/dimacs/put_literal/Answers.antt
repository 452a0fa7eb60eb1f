use Rattle.std.proofs.Common.{◌+◌, codes, decimal}
use Rattle.dsv_base.proofs.TakingLemmas.{writes_after, writes_err, wrote_more, cut_more, cut_later}
use Rattle.dsv_cnf.proofs.dimacs.put_literal.Goals as goal

pub returns-in_err-put_sign : goal.returns-in_err-put_sign
returns-in_err-put_sign g c = writes_err c.from_residual.ensures.0 (cut_more (codes " ") (cut_more (decimal (c.args.literal.var + 1)) c.in_err-put_sign.ensures.cut))

pub returns-in_err-put_number : goal.returns-in_err-put_number
returns-in_err-put_number g c =
    let number = rw c.var.ensures.value at c.in_err-put_number.ensures.cut in
    writes_err c.from_residual-in_err-put_number.ensures.0 (cut_more (codes " ") (cut_later c.in_ok-put_sign.ensures.whole number))

pub returns : goal.returns
returns g c =
    let number = rw c.var.ensures.value at c.in_ok-put_number.ensures.whole in
    writes_after (wrote_more c.in_ok-put_sign.ensures.whole number) c.put_all.ensures
