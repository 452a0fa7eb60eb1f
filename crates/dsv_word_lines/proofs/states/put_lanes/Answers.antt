use Rattle.std.proofs.Common.{◌++◌, codes}
use Rattle.dsv_base.proofs.TakingLemmas.{writes_after, writes_cut}
use Rattle.dsv_word_lines.specs.WordLines.{direct_line, words_line}
use Rattle.dsv_word_lines.proofs.states.put_lanes.Goals as goal

pub returns-in_err-put_line : goal.returns-in_err-put_line
returns-in_err-put_line g c =
    let s = c.args.system.now in
    writes_cut (words_line (codes "c") s.c ++ direct_line s) c.from_residual.ensures.0 (rw c.b.ensures.same at c.in_err-put_line.ensures.cut)

pub returns-in_err-put_line-2 : goal.returns-in_err-put_line-2
returns-in_err-put_line-2 g c =
    writes_after (rw c.b.ensures.same at c.in_ok-put_line.ensures.whole)
    (writes_cut (direct_line c.args.system.now) c.from_residual-in_err-put_line-2.ensures.0 (rw c.c.ensures.same at c.in_err-put_line-2.ensures.cut))

pub returns : goal.returns
returns g c =
    writes_after (rw c.b.ensures.same at c.in_ok-put_line.ensures.whole)
    (writes_after (rw c.c.ensures.same at c.in_ok-put_line-2.ensures.whole) c.put_direct.ensures)
