use Rattle.std.proofs.Common.{◌++◌}
use Rattle.std.specs.Prelude.{codes}
use Rattle.dsv_base.proofs.TakingLemmas.{writes_after, writes_cut}
use Rattle.dsv_report.specs.Tallies.{decided_line, overflow_line}
use Rattle.dsv_report.proofs.tallies.put_tally.Goals as goal

pub returns-in_err-put_seed : goal.returns-in_err-put_seed
returns-in_err-put_seed g c =
    let t = c.args.found.now.tally in
    writes_cut (decided_line (codes "stability successful ") t.stable t.unstable
    ++ (decided_line (codes "minimum-phase successful ") t.minimum t.nonminimum ++ overflow_line t.safe t.overflow t.spent)) c.from_residual.ensures.0
    (rw (c.from.ensures, c.from-2.ensures) at c.in_err-put_seed.ensures.cut)

pub returns-in_err-put_decided : goal.returns-in_err-put_decided
returns-in_err-put_decided g c =
    let t = c.args.found.now.tally in
    writes_after (rw (c.from.ensures, c.from-2.ensures) at c.in_ok-put_seed.ensures.whole)
    (writes_cut (decided_line (codes "minimum-phase successful ") t.minimum t.nonminimum ++ overflow_line t.safe t.overflow t.spent)
    c.from_residual-in_err-put_decided.ensures.0 (rw (c.from-stable.ensures, c.from-3.ensures) at c.in_err-put_decided.ensures.cut))

pub returns-in_err-put_decided-2 : goal.returns-in_err-put_decided-2
returns-in_err-put_decided-2 g c =
    let t = c.args.found.now.tally in
    writes_after (rw (c.from.ensures, c.from-2.ensures) at c.in_ok-put_seed.ensures.whole)
    (writes_after (rw (c.from-stable.ensures, c.from-3.ensures) at c.in_ok-put_decided.ensures.whole)
    (writes_cut (overflow_line t.safe t.overflow t.spent) c.from_residual-in_err-put_decided-2.ensures.0
    (rw (c.from-minimum.ensures, c.from-4.ensures) at c.in_err-put_decided-2.ensures.cut)))

pub returns : goal.returns
returns g c =
    writes_after (rw (c.from.ensures, c.from-2.ensures) at c.in_ok-put_seed.ensures.whole)
    (writes_after (rw (c.from-stable.ensures, c.from-3.ensures) at c.in_ok-put_decided.ensures.whole)
    (writes_after (rw (c.from-minimum.ensures, c.from-4.ensures) at c.in_ok-put_decided-2.ensures.whole)
    (rw (c.from-5.ensures, c.from-6.ensures, c.from-7.ensures) at c.put_overflow_counts.ensures)))
