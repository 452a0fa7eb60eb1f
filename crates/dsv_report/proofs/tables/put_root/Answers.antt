use Rattle.std.proofs.Common.{◌++◌, codes}
use Rattle.dsv_base.proofs.TakingLemmas.{writes_after, writes_cut}
use Rattle.dsv_report.specs.Tables.{parts_text}
use Rattle.dsv_report.proofs.tables.put_root.Goals as goal

pub returns-in_err-put_all : goal.returns-in_err-put_all
returns-in_err-put_all g c =
    let root = c.in-Some.root in
    rw c.in-Some.is (writes_cut (parts_text root.least ++ (codes " to " ++ (parts_text root.greatest ++ codes "\n"))) c.from_residual.ensures.0 c.in_err-put_all.ensures.cut)

pub returns-in_err-put_parts : goal.returns-in_err-put_parts
returns-in_err-put_parts g c =
    let root = c.in-Some.root in
    rw c.in-Some.is (writes_after c.in_ok-put_all.ensures.whole
    (writes_cut (codes " to " ++ (parts_text root.greatest ++ codes "\n")) c.from_residual-in_err-put_parts.ensures.0 c.in_err-put_parts.ensures.cut))

pub returns-in_err-put_all-2 : goal.returns-in_err-put_all-2
returns-in_err-put_all-2 g c =
    let root = c.in-Some.root in
    rw c.in-Some.is (writes_after c.in_ok-put_all.ensures.whole (writes_after c.in_ok-put_parts.ensures.whole
    (writes_cut (parts_text root.greatest ++ codes "\n") c.from_residual-in_err-put_all-2.ensures.0 c.in_err-put_all-2.ensures.cut)))

pub returns-in_err-put_parts-2 : goal.returns-in_err-put_parts-2
returns-in_err-put_parts-2 g c =
    rw c.in-Some.is (writes_after c.in_ok-put_all.ensures.whole (writes_after c.in_ok-put_parts.ensures.whole (writes_after c.in_ok-put_all-2.ensures.whole
    (writes_cut (codes "\n") c.from_residual-in_err-put_parts-2.ensures.0 c.in_err-put_parts-2.ensures.cut))))

pub returns : goal.returns
returns g c =
    rw c.in-Some.is (writes_after c.in_ok-put_all.ensures.whole (writes_after c.in_ok-put_parts.ensures.whole (writes_after c.in_ok-put_all-2.ensures.whole
    (writes_after c.in_ok-put_parts-2.ensures.whole c.put_all-3.ensures))))
