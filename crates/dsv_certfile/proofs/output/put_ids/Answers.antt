use Rattle.std.proofs.Common.{codes, decimal}
use Rattle.dsv_base.proofs.TakingLemmas.{writes_after, writes_cut}
use Rattle.dsv_certfile.proofs.LineTexts.{writes_as, list-text}
use Rattle.dsv_certfile.proofs.output.put_ids.Goals as goal

pub returns-in_err-put_entries-clause-text : goal.returns-in_err-put_entries-clause-text
returns-in_err-put_entries-clause-text g c =
    writes_as (list-text decimal c.args.ids.now) (writes_cut (codes " 0") c.from_residual.ensures.0 c.in_err-put_entries.ensures.cut)

pub returns-clause-text : goal.returns-clause-text
returns-clause-text g c = writes_as (list-text decimal c.args.ids.now) (writes_after c.in_ok-put_entries.ensures.whole c.put_all.ensures)
