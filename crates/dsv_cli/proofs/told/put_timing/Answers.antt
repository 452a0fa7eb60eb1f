use Rattle.dsv_cli.proofs.told.put_timing.Goals as goal

pub returns-in-CheckTime-Controller : goal.returns-in-CheckTime-Controller
returns-in-CheckTime-Controller g c =
    rw (c.in-CheckTime-Controller.is-0, c.in-CheckTime-Controller.is-1) (rw c.costs.ensures.same at c.put_costs.ensures)
