use Rattle.std.proofs.Common.{◌∙◌}
use Rattle.dsv_state_table.proofs.States.{some_row, scale_positive, state_finding_is}
use Rattle.dsv_state_table.proofs.finding.state_finding.Goals as goal

pub system_finding-requires-clause-order : goal.system_finding-requires-clause-order
system_finding-requires-clause-order c =
    some_row c.args.system.now c.as_slice.result.now c.a.ensures.lawful (c.as_slice.ensures ∙ c.in_ok-rows.ensures ∙ c.a.ensures.same)

pub system_finding-requires-clause-scale : goal.system_finding-requires-clause-scale
system_finding-requires-clause-scale c = scale_positive c.args.system.now c.in_ok-one.one c.in_ok-one.ensures

pub returns : goal.returns
returns c =
    state_finding_is c.args.system.now c.as_slice.result.now c.in_ok-one.one c.in_ok-found.found c.a.ensures.lawful
    (c.as_slice.ensures ∙ c.in_ok-rows.ensures ∙ c.a.ensures.same) c.in_ok-one.ensures c.in_ok-found.ensures
