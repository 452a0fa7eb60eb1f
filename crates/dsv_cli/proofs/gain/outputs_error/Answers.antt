use Rattle.dsv_cli.proofs.OutputErrors.{bound_by}
use Rattle.dsv_cli.proofs.gain.outputs_error.Goals as goal

pub returns-in-Some : goal.returns-in-Some
returns-in-Some c =
    let found = c.in_ok-bound in
    bound_by c.args.asking.now.subject.now c.args.gain.now.ranges found.field-0 c.in-Some.bound c.in-Some.is c.order-order.ensures.quantised c.requires found.ensures.found found.ensures.near found.ensures.within
