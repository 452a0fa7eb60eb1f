use Rattle.dsv_realise.specs.Controllers.{of_controller}
use Rattle.dsv_cli.specs.Gain.{IsErrorOf}
use Rattle.dsv_cli.proofs.Gains.{left_is, safe_is}
use Rattle.dsv_cli.proofs.gain.controller_gain_answer.Goals as goal

pub returns-in-Leaves-clause-gain : goal.returns-in-Leaves-clause-gain
returns-in-Leaves-clause-gain c =
    let q = c.args.quantised.now in
    left_is (IsErrorOf q) (of_controller q) c.left_answer.result (rw c.in_ok-asking.ensures at c.left_answer.ensures.gain)

pub returns-in-Safe-clause-gain : goal.returns-in-Safe-clause-gain
returns-in-Safe-clause-gain c =
    let found = c.in_ok-gain in
    let e = rw c.in_ok-asking.ensures at found.ensures in
    (safe_is (of_controller c.args.quantised.now) found.field-0 c.in-Safe.gain c.in-Safe.is e.made e.holds e.safe, rw c.in_ok-asking.ensures at c.in_ok-error-in-Safe.ensures)
