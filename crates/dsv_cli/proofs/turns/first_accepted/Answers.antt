use Rattle.std.proofs.Common.{rules, arith, add-one}
use Rattle.dsv_cli.specs.Turns.{start}
use Rattle.dsv_cli.proofs.Asked.{no_more, one_refused, last_refused, ends, fails}
use Rattle.dsv_cli.proofs.turns.first_accepted.Goals as goal

pub asking-init : goal.asking-init
asking-init g c = record { room = omega arith; turns = rw c.requires.none start }

pub asking-preserved-in-Nothing : goal.asking-preserved-in-Nothing
asking-preserved-in-Nothing g c =
    let turns = no_more c.asking.invariant.turns (search rules) c.index_mut.ensures.value (rw c.in-Nothing.is at c.in_ok-ask.ensures) c.remove.ensures.items in
    record { room = omega arith; turns = turns }

pub asking-preserved-then-refused-eq-MOST_OFFERS : goal.asking-preserved-then-refused-eq-MOST_OFFERS
asking-preserved-then-refused-eq-MOST_OFFERS g c =
    let turns = last_refused c.asking.invariant.turns (search rules) c.index_mut.ensures.value (rw c.in-Refused.is at c.in_ok-ask.ensures) (omega arith) c.remove-then-refused-eq-MOST_OFFERS.ensures.items in
    record { room = omega arith; turns = rw c.in_ok-push-in-Refused.ensures.ok turns }

pub asking-preserved : goal.asking-preserved
asking-preserved g c =
    let turns = one_refused c.asking.invariant.turns (search rules) c.index_mut.ensures.value (rw c.in-Refused.is at c.in_ok-ask.ensures) c.asking.invariant.room in
    record { room = omega arith; turns = rw (c.in_ok-push-in-Refused.ensures.ok, add-one) turns }

pub returns-in-Accepted : goal.returns-in-Accepted
returns-in-Accepted g c = ends c.asking.invariant.turns (search rules) c.index_mut.ensures.value (rw c.in-Accepted.is at c.in_ok-ask.ensures)

pub returns-in_err-ask : goal.returns-in_err-ask
returns-in_err-ask g c = fails c.asking.invariant.turns (search rules) c.index_mut.ensures.value _ c.from_residual.result c.in_err-ask.ensures c.from_residual.ensures.0

pub returns-in_err-push-in-Refused : goal.returns-in_err-push-in-Refused
returns-in_err-push-in-Refused g c =
    fails c.asking.invariant.turns (search rules) c.index_mut.ensures.value _ c.from_residual-in_err-push-in-Refused.result c.in_ok-ask.ensures c.from_residual-in_err-push-in-Refused.ensures.0
