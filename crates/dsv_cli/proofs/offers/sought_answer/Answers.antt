use Rattle.dsv_ellipsoid.proofs.Runs.{keeps}
use Rattle.dsv_cli.proofs.offers.sought_answer.Goals as goal

pub returns-in-Some-clause-sought : goal.returns-in-Some-clause-sought
returns-in-Some-clause-sought c =
    let found = c.in-Some.ensures in (
      c.in_ok-accept_size.ensures.within,
      record {
        accepted = found.accepted;
        good = found.good;
        never = found.never;
        kept = keeps c.args.quantised.now c.in-Some.offer c.order-order.ensures.quantised found.good;
      },
    )
