use Rattle.dsv_loop.proofs.Multiples.{first-all, second-all}
use Rattle.dsv_loop.proofs.transfer.plant_transfer.Goals as goal

pub numerators-requires-clause-divides : goal.numerators-requires-clause-divides
numerators-requires-clause-divides c = rw (c.in_ok-common.ensures.value, c.b.ensures.same) (first-all c.args.plant.now.b c.args.plant.now.a)

pub numerators-requires-2-clause-divides : goal.numerators-requires-2-clause-divides
numerators-requires-2-clause-divides c = rw (c.in_ok-common.ensures.value, c.a.ensures.same) (second-all c.args.plant.now.b c.args.plant.now.a)
