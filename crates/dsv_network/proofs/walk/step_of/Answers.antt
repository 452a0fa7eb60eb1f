use Rattle.dsv_network.proofs.Steps.{step_up, step_small}
use Rattle.dsv_network.proofs.walk.step_of.Goals as goal

pub returns-clause-positive : goal.returns-clause-positive
returns-clause-positive c = step_up c.args.near.now c.requires

pub returns-clause-small : goal.returns-clause-small
returns-clause-small c = step_small c.args.near.now
