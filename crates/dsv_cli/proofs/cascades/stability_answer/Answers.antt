use Rattle.dsv_cascade.specs.Cascades.{sections_of}
use Rattle.dsv_cli.proofs.CascadeRows.{judged_places}
use Rattle.dsv_cli.proofs.cascades.stability_answer.Goals as goal

pub returns-clause-plain : goal.returns-clause-plain
returns-clause-plain c = judged_places (sections_of c.args.cascade.now) c.cascade_stability.result c.cascade_stability.ensures
