use Rattle.dsv_cli.specs.Gain.{IsNotSought}
use Rattle.dsv_cli.proofs.Gains.{left_is}
use Rattle.dsv_cli.proofs.gain.gain_answer.Goals as goal

pub returns-in-Leaves-clause-gain : goal.returns-in-Leaves-clause-gain
returns-in-Leaves-clause-gain g c = left_is IsNotSought (g.S.Subject.view c.args.asking.now.subject.now) c.left_answer.result c.left_answer.ensures.gain
