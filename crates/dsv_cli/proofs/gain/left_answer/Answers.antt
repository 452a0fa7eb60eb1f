use Rattle.std.proofs.Common.{rules}
use Rattle.dsv_cli.proofs.gain.left_answer.Goals as goal

pub returns-in-Some-clause-gain : goal.returns-in-Some-clause-gain
returns-in-Some-clause-gain g c = record { sample = c.args.sample; value = c.args.value; left = c.requires; replays = search rules }
