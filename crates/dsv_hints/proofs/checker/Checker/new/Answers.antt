use Rattle.dsv_hints.proofs.Soundness.{start-follows}
use Rattle.dsv_hints.proofs.checker.Checker.new.Goals as goal

pub returns-clause-sound : goal.returns-clause-sound
returns-clause-sound c = rw c.in_ok-store_of.ensures (start-follows c.args.formula.now)
