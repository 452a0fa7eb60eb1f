use Rattle.dsv_cli.proofs.Accepted.{written_accepted}
use Rattle.dsv_cli.proofs.law.written_certificates_are_accepted.Goals as goal

pub returns : goal.returns
returns c = written_accepted
