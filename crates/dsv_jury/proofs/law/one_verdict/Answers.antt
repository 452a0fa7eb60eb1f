use Rattle.dsv_jury.proofs.Meaning.{one_verdict}
use Rattle.dsv_jury.proofs.law.one_verdict.Goals as goal

pub returns : goal.returns
returns c = one_verdict
