use Rattle.dsv_table.proofs.Findings.{one_finding}
use Rattle.dsv_table.proofs.law.one_finding.Goals as goal

pub returns : goal.returns
returns c = one_finding
