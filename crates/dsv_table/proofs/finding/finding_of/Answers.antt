use Rattle.dsv_table.proofs.Findings.{finding_is}
use Rattle.dsv_table.proofs.finding.finding_of.Goals as goal

pub returns : goal.returns
returns c =
    finding_is c.args.coefficients.now c.in_ok-numerals.field-0 c.in_ok-verdict.verdict c.in_ok-root.root c.requires.some c.requires.lead c.in_ok-numerals.ensures c.in_ok-verdict.ensures.exact c.in_ok-root.ensures
