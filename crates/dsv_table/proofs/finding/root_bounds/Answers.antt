use Rattle.std.proofs.Common.{rules}
use Rattle.dsv_table.proofs.Findings.{bounds_are}
use Rattle.dsv_table.proofs.finding.root_bounds.Goals as goal

pub returns : goal.returns
returns c =
    bounds_are c.args.coefficients.now c.in_ok-size.size c.in_ok-new.field-0 c.in_ok-new-2.field-0 c.requires.order c.requires.lead c.in_ok-size.ensures (search rules) (search rules)
