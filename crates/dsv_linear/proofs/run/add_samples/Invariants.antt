use Rattle.std.proofs.Common.{◌≡◌, ◌-◌}
use Rattle.dsv_linear.specs.Known.{facts_from}
use Rattle.dsv_linear.proofs.run.add_samples.Given as goal

abbrev pub invariant-loop : goal.invariant-loop
invariant-loop l = facts_from l.net (l.samples - l.counter) l.start l.point ≡ facts_from l.net l.samples l.fn.start l.fn.point
