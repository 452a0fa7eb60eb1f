use Rattle.std.proofs.Common.{◌≡◌, replicate}
use Rattle.dsv_linear.specs.Known.{zero_estimate}
use Rattle.dsv_linear.proofs.run.zero_registers.Given as goal

abbrev pub invariant-loop : goal.invariant-loop
invariant-loop l = l.registers ≡ replicate l.counter zero_estimate
