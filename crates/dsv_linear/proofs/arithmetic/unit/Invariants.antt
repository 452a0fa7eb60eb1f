use Rattle.std.proofs.Common.{◌≡◌}
use Rattle.dsv_system.specs.Systems.{zeros}
use Rattle.dsv_linear.proofs.arithmetic.unit.Given as goal

abbrev pub invariant-loop : goal.invariant-loop
invariant-loop l = l.list ≡ zeros l.counter
