use Rattle.std.proofs.Common.{◌≡◌}
use Rattle.dsv_system.specs.Systems.{zeros}
use Rattle.dsv_meaning.proofs.replays.zero_registers.Given as goal

abbrev pub invariant-loading : goal.invariant-loading
invariant-loading l = l.loaded.items ≡ zeros l.counter
