use Rattle.std.proofs.Common.{◌≡◌, take, map}
use Rattle.dsv_linear.specs.Known.{estimate_at}
use Rattle.dsv_linear.proofs.run.loaded_estimates.Given as goal

abbrev pub invariant-loop-id : goal.invariant-loop-id
invariant-loop-id l = l.registers ≡ map (estimate_at l.estimates) (take l.id-index l.next)
