use Rattle.std.proofs.Common.{◌≡◌, ℕ, ◌≤◌, List, length, ◌++◌}
use Rattle.dsv_base.specs.Taking.{Grew}
use Rattle.dsv_base.proofs.sink.put_all.Given as goal

abbrev pub invariant-loop-rest : goal.invariant-loop-rest
invariant-loop-rest g l =
    (sent : List ℕ)
    × Grew (g.K.Sink.seen l.fn.sink).taken (g.K.Sink.seen l.sink).taken sent
    × (l.fn.piece ≡ sent ++ l.rest)
    × ((g.K.Sink.seen l.fn.sink).faults ≤ (g.K.Sink.seen l.sink).faults)

abbrev pub decreases-loop-rest : goal.decreases-loop-rest
decreases-loop-rest g l = length l.rest
