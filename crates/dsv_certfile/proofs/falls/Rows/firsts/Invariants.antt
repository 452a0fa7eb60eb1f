use Rattle.std.proofs.Common.{◌≡◌, map, take}
use Rattle.std.specs.Prelude.{slice_index_or}
use Rattle.std.proofs.Math.IntN.{pos}
use Rattle.dsv_certfile.proofs.falls.Rows.firsts.Given as goal

abbrev pub invariant-loop-row : goal.invariant-loop-row
invariant-loop-row l = l.firsts ≡ map (λ row. slice_index_or row 0 (pos 0)) (take l.row-index l.self)
