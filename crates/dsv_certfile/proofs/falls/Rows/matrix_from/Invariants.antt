use Rattle.std.proofs.Common.{◌≡◌, map, take, drop}
use Rattle.dsv_forms.specs.Padded.{matrix_with}
use Rattle.dsv_certfile.proofs.falls.Rows.matrix_from.Given as goal

abbrev pub invariant-loop-i : goal.invariant-loop-i
invariant-loop-i l = l.rows ≡ matrix_with (map (drop l.place) (take l.i l.self))
