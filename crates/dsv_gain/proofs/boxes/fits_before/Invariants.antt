use Rattle.std.proofs.Common.{◌≡◌}
use Rattle.dsv_gain.specs.Boxes.{fits_before}
use Rattle.dsv_gain.proofs.boxes.fits_before.Given as goal

abbrev pub invariant-loop-k : goal.invariant-loop-k
invariant-loop-k l = l.count ≡ fits_before l.nodes l.k
