use Rattle.std.proofs.Common.{◌≡◌, ◌++◌, ◌-◌}
use Rattle.dsv_blast.specs.Words.{constant_bits}
use Rattle.dsv_blast.proofs.multiples.constant.Given as goal

abbrev pub invariant-loop-i : goal.invariant-loop-i
invariant-loop-i l = l.bits ++ constant_bits l.one (l.width - l.i) l.rest ≡ constant_bits l.one l.width l.number
