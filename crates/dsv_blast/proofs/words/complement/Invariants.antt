use Rattle.std.proofs.Common.{◌≡◌, ◌++◌, drop}
use Rattle.dsv_blast.specs.Words.{negations}
use Rattle.dsv_blast.proofs.words.complement.Given as goal

abbrev pub invariant-loop-bit : goal.invariant-loop-bit
invariant-loop-bit l = l.turned ++ negations (drop l.bit-index l.bits) ≡ negations l.bits
