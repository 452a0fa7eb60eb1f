use Rattle.std.proofs.Common.{◌≡◌, take}
use Rattle.dsv_loop.proofs.transfer.numbers_of.Given as goal

abbrev pub invariant-loop-word : goal.invariant-loop-word
invariant-loop-word l = l.numbers ≡ take l.word-index l.words
