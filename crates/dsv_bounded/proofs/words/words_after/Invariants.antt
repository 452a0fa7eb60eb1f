use Rattle.std.proofs.Common.{◌≡◌, ◌++◌, take}
use Rattle.dsv_unroll.specs.Words.{spelled_words}
use Rattle.dsv_bounded.proofs.words.words_after.Given as goal

abbrev pub invariant-loop-value : goal.invariant-loop-value
invariant-loop-value l = l.all ≡ l.fn.words ++ spelled_words l.format (take l.value-index l.values)
