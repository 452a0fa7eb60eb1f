use Rattle.std.proofs.Common.{◌≡◌}
use Rattle.dsv_system.specs.Systems.{zeros}
use Rattle.dsv_bounded.proofs.words.zero_words.Given as goal

abbrev pub invariant-loop-i : goal.invariant-loop-i
invariant-loop-i l = l.words ≡ zeros l.i
