use Rattle.std.proofs.Common.{◌≡◌, length}
use Rattle.std.specs.List.{All}
use Rattle.dsv_word.specs.Words.{IsWord}
use Rattle.dsv_bounded.proofs.transients.level_registers.Given as goal

abbrev pub invariant-loop-i : goal.invariant-loop-i
invariant-loop-i l = record {
  many : length l.registers.items ≡ l.i;
  words : All (IsWord l.net.format) l.registers.items;
}
