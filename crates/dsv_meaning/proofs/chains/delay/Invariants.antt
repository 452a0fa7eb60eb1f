use Rattle.std.proofs.Common.{◌≡◌, ◌+◌, length, drop}
use Rattle.dsv_meaning.specs.Stepping.{delay_line}
use Rattle.dsv_meaning.proofs.chains.delay.Given as goal

abbrev pub invariant-loop-word : goal.invariant-loop-word
invariant-loop-word l = record {
  same : delay_line l.registers.items l.before (drop l.word-index l.old) ≡ delay_line l.initial.registers.items l.newest l.old;
  count : length l.registers.items ≡ length l.initial.registers.items + l.word-index;
}
