use Rattle.std.proofs.Common.{◌≡◌, length}
use Rattle.std.specs.List.{All}
use Rattle.dsv_word.specs.Words.{IsWord}
use Rattle.dsv_realise.proofs.ReplayLemmas.{IsUnbroken}
use Rattle.dsv_realise.proofs.replays.stepped_trace.Given as goal

abbrev pub invariant-loop-i : goal.invariant-loop-i
invariant-loop-i l = record {
  many : length l.registers ≡ length l.subject.net.now.next;
  words : All (IsWord l.subject.net.now.format) l.registers;
  unbroken : IsUnbroken l.subject.net.now l.inputs l.registers l.outputs l.i;
}
