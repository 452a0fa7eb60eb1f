use Rattle.std.proofs.Common.{◌≡◌, length}
use Rattle.std.specs.List.{All}
use Rattle.dsv_system.specs.Systems.{AreInRange}
use Rattle.dsv_word.specs.Words.{IsWord}
use Rattle.dsv_bounded.proofs.offers.end_inputs.Given as goal

abbrev pub invariant-loop-i : goal.invariant-loop-i
invariant-loop-i l = record {
  range : AreInRange l.subject.low l.subject.high l.inputs;
  words : All (IsWord l.subject.net.now.format) l.inputs;
  many : length l.inputs ≡ l.i;
}
