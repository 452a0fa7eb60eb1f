use Rattle.std.proofs.Common.{◌≡◌, length}
use Rattle.std.specs.List.{All}
use Rattle.dsv_system.specs.Systems.{AreInRange}
use Rattle.dsv_word.specs.Words.{IsWord}
use Rattle.dsv_gain.proofs.lists.Driver.driving_inputs.Given as goal

abbrev pub invariant-loop-i : goal.invariant-loop-i
invariant-loop-i l = record {
  range : AreInRange l.self.subject.now.low l.self.subject.now.high l.inputs;
  words : All (IsWord l.self.subject.now.net.now.format) l.inputs;
  many : length l.inputs ≡ l.i;
}
