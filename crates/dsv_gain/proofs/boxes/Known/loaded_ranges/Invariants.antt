use Rattle.std.proofs.Common.{◌≡◌, take}
use Rattle.std.specs.Prelude.{Some}
use Rattle.dsv_gain.specs.Boxes.{range_in}
use Rattle.dsv_gain.specs.Narrowing.{all_of}
use Rattle.dsv_gain.proofs.boxes.Known.loaded_ranges.Given as goal

abbrev pub invariant-loop-i : goal.invariant-loop-i
invariant-loop-i l = all_of (range_in l.self.input l.self.registers.now l.self.fitted.now l.nodes) (take l.i-index l.next) ≡ Some l.loaded
