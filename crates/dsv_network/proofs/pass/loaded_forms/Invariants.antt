use Rattle.std.proofs.Common.{◌≡◌, take}
use Rattle.dsv_network.specs.Samples.{loaded}
use Rattle.dsv_network.proofs.pass.loaded_forms.Given as goal

abbrev pub invariant-loop-i : goal.invariant-loop-i
invariant-loop-i l = l.registers ≡ loaded (take l.i-index l.next) l.forms
