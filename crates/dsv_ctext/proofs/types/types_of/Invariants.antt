use Rattle.dsv_ctext.specs.Plans.{AreTypes}
use Rattle.dsv_ctext.proofs.types.types_of.Given as goal

abbrev pub invariant-loop-i : goal.invariant-loop-i
invariant-loop-i l = AreTypes l.net l.i l.types
