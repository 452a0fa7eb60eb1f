use Rattle.std.proofs.Common.{take}
use Rattle.std.specs.List.{All}
use Rattle.dsv_cascade.specs.Sections.{Fits}
use Rattle.dsv_cascade.proofs.cascade.later_refusal.Given as goal

abbrev pub invariant-loop-i : goal.invariant-loop-i
invariant-loop-i l = All (Fits l.first) (take l.i l.later)
