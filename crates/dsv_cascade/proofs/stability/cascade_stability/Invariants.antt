use Rattle.std.proofs.Common.{◌∷◌, take}
use Rattle.dsv_cascade.specs.Stability.{AreStable}
use Rattle.dsv_cascade.proofs.stability.cascade_stability.Given as goal

abbrev pub invariant-loop-section : goal.invariant-loop-section
invariant-loop-section l = AreStable (l.fn.cascade.first ∷ take l.section-index l.fn.cascade.later) l.items.items
