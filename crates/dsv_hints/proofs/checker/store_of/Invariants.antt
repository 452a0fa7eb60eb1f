use Rattle.dsv_hints.proofs.Starting.{IsStored}
use Rattle.dsv_hints.proofs.checker.store_of.Given as goal

abbrev pub invariant-loop-i : goal.invariant-loop-i
invariant-loop-i l = IsStored l.formula l.i l.store
