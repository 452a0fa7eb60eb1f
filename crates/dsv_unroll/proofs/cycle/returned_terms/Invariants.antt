use Rattle.std.proofs.Common.{◌≡◌, drop}
use Rattle.dsv_term.specs.Building.{built_of}
use Rattle.dsv_term.specs.Growth.{AreSound}
use Rattle.dsv_term.specs.Terms.{KeepsTerms, HasBits}
use Rattle.dsv_unroll.specs.CycleGoals.{returned_from}
use Rattle.dsv_unroll.specs.Ready.{AreAllValues}
use Rattle.dsv_unroll.proofs.cycle.returned_terms.Given as goal

abbrev pub invariant-loop-k : goal.invariant-loop-k
invariant-loop-k l = record {
  sound : AreSound l.terms;
  bit : HasBits l.terms l.all 1;
  registers : AreAllValues l.terms l.registers;
  starts : AreAllValues l.terms l.starts;
  kept : KeepsTerms l.fn.terms l.terms;
  same : returned_from (built_of l.terms l.all) (drop l.k l.registers) (drop l.k l.starts) ≡ returned_from (built_of l.fn.terms l.fn.first) l.registers l.starts;
}
