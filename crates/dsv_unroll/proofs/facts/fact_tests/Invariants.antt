use Rattle.std.proofs.Common.{◌≡◌, drop}
use Rattle.dsv_term.specs.Terms.{KeepsTerms}
use Rattle.dsv_unroll.specs.Beside.{known_with}
use Rattle.dsv_unroll.specs.FactTests.{facts_from}
use Rattle.dsv_unroll.specs.Ready.{AreTested, AreKnown}
use Rattle.dsv_unroll.proofs.facts.fact_tests.Given as goal

abbrev pub invariant-loop-i : goal.invariant-loop-i
invariant-loop-i l = record {
  known : AreKnown l.terms l.known.overflowed l.known.tests.items;
  tested : AreTested l.terms l.tested;
  kept : KeepsTerms l.fn.terms l.terms;
  same : facts_from l.is_long (known_with l.terms l.known) (drop l.i l.facts) (drop l.i l.tested) ≡ facts_from l.is_long (known_with l.fn.terms l.fn.before) l.facts l.tested;
}
