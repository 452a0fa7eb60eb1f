use Rattle.std.proofs.Common.{◌≡◌, drop}
use Rattle.dsv_term.specs.Building.{built_of}
use Rattle.dsv_term.specs.Terms.{HasBits}
use Rattle.dsv_unroll.specs.Goals.{conjunction_from}
use Rattle.dsv_unroll.specs.Ready.{AreBits}
use Rattle.dsv_unroll.proofs.lists.conjunction.Given as goal

abbrev pub invariant-loop-test : goal.invariant-loop-test
invariant-loop-test l = record {
  first : HasBits l.terms l.all 1;
  tests : AreBits l.terms l.tests;
  same : conjunction_from (built_of l.terms l.all) (drop l.test-index l.tests) ≡ conjunction_from (built_of l.fn.terms l.fn.first) l.tests;
}
