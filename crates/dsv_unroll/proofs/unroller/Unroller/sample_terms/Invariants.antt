use Rattle.std.proofs.Common.{◌≡◌, ◌++◌, drop, length, []}
use Rattle.dsv_term.specs.Terms.{KeepsTerms}
use Rattle.dsv_unroll.specs.Goals.{nodes_from, tests_from}
use Rattle.dsv_unroll.specs.Beside.{sample_with}
use Rattle.dsv_unroll.specs.Ready.{AreReady}
use Rattle.dsv_unroll.proofs.unroller.Unroller.sample_terms.Given as goal

abbrev pub invariant-loop-i : goal.invariant-loop-i
invariant-loop-i l = record {
  count : length l.made.ids.items ≡ l.i;
  ready : AreReady l.net l.sample.registers.now l.sample.x l.terms l.made.ids.items l.made.overflowed;
  kept : KeepsTerms l.fn.terms l.terms;
  same : nodes_from l.sample.rule l.net l.sample.registers.now l.sample.x (drop l.i l.net.nodes) (sample_with l.terms l.made)
      ≡ nodes_from l.sample.rule l.net l.sample.registers.now l.sample.x l.net.nodes (record { terms = l.fn.terms; ids = []; overflowed = l.fn.overflowed });
  tests : l.made.tested.items ++ tests_from l.sample.rule l.net l.sample.registers.now l.sample.x (drop l.i l.net.nodes) (sample_with l.terms l.made)
      ≡ tests_from l.sample.rule l.net l.sample.registers.now l.sample.x l.net.nodes (record { terms = l.fn.terms; ids = []; overflowed = l.fn.overflowed });
}
