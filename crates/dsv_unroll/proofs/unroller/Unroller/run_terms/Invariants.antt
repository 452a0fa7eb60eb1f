use Rattle.std.proofs.Common.{◌≡◌, ◌++◌, drop}
use Rattle.dsv_term.specs.Terms.{KeepsTerms}
use Rattle.dsv_unroll.specs.Goals.{run_from, run_tests}
use Rattle.dsv_unroll.specs.Ready.{AreRunReady}
use Rattle.dsv_unroll.proofs.unroller.Unroller.run_terms.Given as goal

abbrev pub invariant-loop-x : goal.invariant-loop-x
invariant-loop-x l = record {
  ready : AreRunReady l.self.net.now l.registers.items (drop l.x-index l.inputs) l.terms l.overflowed;
  kept : KeepsTerms l.fn.terms l.terms;
  same : run_from l.self.net.now (drop l.x-index l.inputs) (record { terms = l.terms; registers = l.registers.items; overflowed = l.overflowed })
      ≡ run_from l.self.net.now l.inputs (record { terms = l.fn.terms; registers = l.fn.start.items; overflowed = l.fn.self.zero_bit });
  tests : l.tested.items ++ run_tests l.self.net.now (drop l.x-index l.inputs) (record { terms = l.terms; registers = l.registers.items; overflowed = l.overflowed })
      ≡ run_tests l.self.net.now l.inputs (record { terms = l.fn.terms; registers = l.fn.start.items; overflowed = l.fn.self.zero_bit });
}
