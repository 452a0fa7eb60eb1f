use Rattle.std.proofs.Common.{◌≡◌, drop}
use Rattle.dsv_cnf.specs.LiteralSet.{set_of}
use Rattle.dsv_hints.specs.Derivation.{hints_answer}
use Rattle.dsv_hints.proofs.hints.take_hints.Given as goal

abbrev pub invariant-loop-i : goal.invariant-loop-i
invariant-loop-i l =
    record {
      vars : l.set.vars ≡ l.fn.set.vars;
      rest : hints_answer l.store.live (drop l.i l.hints) (set_of l.set) ≡ hints_answer l.store.live l.hints (set_of l.fn.set);
    }
