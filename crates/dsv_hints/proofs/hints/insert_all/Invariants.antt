use Rattle.std.proofs.Common.{◌≡◌, drop}
use Rattle.dsv_cnf.specs.LiteralSet.{set_of}
use Rattle.dsv_hints.specs.Clauses.{with_all}
use Rattle.dsv_hints.proofs.hints.insert_all.Given as goal

abbrev pub invariant-loop-literal : goal.invariant-loop-literal
invariant-loop-literal l =
    record {
      vars : l.set.vars ≡ l.fn.set.vars;
      rest : with_all (drop l.literal-index l.clause) (set_of l.set) ≡ with_all l.clause (set_of l.fn.set);
    }
