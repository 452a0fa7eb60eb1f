use Rattle.std.proofs.Common.{◌≡◌, ◌<◌, drop, IfSome}
use Rattle.dsv_cnf.specs.LiteralSet.{set_of}
use Rattle.dsv_hints.specs.Clauses.{outside}
use Rattle.dsv_hints.specs.Derivation.{move_of}
use Rattle.dsv_hints.proofs.Moves.{move_from}
use Rattle.dsv_hints.proofs.hints.move_by.Given as goal

abbrev pub invariant-loop-literal : goal.invariant-loop-literal
invariant-loop-literal l =
    record {
      over : IfSome l.open (λ m. m.var < l.set.vars);
      rest : move_from (set_of l.set) l.open (drop l.literal-index l.clause) ≡ move_of (set_of l.set) (outside (set_of l.set) l.clause);
    }
