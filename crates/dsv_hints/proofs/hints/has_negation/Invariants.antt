use Rattle.std.proofs.Common.{◌≡◌, drop}
use Rattle.dsv_cnf.specs.LiteralSet.{set_of}
use Rattle.dsv_hints.specs.Clauses.{has_negation}
use Rattle.dsv_hints.proofs.hints.has_negation.Given as goal

abbrev pub invariant-loop-literal : goal.invariant-loop-literal
invariant-loop-literal l =
    has_negation (set_of l.set) (drop l.literal-index l.clause) ≡ has_negation (set_of l.set) l.clause
