use Rattle.std.proofs.Common.{◌≡◌, drop}
use Rattle.dsv_hints.specs.Clauses.{is_over}
use Rattle.dsv_hints.proofs.hints.is_over.Given as goal

abbrev pub invariant-loop-literal : goal.invariant-loop-literal
invariant-loop-literal l = is_over l.vars (drop l.literal-index l.clause) ≡ is_over l.vars l.clause
