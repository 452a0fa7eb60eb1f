use Rattle.std.proofs.Common.{take, length, ◌++◌}
use Rattle.std.specs.List.{flat_map}
use Rattle.dsv_base.specs.Taking.{Wrote}
use Rattle.dsv_cnf.specs.Dimacs.{header_text, clause_text}
use Rattle.dsv_cnf.proofs.dimacs.write_dimacs.Given as goal

abbrev pub invariant-loop-i : goal.invariant-loop-i
invariant-loop-i g l =
    Wrote (g.K.Sink.seen l.fn.sink) (g.K.Sink.seen l.sink) (header_text l.formula.vars (length l.formula.clauses) ++ flat_map clause_text (take l.i l.formula.clauses))
