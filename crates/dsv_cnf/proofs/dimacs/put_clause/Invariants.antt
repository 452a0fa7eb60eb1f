use Rattle.std.proofs.Common.{take}
use Rattle.std.specs.List.{flat_map}
use Rattle.dsv_base.specs.Taking.{Wrote}
use Rattle.dsv_cnf.specs.Dimacs.{literal_text}
use Rattle.dsv_cnf.proofs.dimacs.put_clause.Given as goal

abbrev pub invariant-loop-literal : goal.invariant-loop-literal
invariant-loop-literal g l =
    Wrote (g.K.Sink.seen l.fn.sink) (g.K.Sink.seen l.sink) (flat_map literal_text (take l.literal-index l.clause))
