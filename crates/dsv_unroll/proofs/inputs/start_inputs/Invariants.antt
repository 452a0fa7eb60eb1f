use Rattle.std.proofs.Common.{◌≡◌, ◌-◌}
use Rattle.dsv_word.specs.Words.{width}
use Rattle.dsv_unroll.specs.CycleGoals.{starts_from}
use Rattle.dsv_unroll.proofs.inputs.start_inputs.Given as goal

abbrev pub invariant-loop-k : goal.invariant-loop-k
invariant-loop-k l =
    starts_from (width l.format) (l.count - l.k) (record { terms = l.terms; ids = l.ids.items })
    ≡ starts_from (width l.format) l.count (record { terms = l.fn.terms; ids = l.fn.before.items })
