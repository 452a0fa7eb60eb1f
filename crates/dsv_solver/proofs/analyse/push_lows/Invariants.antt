use Rattle.std.proofs.Common.{◌≡◌, ◌++◌, drop}
use Rattle.dsv_solver.specs.Analysis.{AllFalse, low_literals}
use Rattle.dsv_solver.proofs.analyse.push_lows.Given as goal

abbrev pub invariant-loop-literal : goal.invariant-loop-literal
invariant-loop-literal l =
    record {
      are_false : AllFalse l.trail (drop l.literal-index l.met);
      rest : l.clause ++ low_literals l.trail l.fn.bounds.zero_end l.fn.bounds.high (drop l.literal-index l.met) ≡ l.fn.clause ++ low_literals l.trail l.fn.bounds.zero_end l.fn.bounds.high l.met;
    }
