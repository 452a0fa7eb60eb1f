use Rattle.std.proofs.Common.{◌≡◌, ◌<◌, true, [], drop, take}
use Rattle.std.specs.Prelude.{MatchOption, IfSome}
use Rattle.dsv_trail.specs.Places.{falsifies}
use Rattle.dsv_solver.specs.Analysis.{AllFalse}
use Rattle.dsv_solver.specs.Search.{IsLast}
use Rattle.dsv_solver.proofs.learn.highest_literal.Given as goal

abbrev pub invariant-loop-literal : goal.invariant-loop-literal
invariant-loop-literal l =
    record {
      rest : AllFalse l.trail (drop l.literal-index l.literals);
      known : IfSome l.found (λ q. (q.var < l.trail.vars) × (falsifies l.trail.marks q ≡ true));
      found : MatchOption l.found (take l.literal-index l.literals ≡ []) (IsLast l.trail (take l.literal-index l.literals));
    }
