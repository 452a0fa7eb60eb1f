use Rattle.std.proofs.Common.{◌≡◌, drop}
use Rattle.dsv_hints.specs.Derivation.{verdict_from, verdict_of}
use Rattle.dsv_hints.specs.Follows.{Follows}
use Rattle.dsv_hints.proofs.checker.check.Given as goal

abbrev pub invariant-loop-i : goal.invariant-loop-i
invariant-loop-i l =
    record {
      rest : verdict_from (drop l.i l.log) l.checker.carried l.i ≡ verdict_of l.formula l.log;
      sound : Follows l.formula.clauses l.checker.carried;
    }
