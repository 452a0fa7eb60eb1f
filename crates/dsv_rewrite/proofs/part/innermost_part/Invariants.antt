use Rattle.std.proofs.Common.{◌≡◌, ◌-◌}
use Rattle.dsv_rewrite.specs.Parts.{innermost_part}
use Rattle.dsv_rewrite.specs.Ready.{IsPart}
use Rattle.dsv_rewrite.proofs.part.innermost_part.Given as goal

abbrev pub invariant-loop-step : goal.invariant-loop-step
invariant-loop-step l = record {
  part : IsPart l.terms l.inner;
  rest : innermost_part (l.fn.part.of.0 - l.step) l.terms l.inner ≡ innermost_part l.fn.part.of.0 l.terms l.fn.part;
}
