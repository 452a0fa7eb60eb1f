use Rattle.std.proofs.Common.{◌≡◌, Some}
use Rattle.dsv_sums.specs.Partial.{form_after}
use Rattle.dsv_sums.proofs.search.form_after.Given as goal

abbrev pub invariant-loop-step : goal.invariant-loop-step
invariant-loop-step l = form_after l.poly l.fn.form l._step ≡ Some l.form
