use Rattle.std.proofs.Common.{◌≤◌}
use Rattle.dsv_forms.specs.Poly.{greatest_order}
use Rattle.dsv_schur_cohn.proofs.refinement.refined_form.Given as goal

abbrev pub invariant-loop-step : goal.invariant-loop-step
invariant-loop-step l = l.refined.d ≤ greatest_order
