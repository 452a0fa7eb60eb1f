use Rattle.std.proofs.Common.{◌∙◌}
use Rattle.dsv_algebra.proofs.Gcds.{gcd-step, gcd-end, is_common}
use Rattle.dsv_algebra.proofs.divisor.common_divisor.Goals as goal

pub loop-y-preserved : goal.loop-y-preserved
loop-y-preserved c = gcd-step _ _ ∙ c.loop-y.invariant

pub returns-clause-value : goal.returns-clause-value
returns-clause-value c = gcd-end _ _ c.loop-y-test.false ∙ c.loop-y.invariant

pub returns-clause-divides : goal.returns-clause-divides
returns-clause-divides c = is_common _ _ _ (gcd-end _ _ c.loop-y-test.false ∙ c.loop-y.invariant)
