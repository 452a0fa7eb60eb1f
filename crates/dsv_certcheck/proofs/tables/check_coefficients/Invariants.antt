use Rattle.std.proofs.Common.{◌≡◌, ◌+◌, drop}
use Rattle.dsv_certcheck.specs.Checks.{coefficients_check}
use Rattle.dsv_certcheck.proofs.tables.check_coefficients.Given as goal

abbrev pub invariant-loop-i : goal.invariant-loop-i
invariant-loop-i l = coefficients_check l.line l.numbers l.poly ≡ coefficients_check (l.line + l.i) (drop l.i l.numbers) (drop l.i l.poly)
