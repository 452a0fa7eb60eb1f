use Rattle.std.proofs.Common.{◌≤◌, ◌-◌, length, arith}
use Rattle.dsv_algebra.specs.Vectors.{vector_of}
use Rattle.dsv_ellipsoid.proofs.Standing.{step_stands, first_stands}
use Rattle.dsv_ellipsoid.proofs.entries.forms_of.Goals as goal

pub returns-clause-step : goal.returns-clause-step
returns-clause-step c =
    let d = length c.args.c.now - 1 in
    let some : 1 ≤ d = omega (arith, c.requires.some) in
    step_stands d (vector_of c.args.c.now) c.args.offer.now c.in_ok-tested_form.field-0 some c.requires.form c.in_ok-tested_form.ensures.form

pub returns-clause-first : goal.returns-clause-first
returns-clause-first c =
    first_stands (length c.args.c.now - 1) c.args.offer.now c.in_ok-tested_form-2.field-0 c.requires.form c.in_ok-tested_form-2.ensures.form
