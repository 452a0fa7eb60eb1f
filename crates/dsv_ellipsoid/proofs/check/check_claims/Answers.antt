use Rattle.std.proofs.Common.{◌≡◌, suc, not, int_lt, Some, None, sym, ap, ◌∙◌, rules}
use Rattle.std.proofs.Math.IntN.{◌*ℤ◌}
use Rattle.dsv_algebra.specs.Vectors.{vector_of}
use Rattle.dsv_meaning.specs.Equations.{order}
use Rattle.dsv_ellipsoid.specs.declared.refusal.EllipsoidRefusal.TheVariants as refusal
use Rattle.dsv_ellipsoid.specs.Good.{step_form, first_form}
use Rattle.dsv_forms.specs.Refusals.{refusal_of}
use Rattle.dsv_ellipsoid.specs.Refusals.{level_before, level_after, square_past}
use Rattle.dsv_forms.proofs.Places.{refusal-err, refusal-ok}
use Rattle.dsv_ellipsoid.proofs.FirstTests.{test_is}
use Rattle.dsv_ellipsoid.proofs.Shown.{squares_same, step_stops, first_stops, bound_stops, claims_pass}
use Rattle.dsv_ellipsoid.proofs.check.check_claims.Goals as goal

pub returns-in_err-check_step : goal.returns-in_err-check_step
returns-in_err-check_step c =
    let q = c.args.quantised.now in
    let o = c.args.offer.now in
    let less : c.is_less.result ≡ int_lt (level_before q o) (level_after q o) = rw c.requires.sizes at c.is_less.ensures in
    let level = test_is c.refuse_where.result refusal.Level None c.is_less.result (int_lt (level_before q o) (level_after q o)) less c.refuse_where.ensures (refusal-ok c.refuse_where.result c.in_ok-refuse_where.field-0 c.in_ok-refuse_where.was) in
    let step_is = squares_same c.check_step.result refusal.Step (suc (order q)) (step_form (order q) (vector_of q.a) o) c.args.forms.now.step o.step c.requires.step c.check_step.ensures in
    let e = c.in_err-check_step.field-0.0 in
    let gone : refusal_of c.from_residual-in_err-check_step.result ≡ Some e = search rules in
    gone ∙ sym (step_stops q o e level (sym step_is ∙ refusal-err c.check_step.result e c.in_err-check_step.was))

pub returns-in_err-check_first : goal.returns-in_err-check_first
returns-in_err-check_first c =
    let q = c.args.quantised.now in
    let o = c.args.offer.now in
    let less : c.is_less.result ≡ int_lt (level_before q o) (level_after q o) = rw c.requires.sizes at c.is_less.ensures in
    let level = test_is c.refuse_where.result refusal.Level None c.is_less.result (int_lt (level_before q o) (level_after q o)) less c.refuse_where.ensures (refusal-ok c.refuse_where.result c.in_ok-refuse_where.field-0 c.in_ok-refuse_where.was) in
    let step_is = squares_same c.check_step.result refusal.Step (suc (order q)) (step_form (order q) (vector_of q.a) o) c.args.forms.now.step o.step c.requires.step c.check_step.ensures in
    let step = sym step_is ∙ refusal-ok c.check_step.result c.in_ok-check_step.field-0 c.in_ok-check_step.was in
    let first_is = squares_same c.check_first.result refusal.First (order q) (first_form o) c.args.forms.now.first o.first c.requires.first c.check_first.ensures in
    let e = c.in_err-check_first.field-0.0 in
    let gone : refusal_of c.from_residual-in_err-check_first.result ≡ Some e = search rules in
    gone ∙ sym (first_stops q o e level step (sym first_is ∙ refusal-err c.check_first.result e c.in_err-check_first.was))

pub returns-in_err-refuse_where-2 : goal.returns-in_err-refuse_where-2
returns-in_err-refuse_where-2 c =
    let q = c.args.quantised.now in
    let o = c.args.offer.now in
    let less : c.is_less.result ≡ int_lt (level_before q o) (level_after q o) = rw c.requires.sizes at c.is_less.ensures in
    let level = test_is c.refuse_where.result refusal.Level None c.is_less.result (int_lt (level_before q o) (level_after q o)) less c.refuse_where.ensures (refusal-ok c.refuse_where.result c.in_ok-refuse_where.field-0 c.in_ok-refuse_where.was) in
    let step_is = squares_same c.check_step.result refusal.Step (suc (order q)) (step_form (order q) (vector_of q.a) o) c.args.forms.now.step o.step c.requires.step c.check_step.ensures in
    let step = sym step_is ∙ refusal-ok c.check_step.result c.in_ok-check_step.field-0 c.in_ok-check_step.was in
    let first_is = squares_same c.check_first.result refusal.First (order q) (first_form o) c.args.forms.now.first o.first c.requires.first c.check_first.ensures in
    let first = sym first_is ∙ refusal-ok c.check_first.result c.in_ok-check_first.field-0 c.in_ok-check_first.was in
    let near : c.is_less-2.result ≡ int_lt (o.nu *ℤ o.level) (o.kappa *ℤ square_past o) = rw c.requires.sizes at c.is_less-2.ensures in
    let far = ap not near in
    let e = c.in_err-refuse_where-2.field-0.0 in
    let gone : refusal_of c.from_residual-in_err-refuse_where-2.result ≡ Some e = search rules in
    let bound = test_is c.refuse_where-2.result refusal.Bound (Some e) (not c.is_less-2.result) (not (int_lt (o.nu *ℤ o.level) (o.kappa *ℤ square_past o))) far c.refuse_where-2.ensures (refusal-err c.refuse_where-2.result e c.in_err-refuse_where-2.was) in
    gone ∙ sym (bound_stops q o e level step first bound)

pub returns : goal.returns
returns c =
    let q = c.args.quantised.now in
    let o = c.args.offer.now in
    let less : c.is_less.result ≡ int_lt (level_before q o) (level_after q o) = rw c.requires.sizes at c.is_less.ensures in
    let level = test_is c.refuse_where.result refusal.Level None c.is_less.result (int_lt (level_before q o) (level_after q o)) less c.refuse_where.ensures (refusal-ok c.refuse_where.result c.in_ok-refuse_where.field-0 c.in_ok-refuse_where.was) in
    let step_is = squares_same c.check_step.result refusal.Step (suc (order q)) (step_form (order q) (vector_of q.a) o) c.args.forms.now.step o.step c.requires.step c.check_step.ensures in
    let step = sym step_is ∙ refusal-ok c.check_step.result c.in_ok-check_step.field-0 c.in_ok-check_step.was in
    let first_is = squares_same c.check_first.result refusal.First (order q) (first_form o) c.args.forms.now.first o.first c.requires.first c.check_first.ensures in
    let first = sym first_is ∙ refusal-ok c.check_first.result c.in_ok-check_first.field-0 c.in_ok-check_first.was in
    let near : c.is_less-2.result ≡ int_lt (o.nu *ℤ o.level) (o.kappa *ℤ square_past o) = rw c.requires.sizes at c.is_less-2.ensures in
    let far = ap not near in
    let bound = test_is c.refuse_where-2.result refusal.Bound None (not c.is_less-2.result) (not (int_lt (o.nu *ℤ o.level) (o.kappa *ℤ square_past o))) far c.refuse_where-2.ensures (refusal-ok c.refuse_where-2.result c.in_ok-refuse_where-2.field-0 c.in_ok-refuse_where-2.was) in
    c.check_intervals.ensures ∙ sym (claims_pass q o level step first bound)
