use Rattle.std.proofs.Common.{◌≡◌, suc, ◌||◌, sym, ap, ◌∙◌}
use Rattle.std.specs.Prelude.{is_none}
use Rattle.dsv_algebra.specs.Vectors.{vector_of}
use Rattle.dsv_meaning.specs.Equations.{order}
use Rattle.dsv_ellipsoid.specs.declared.refusal.EllipsoidRefusal.TheVariants as refusal
use Rattle.dsv_ellipsoid.specs.Entries.{step_summands, first_summands, has_wide_entry}
use Rattle.dsv_forms.proofs.Places.{passed, refused}
use Rattle.dsv_ellipsoid.proofs.entries.tested_forms.Goals as goal

pub returns-in-Some-clause-refusal : goal.returns-in-Some-clause-refusal
returns-in-Some-clause-refusal c =
    let q = c.args.quantised.now in
    let o = c.args.offer.now in
    let wide = has_wide_entry (suc (order q)) (step_summands (order q) (vector_of q.a) o) || has_wide_entry (order q) (first_summands o) in
    let is : is_none c.forms_of.result ≡ wide = rw c.a.ensures.same at c.forms_of.ensures.wide in
    sym (passed wide (refusal.Wide 7) (sym is ∙ ap is_none c.in-Some.is))

pub returns-in-Some-clause-step : goal.returns-in-Some-clause-step
returns-in-Some-clause-step c = rw c.a.ensures.same at c.in-Some.ensures.step

pub returns-in-None-clause-refusal : goal.returns-in-None-clause-refusal
returns-in-None-clause-refusal c =
    let q = c.args.quantised.now in
    let o = c.args.offer.now in
    let wide = has_wide_entry (suc (order q)) (step_summands (order q) (vector_of q.a) o) || has_wide_entry (order q) (first_summands o) in
    let is : is_none c.forms_of.result ≡ wide = rw c.a.ensures.same at c.forms_of.ensures.wide in
    sym (refused wide (refusal.Wide 7) (sym is ∙ ap is_none c.in-None.is))
