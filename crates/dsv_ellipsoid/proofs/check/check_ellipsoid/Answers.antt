use Rattle.std.proofs.Common.{sym, ◌∙◌}
use Rattle.dsv_forms.proofs.Places.{refusal-ok}
use Rattle.dsv_ellipsoid.proofs.Shown.{early_pass, good_where, never_where, kept_where}
use Rattle.dsv_ellipsoid.proofs.check.check_ellipsoid.Goals as goal

pub returns-clause-refusal : goal.returns-clause-refusal
returns-clause-refusal c =
    let q = c.args.quantised.now in
    let o = c.args.offer.now in
    let shape = sym c.check_shape.ensures.refusal ∙ refusal-ok c.check_shape.result c.in_ok-check_shape.field-0 c.in_ok-check_shape.was in
    let signs = sym c.check_signs.ensures.refusal ∙ refusal-ok c.check_signs.result c.in_ok-check_signs.field-0 c.in_ok-check_signs.was in
    let sizes = sym c.sizes_of.ensures.refusal ∙ refusal-ok c.sizes_of.result c.in_ok-sizes.sizes c.in_ok-sizes.was in
    let entries = sym c.tested_forms.ensures.refusal ∙ refusal-ok c.tested_forms.result c.in_ok-forms.forms c.in_ok-forms.was in
    c.check_claims.ensures ∙ sym (early_pass q o shape signs sizes entries)

pub returns-clause-good : goal.returns-clause-good
returns-clause-good c = good_where c.check_claims.result c.args.quantised.now c.args.offer.now (returns-clause-refusal c)

pub returns-clause-never : goal.returns-clause-never
returns-clause-never c = never_where c.check_claims.result c.args.quantised.now c.args.offer.now c.check_shape.ensures.quantised (returns-clause-refusal c)

pub returns-clause-kept : goal.returns-clause-kept
returns-clause-kept c = kept_where c.check_claims.result c.args.quantised.now c.args.offer.now c.check_shape.ensures.quantised (returns-clause-refusal c)
