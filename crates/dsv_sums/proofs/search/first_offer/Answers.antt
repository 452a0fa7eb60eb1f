use Rattle.std.proofs.Common.{◌≡◌, ◌+◌, ◌-◌, ◌^◌, ◌<◌, Some, None, sym, ap, ◌∙◌, arith}
use Rattle.dsv_sums.specs.SumForms.{most_looks, sum_form, offer_from}
use Rattle.dsv_sums.proofs.SearchLemmas.{sum_at, sum_places, look_lost, look_found, look_skipped, none_where, doubled}
use Rattle.dsv_sums.proofs.search.first_offer.Goals as goal

pub returns-in_err-form-clause-exact : goal.returns-in_err-form-clause-exact
returns-in_err-form-clause-exact c =
    let cs = c.args.poly.now in
    let k = c.loop-k.k in
    let now = c.loop-k.invariant in
    let here = sum_at cs c.loop-k.steps k c.steps_at-wanted.result c.loop-k.form None now.reached c.steps_at-wanted.ensures now.stepped (sym c.in_err-form.was ∙ c.form_after.ensures) in
    now.exact ∙ look_lost cs k (most_looks - k) here ∙ sym c.from_residual.ensures

pub offer_with-requires : goal.offer_with-requires
offer_with-requires c =
    let cs = c.args.poly.now in
    let k = c.loop-k.k in
    let now = c.loop-k.invariant in
    let form = c.in_ok-form.form in
    sum_places cs (2 ^ k) form
    (sum_at cs c.loop-k.steps k c.steps_at-wanted.result c.loop-k.form (Some form) now.reached c.steps_at-wanted.ensures now.stepped (sym c.in_ok-form.was ∙ c.form_after.ensures))

pub returns-in-Some-clause-exact : goal.returns-in-Some-clause-exact
returns-in-Some-clause-exact c =
    let cs = c.args.poly.now in
    let k = c.loop-k.k in
    let now = c.loop-k.invariant in
    let form = c.in_ok-form.form in
    let here = sum_at cs c.loop-k.steps k c.steps_at-wanted.result c.loop-k.form (Some form) now.reached c.steps_at-wanted.ensures now.stepped (sym c.in_ok-form.was ∙ c.form_after.ensures) in
    let more : 0 < most_looks - k = omega (arith, c.loop-k-test.true) in
    now.exact ∙ look_found cs k (most_looks - k) form c.in-Some.offer more here (sym c.offer_with.ensures.same ∙ c.in-Some.is)

pub loop-k-preserved : goal.loop-k-preserved
loop-k-preserved c =
    let cs = c.args.poly.now in
    let k = c.loop-k.k in
    let now = c.loop-k.invariant in
    let form = c.in_ok-form.form in
    let at = c.steps_at-wanted.ensures in
    let here = sum_at cs c.loop-k.steps k c.steps_at-wanted.result c.loop-k.form (Some form) now.reached at now.stepped (sym c.in_ok-form.was ∙ c.form_after.ensures) in
    let more : 0 < most_looks - k = omega (arith, c.loop-k-test.true) in
    let next : most_looks - k - 1 ≡ most_looks - (k + 1) = omega arith in
    record {
      stepped = ap (sum_form cs) at ∙ here;
      reached = omega (arith, at, doubled k);
      exact = now.exact
          ∙ look_skipped cs k (most_looks - k) form more here (sym c.offer_with.ensures.same ∙ none_where c.offer_with.result c.in_default.not-Some)
          ∙ ap (offer_from cs (k + 1)) next;
    }
