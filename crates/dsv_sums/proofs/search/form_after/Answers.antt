use Rattle.std.proofs.Common.{◌+◌, ◌≤◌, None, sym, ◌∙◌, arith}
use Rattle.dsv_sums.proofs.SearchLemmas.{after_more, after_stops}
use Rattle.dsv_sums.proofs.search.form_after.Goals as goal

pub returns-in_err-form : goal.returns-in_err-form
returns-in_err-form c =
    let cs = c.args.poly.now in
    let form = c.args.form.now in
    let k = c.loop-step._step in
    let inside : k + 1 ≤ c.args.steps = omega arith in
    c.from_residual.ensures
    ∙ sym (after_stops cs form (k + 1) c.args.steps inside (after_more cs form k c.loop-step.form None c.loop-step.invariant (sym c.in_err-form.was ∙ c.next_form.ensures)))
