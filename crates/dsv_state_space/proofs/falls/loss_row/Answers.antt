use Rattle.std.proofs.Common.{◌≡◌, ◌≢◌, ℕ, ◌<◌, Bool, ℤ, length, Some, below_more, get_or-set_other, get_or-set_same, length-set, arith, rules, sym, ◌∙◌}
use Rattle.std.proofs.lemmas.Int.{to_z-of_z}
use mir.Syntax.{w128}
use mir.Val.{SFits}
use Rattle.dsv_algebra.specs.Vectors.{matrix_of}
use Rattle.dsv_forms.specs.Refusals.{any_wide, refusal_of}
use Rattle.dsv_forms.specs.declared.refusal.OfferPart.TheVariants as part
use Rattle.dsv_forms.specs.declared.refusal.FormRefusal.{FormRefusal}
use Rattle.dsv_forms.specs.declared.refusal.FormRefusal.TheVariants as refusal
use Rattle.dsv_forms.proofs.Places.{passes, tests_none, refusal-err, refusal-ok}
use Rattle.dsv_state_space.specs.StateForms.{one_of, loss_numbers}
use Rattle.dsv_state_space.specs.StateView.{states}
use Rattle.dsv_state_space.proofs.LossLemmas.{row_stops}
use Rattle.dsv_state_space.proofs.falls.loss_row.Goals as goal

pub returns-in_err-tested_entry-clause-refusal : goal.returns-in_err-tested_entry-clause-refusal
returns-in_err-tested_entry-clause-refusal c =
    let s = c.args.system.now in
    let d = states s in
    let wide : ℕ → Bool = λ k. any_wide (loss_numbers d (one_of s) (matrix_of s.a) (matrix_of c.args.form.now.rows) c.args.i k) in
    let why : ℕ → FormRefusal = λ k. refusal.Wide part.Fall c.args.i k in
    let e = c.in_err-tested_entry.field-0.0 in
    let gone : refusal_of c.from_residual.result ≡ Some e = search rules in
    let count = c.states-j-end.ensures.count in
    let inside : c.loop-j.j < d = omega arith in
    gone ∙ sym (row_stops d c.loop-j.j wide why e inside c.loop-j.invariant.narrow (sym c.tested_entry.ensures.refusal ∙ refusal-err c.tested_entry.result e c.in_err-tested_entry.was))

pub loop-j-preserved : goal.loop-j-preserved
loop-j-preserved c =
    let s = c.args.system.now in
    let x : ℤ = c.get.result in
    let j = c.loop-j.j in
    let fits : SFits w128 x = search rules in
    let long = c.loop-j.invariant.size in
    let count = c.states-j-end.ensures.count in
    let few = c.states-j-end.ensures.lawful.few in
    let inside : j < length c.loop-j.row = omega arith in
    let own = c.get.ensures ∙ c.in_ok-tested_entry.ensures.entry in
    let narrow = passes (any_wide (loss_numbers (states s) (one_of s) (matrix_of s.a) (matrix_of c.args.form.now.rows) c.args.i j)) (refusal.Wide part.Fall c.args.i j)
    (sym c.tested_entry.ensures.refusal ∙ refusal-ok c.tested_entry.result c.in_ok-tested_entry.field-0 c.in_ok-tested_entry.was) in
    rw (to_z-of_z w128 x fits) (record {
      size = length-set c.loop-j.row j x ∙ long;
      narrow = below_more _ _ c.loop-j.invariant.narrow narrow;
      entries = below_more _ _ (λ k h. let apart : k ≢ j = omega arith in rw get_or-set_other (c.loop-j.invariant.entries k h)) (rw get_or-set_same own);
      after = λ k h. let apart : k ≢ j = omega arith in rw get_or-set_other (c.loop-j.invariant.after k (omega arith));
    })

pub returns-clause-refusal : goal.returns-clause-refusal
returns-clause-refusal c =
    let s = c.args.system.now in
    let d = states s in
    let wide : ℕ → Bool = λ k. any_wide (loss_numbers d (one_of s) (matrix_of s.a) (matrix_of c.args.form.now.rows) c.args.i k) in
    let why : ℕ → FormRefusal = λ k. refusal.Wide part.Fall c.args.i k in
    let count = c.states-j-end.ensures.count in
    sym (tests_none wide why d (λ k h. c.loop-j.invariant.narrow k (omega arith)))

pub returns-clause-row : goal.returns-clause-row
returns-clause-row c =
    let count = c.states-j-end.ensures.count in
    let last = c.loop-j.auto.j-end in
    record {
      size = c.loop-j.invariant.size;
      entries = λ k h. c.loop-j.invariant.entries k (omega arith);
      after = λ k h. c.loop-j.invariant.after k (omega arith);
    }
