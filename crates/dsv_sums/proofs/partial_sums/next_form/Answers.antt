use Rattle.std.proofs.Common.{◌≡◌, ◌-◌, ◌<◌, ℕ, ℤ, List, length, map, below_more, refl, ap, ◌∙◌, arith}
use Rattle.dsv_algebra.specs.Vectors.{vector_of, matrix_of}
use Rattle.dsv_forms.specs.Padded.{matrix_with}
use Rattle.dsv_forms.specs.Refusals.{places}
use Rattle.dsv_sums.specs.Elimination.{entries_of}
use Rattle.dsv_sums.specs.SumForms.{next_entry, next_form}
use Rattle.dsv_sums.proofs.Filled.{matrix_next}
use Rattle.dsv_sums.proofs.StepLemmas.{form_lost, form_had}
use Rattle.dsv_sums.proofs.partial_sums.next_form.Goals as goal

pub returns-in_err-rows : goal.returns-in_err-rows
returns-in_err-rows c =
    let xs = c.coefficients-c.result.now in
    let wide = rw c.in_err-rows.was at c.next_row.ensures in
    c.from_residual.ensures
    ∙ form_lost xs c.args.form.now c.loop-i.i (omega arith) wide
    ∙ ap (λ cs. next_form cs c.args.form.now) c.coefficients-c.ensures.same

pub loop-i-preserved : goal.loop-i-preserved
loop-i-preserved c =
    let xs = c.coefficients-c.result.now in
    let d = length xs - 1 in
    let f : ℕ → List ℤ = λ i. entries_of d (next_entry d (vector_of xs) (matrix_of c.args.form.now.rows) i) in
    let few = c.coefficients-c.ensures.poly.few in
    let both = rw c.in_ok-rows.was at c.next_row.ensures in
    let i = c.loop-i.i in
    let inside : i < 8 = omega arith in
    record {
      same = rw (c.loop-i.invariant.same, both.0) (matrix_next f i inside);
      small = below_more _ _ c.loop-i.invariant.small both.1;
    }

pub returns : goal.returns
returns c =
    let xs = c.coefficients-c.result.now in
    let d = length xs - 1 in
    let f : ℕ → List ℤ = λ i. entries_of d (next_entry d (vector_of xs) (matrix_of c.args.form.now.rows) i) in
    let end : c.loop-i.i ≡ d = omega arith in
    form_had xs c.args.form.now d c.loop-i.rows refl
    (c.loop-i.invariant.same ∙ ap (λ n. matrix_with (map f (places n))) end) (λ k h. c.loop-i.invariant.small k (omega arith))
    ∙ ap (λ cs. next_form cs c.args.form.now) c.coefficients-c.ensures.same
