use Rattle.std.proofs.Common.{◌≡◌, ◌-◌, ◌<◌, ℕ, ℤ, List, length, map, ap, ◌∙◌, arith}
use Rattle.dsv_forms.specs.Padded.{matrix_with}
use Rattle.dsv_forms.specs.Refusals.{places}
use Rattle.dsv_sums.specs.Elimination.{entries_of}
use Rattle.dsv_sums.specs.SumForms.{base_entry}
use Rattle.dsv_sums.proofs.Filled.{matrix_next}
use Rattle.dsv_sums.proofs.StepLemmas.{first_is}
use Rattle.dsv_sums.proofs.partial_sums.first_form.Goals as goal

pub loop-i-preserved : goal.loop-i-preserved
loop-i-preserved c =
    let f : ℕ → List ℤ = λ i. entries_of c.order-d.result (base_entry i) in
    let i = c.loop-i.i in
    let few = c.order-d.ensures.few in
    let inside : i < 8 = omega arith in
    rw (c.loop-i.invariant, c.first_row.ensures) (matrix_next f i inside)

pub returns : goal.returns
returns c =
    let d = c.order-d.result in
    let same = c.order-d.ensures.same in
    let end : c.loop-i.i ≡ d = omega arith in
    let own : d ≡ length c.args.poly.now - 1 = omega arith in
    first_is (length c.args.poly.now - 1) d c.loop-i.rows own
    (c.loop-i.invariant ∙ ap (λ n. matrix_with (map (λ i. entries_of d (base_entry i)) (places n))) end)
