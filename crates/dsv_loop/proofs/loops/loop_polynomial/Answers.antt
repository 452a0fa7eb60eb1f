use Rattle.std.proofs.Common.{◌≡◌, List, ℤ, sym, ap, ◌∙◌}
use Rattle.dsv_tested.specs.Tested.{with_positive_lead}
use Rattle.dsv_loop.specs.Loops.{TransferView, controller_transfer, plant_transfer, loop_coefficients, without_common_factor}
use Rattle.dsv_loop.proofs.Factors.{some_lead}
use Rattle.dsv_loop.proofs.Leads.{loop_lead}
use Rattle.dsv_loop.proofs.Lengths.{loop_short}
use Rattle.dsv_loop.proofs.Recursions.{loop_is}
use Rattle.dsv_loop.proofs.loops.loop_polynomial.Goals as goal

pub polynomial_with-requires : goal.polynomial_with-requires
polynomial_with-requires c =
    rw (c.as_slice.ensures, c.in_ok-coefficients.ensures, c.in_ok-controller.ensures.value, c.in_ok-whole_plant.ensures.value)
    (loop_lead c.args.sections.now c.args.sample_time c.args.plant.now c.in_ok-controller.ensures.quantised c.in_ok-whole_plant.ensures.plant c.in_ok-whole_plant.ensures.positive
    (sym c.in_ok-loop_test.ensures))

pub returns-clause-value : goal.returns-clause-value
returns-clause-value c =
    let qs = c.args.sections.now in
    let p = c.args.plant.now in
    let list : c.as_slice.result.now ≡ loop_coefficients (controller_transfer qs) (plant_transfer p) =
    c.as_slice.ensures ∙ c.in_ok-coefficients.ensures ∙ ap (λ (f : TransferView). loop_coefficients f c.in_ok-whole_plant.whole_plant) c.in_ok-controller.ensures.value
    ∙ ap (λ (f : TransferView). loop_coefficients (controller_transfer qs) f) c.in_ok-whole_plant.ensures.value in
    loop_is qs c.args.sample_time p c.in_ok-polynomial_with.field-0 (sym c.in_ok-loop_test.ensures)
    (c.in_ok-polynomial_with.ensures.value ∙ ap (λ (cs : List ℤ). with_positive_lead (without_common_factor cs)) list)

pub returns-clause-some : goal.returns-clause-some
returns-clause-some c = some_lead c.in_ok-polynomial_with.field-0 c.in_ok-polynomial_with.ensures.lead

pub returns-clause-few : goal.returns-clause-few
returns-clause-few c =
    let qs = c.args.sections.now in
    let p = c.args.plant.now in
    let list : c.as_slice.result.now ≡ loop_coefficients (controller_transfer qs) (plant_transfer p) =
    c.as_slice.ensures ∙ c.in_ok-coefficients.ensures ∙ ap (λ (f : TransferView). loop_coefficients f c.in_ok-whole_plant.whole_plant) c.in_ok-controller.ensures.value
    ∙ ap (λ (f : TransferView). loop_coefficients (controller_transfer qs) f) c.in_ok-whole_plant.ensures.value in
    loop_short qs p c.in_ok-polynomial_with.field-0 c.in_ok-controller.ensures.quantised c.in_ok-whole_plant.ensures.plant
    (c.in_ok-polynomial_with.ensures.value ∙ ap (λ (cs : List ℤ). with_positive_lead (without_common_factor cs)) list)
