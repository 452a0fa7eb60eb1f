-- How many coefficients a loop has.
use Rattle.std.proofs.Common.{◌≡◌, ◌∙◌, ap, ◌+◌, ◌-◌, ◌*◌, ◌≤◌, List, [], ◌∷◌, ◌++◌, length, All, arith}
use Rattle.std.proofs.Math.IntN.{ℤ}
use Rattle.std.proofs.lemmas.List.Elements.{All-head, All-tail}
use Rattle.dsv_quantiser.specs.QuantisedView.{QuantisedView, IsQuantisedView}
use Rattle.dsv_reader.specs.Plants.{PlantView, IsPlant}
use Rattle.dsv_tested.specs.Tested.{with_positive_lead}
use Rattle.dsv_delta.specs.Deltas.{common}
use Rattle.dsv_delta.proofs.Heavy.{length-numerators}
use Rattle.dsv_loop.specs.Loops.{section_transfer, controller_transfer, plant_transfer, loop_coefficients, without_common_factor}
use Rattle.dsv_loop.proofs.Recursions.{length-coefficients, length-polynomial}
use Rattle.dsv_loop.proofs.Sides.{length-in_z}
use Rattle.dsv_loop.proofs.Signals.{length-product}

-- a section has nine coefficients at most
controller_short : (qs : List QuantisedView) → All IsQuantisedView qs → length (controller_transfer qs).a ≤ 8 * length qs + 1
controller_short [] h = omega arith
controller_short (q ∷ qs) h =
    let is = All-head IsQuantisedView q qs h in
    let few = is.few in
    let rest = controller_short qs (All-tail IsQuantisedView q qs h) in
    omega (arith, length-product (section_transfer q).a (controller_transfer qs).a, length-in_z q q.a, few, rest)

-- and so has a plant
pub loop_short : (qs : List QuantisedView) (p : PlantView) (cs : List ℤ) → All IsQuantisedView qs → IsPlant p
    → cs ≡ with_positive_lead (without_common_factor (loop_coefficients (controller_transfer qs) (plant_transfer p))) → length cs ≤ 8 * length qs + 9
loop_short qs p cs is_q is_p e =
    let c = controller_transfer qs in
    let w = plant_transfer p in
    let long : length cs ≡ length c.a + length w.a - 1 = ap length e ∙ length-polynomial c w ∙ length-coefficients c w in
    let few = is_p.few in
    omega (arith, long, controller_short qs is_q, length-numerators (common (p.b ++ p.a)) p.a, few)
