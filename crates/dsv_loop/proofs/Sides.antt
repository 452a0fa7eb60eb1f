-- Both sides of the loop: how long their lists are.
use Rattle.std.proofs.Common.{◌≡◌, suc, ◌-◌, ◌≤◌, Bool, true, false, List, [], ◌∷◌, ◌++◌, length, refl, arith, All}
use Rattle.std.proofs.Math.IntN.{ℤ}
use Rattle.std.proofs.lemmas.List.FromFn.{length-map-range_with_len}
use Rattle.std.specs.Prelude.{if◌then◌else◌}
use Rattle.std.specs.Int.RustNames.{unsigned_abs}
use Rattle.dsv_algebra.specs.Vectors.{vector_of}
use Rattle.dsv_names.specs.Realisations.{is_delta}
use Rattle.dsv_delta.specs.Deltas.{common}
use Rattle.dsv_delta.specs.ZCoefficients.{Dyadic, dyadic, scaled, z_coefficient}
use Rattle.dsv_delta.proofs.Heavy.{length-numerators}
use Rattle.dsv_quantiser.specs.QuantisedView.{QuantisedView, IsQuantisedView}
use Rattle.dsv_reader.specs.Plants.{PlantView, IsPlant}
use Rattle.dsv_loop.specs.Loops.{TransferView, expanded, in_z, section_transfer, in_series, controller_transfer, plant_transfer}
use Rattle.dsv_loop.proofs.Signals.{length-product}

-- both lists have one length, and aren't empty
pub record IsProper (f : TransferView) : Type 0 where
  pub one_length : length f.b ≡ length f.a
  pub some : 1 ≤ length f.a

-- ---- the controller
length-expanded : (d : Dyadic) (ws : List ℤ) → length (expanded d ws) ≡ length ws
length-expanded d ws = length-map-range_with_len (z_coefficient (length ws - 1) (scaled d (length ws - 1) (vector_of ws))) 0 (length ws)

length_by : (b : Bool) (d : Dyadic) (ws : List ℤ) → length (if b then expanded d ws else ws) ≡ length ws
length_by true d ws = length-expanded d ws
length_by false d ws = refl

pub length-in_z : (q : QuantisedView) (ws : List ℤ) → length (in_z q ws) ≡ length ws
length-in_z q ws = length_by (is_delta q.realisation) (dyadic (unsigned_abs q.delta) q.format.frac_bits) ws

-- in a delta form
pub in_z-delta : (q : QuantisedView) (ws : List ℤ) → is_delta q.realisation ≡ true → in_z q ws ≡ expanded (dyadic (unsigned_abs q.delta) q.format.frac_bits) ws
in_z-delta q ws e = rw e refl

pub section_proper : (q : QuantisedView) → IsQuantisedView q → IsProper (section_transfer q)
section_proper q h =
    let b = length-in_z q q.b in
    let a = length-in_z q q.a in
    record { one_length = omega (arith, h.one_length); some = omega (arith, h.some) }

pub series_proper : (f g : TransferView) → IsProper f → IsProper g → IsProper (in_series f g)
series_proper f g p q =
    let b = length-product f.b g.b in
    let a = length-product f.a g.a in
    record { one_length = omega (arith, p.one_length, q.one_length); some = omega (arith, p.some, q.some) }

pub controller_proper : (qs : List QuantisedView) → All IsQuantisedView qs → IsProper (controller_transfer qs)
controller_proper [] all = record { one_length = refl; some = omega arith }
controller_proper (q ∷ qs) all =
    series_proper (section_transfer q) (controller_transfer qs) (section_proper q (all 0 q (omega arith))) (controller_proper qs (λ k d h. all (suc k) d (omega arith)))

-- ---- the plant

pub plant_proper : (p : PlantView) → IsPlant p → IsProper (plant_transfer p)
plant_proper p h =
    let l = common (p.b ++ p.a) in
    let b = length-numerators l p.b in
    let a = length-numerators l p.a in
    record { one_length = omega (arith, h.one_length); some = omega (arith, h.some) }
