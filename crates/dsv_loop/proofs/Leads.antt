-- The lead of a loop that isn't algebraic isn't 0.
use Rattle.std.proofs.Common.{◌≡◌, ◌≢◌, ℕ, zero, suc, ◌-◌, ◌*◌, ◌/◌, ◌^◌, ◌<◌, ◌≤◌, ◌&&◌, not, Bool, true, false, List, [], ◌∷◌, ◌++◌, length, All, refl, ap, ◌∙◌, arith, get_or, inl, inr}
use Rattle.std.proofs.Math.IntN.{ℤ, pos, negsuc, ◌+ℤ◌, ◌*ℤ◌, +ℤ_idl, +ℤ_idr}
use Rattle.std.proofs.lemmas.Int.{ints, unsigned_abs-mul}
use Rattle.std.proofs.lemmas.List.FromFn.{get_or-map-range_with_len}
use Rattle.std.proofs.lemmas.Nat.{mul-le, pow_pos}
use lib.Signed.{◌≤ℤ◌}
use Rattle.std.specs.Prelude.{◌⊎◌, Result, Ok, Err, if◌then◌else◌}
use Rattle.std.specs.Int.RustNames.{unsigned_abs}
use Rattle.std.specs.List.{list_any, list_all}
use Rattle.std.specs.Ordering.{int_eq}
use Rattle.dsv_algebra.specs.Vectors.{vector_of}
use Rattle.dsv_fraction.specs.Ratio.{Ratio}
use Rattle.dsv_fraction.specs.Ratio as ratio
use Rattle.dsv_delta.specs.Deltas.{common, numerators}
use Rattle.dsv_delta.specs.ZCoefficients.{Dyadic, dyadic, scaled, z_coefficient}
use Rattle.dsv_delta.proofs.Alternating.{first_coefficient}
use Rattle.dsv_delta.proofs.Scaling.{power_positive, dyadic_positive}
use Rattle.dsv_names.specs.Realisations.{is_delta}
use Rattle.dsv_quantiser.specs.QuantisedView.{QuantisedView, IsQuantisedView}
use Rattle.dsv_reader.specs.Plants.{PlantView, IsPlant}
use Rattle.dsv_tested.specs.Lead.{lead_size}
use Rattle.dsv_loop.specs.declared.refusal.LoopRefusal.{LoopRefusal}
use Rattle.dsv_loop.specs.declared.refusal.LoopRefusal.TheVariants as refusal
use Rattle.dsv_loop.specs.Loops.{TransferView, product, expanded, section_transfer, controller_transfer, plant_transfer, loop_coefficients}
use Rattle.dsv_loop.specs.Loops.{is_accumulating, is_same_time, answers_at_once, is_algebraic, loop_test}
use Rattle.dsv_loop.proofs.Convolutions.{nought_left}
use Rattle.dsv_loop.proofs.Exact.{quotient_positive}
use Rattle.dsv_loop.proofs.Multiples.{first-common}
use Rattle.dsv_loop.proofs.Signals.{length-product, product-at, sums-at}
use Rattle.dsv_loop.proofs.Sides.{IsProper, section_proper, controller_proper, plant_proper}

abbrev first_of : List ℤ → ℤ
first_of cs = vector_of cs 0

-- ---- products
apart_product : (a b : ℤ) → 0 < unsigned_abs a → 0 < unsigned_abs b → 0 < unsigned_abs (a *ℤ b)
apart_product a b p q = let e = unsigned_abs-mul a b in let h = mul-le 1 1 (unsigned_abs a) (unsigned_abs b) p q in omega arith

size_apart : (z : ℤ) → z ≢ pos 0 → 0 < unsigned_abs z
size_apart (pos zero) h = absurd (h refl)
size_apart (pos (suc n)) h = omega arith
size_apart (negsuc n) h = omega arith

nought_right : (z : ℤ) → z *ℤ pos 0 ≡ pos 0
nought_right z = omega (arith, ints)

first-product : (fs gs : List ℤ) → 1 ≤ length fs → 1 ≤ length gs → first_of (product fs gs) ≡ first_of fs *ℤ first_of gs
first-product fs gs p q = product-at fs gs 0 (omega arith) ∙ +ℤ_idl (first_of fs *ℤ first_of gs)

-- ---- a section's first numbers
first-expanded : (d : Dyadic) (ws : List ℤ) → 1 ≤ length ws → first_of (expanded d ws) ≡ first_of ws *ℤ pos (d.numerator ^ 0 * d.denominator ^ (length ws - 1 - 0))
first-expanded d ws h =
    let e = scaled d (length ws - 1) (vector_of ws) in
    get_or-map-range_with_len (z_coefficient (length ws - 1) e) 0 (length ws) 0 0 (pos 0) (omega arith) refl ∙ first_coefficient (length ws - 1) e

positive_powers : (d : Dyadic) (m n : ℕ) → (0 < d.numerator) × (0 < d.denominator) → 0 < d.numerator ^ m * d.denominator ^ n
positive_powers d m n h =
    let p = mul-le 1 1 (d.numerator ^ m) (d.denominator ^ n) (power_positive d.numerator m h.0) (power_positive d.denominator n h.1) in
    omega arith

apart_by : (b : Bool) (d : Dyadic) (ws : List ℤ) → 1 ≤ length ws → (b ≡ true → (0 < d.numerator) × (0 < d.denominator)) → 0 < unsigned_abs (first_of ws)
    → 0 < unsigned_abs (first_of (if b then expanded d ws else ws))
apart_by true d ws some h p =
    rw (first-expanded d ws some)
    (apart_product (first_of ws) (pos (d.numerator ^ 0 * d.denominator ^ (length ws - 1 - 0))) p (positive_powers d 0 (length ws - 1 - 0) (h refl)))
apart_by false d ws some h p = p

nought_by : (b : Bool) (d : Dyadic) (ws : List ℤ) → 1 ≤ length ws → first_of ws ≡ pos 0 → first_of (if b then expanded d ws else ws) ≡ pos 0
nought_by true d ws some e =
    let k = d.numerator ^ 0 * d.denominator ^ (length ws - 1 - 0) in first-expanded d ws some ∙ ap (λ z. z *ℤ pos k) e ∙ nought_left (pos k)
nought_by false d ws some e = e

delta_parts : (q : QuantisedView) → IsQuantisedView q → is_delta q.realisation ≡ true →
    (0 < (dyadic (unsigned_abs q.delta) q.format.frac_bits).numerator) × (0 < (dyadic (unsigned_abs q.delta) q.format.frac_bits).denominator)
delta_parts q h e =
    let delta = rw e at h.delta in
    dyadic_positive (unsigned_abs q.delta) q.format.frac_bits (size_positive q.delta delta.0) where
      size_positive : (z : ℤ) → pos 1 ≤ℤ z → 0 < unsigned_abs z
      size_positive z h = omega (arith, ints)

unit_apart : (w : ℤ) (f : ℕ) → w ≡ pos (2 ^ f) → 0 < unsigned_abs w
unit_apart w f e = let p = pow_pos f in omega (arith, ints)

section_lead : (q : QuantisedView) → IsQuantisedView q → 0 < unsigned_abs (first_of (section_transfer q).a)
section_lead q h =
    apart_by (is_delta q.realisation) (dyadic (unsigned_abs q.delta) q.format.frac_bits) q.a h.some (delta_parts q h) (unit_apart (first_of q.a) q.format.frac_bits h.leading)

section_nought : (q : QuantisedView) → IsQuantisedView q → first_of q.b ≡ pos 0 → first_of (section_transfer q).b ≡ pos 0
section_nought q h e = nought_by (is_delta q.realisation) (dyadic (unsigned_abs q.delta) q.format.frac_bits) q.b (omega (arith, h.some, h.one_length)) e

-- ---- the controller's first numbers
rest_of : (q : QuantisedView) (qs : List QuantisedView) → All IsQuantisedView (q ∷ qs) → All IsQuantisedView qs
rest_of q qs all = λ k d h. all (suc k) d (omega arith)

head_of : (q : QuantisedView) (qs : List QuantisedView) → All IsQuantisedView (q ∷ qs) → IsQuantisedView q
head_of q qs all = all 0 q (omega arith)

controller_lead : (qs : List QuantisedView) → All IsQuantisedView qs → 0 < unsigned_abs (first_of (controller_transfer qs).a)
controller_lead [] all = omega arith
controller_lead (q ∷ qs) all =
    let f = section_transfer q in
    let g = controller_transfer qs in
    let is_f = section_proper q (head_of q qs all) in
    let is_g = controller_proper qs (rest_of q qs all) in
    rw (first-product f.a g.a is_f.some is_g.some)
    (apart_product (first_of f.a) (first_of g.a) (section_lead q (head_of q qs all)) (controller_lead qs (rest_of q qs all)))

first_numerator : (q : QuantisedView) (qs : List QuantisedView) → All IsQuantisedView (q ∷ qs)
    → first_of (controller_transfer (q ∷ qs)).b ≡ first_of (section_transfer q).b *ℤ first_of (controller_transfer qs).b
first_numerator q qs all =
    let f = section_transfer q in
    let g = controller_transfer qs in
    let is_f = section_proper q (head_of q qs all) in
    let is_g = controller_proper qs (rest_of q qs all) in
    first-product f.b g.b (omega (arith, is_f.some, is_f.one_length)) (omega (arith, is_g.some, is_g.one_length))

is_nought : (z : ℤ) → int_eq z (pos 0) ≡ true → z ≡ pos 0
is_nought z h = grind (arith, ints)

nought_first : (x : Bool) (z : ℤ) → int_eq z (pos 0) ≡ x → not x ≡ false → z ≡ pos 0
nought_first true z is e = is_nought z is
nought_first false z is e = absurd (cc)

nought_one : (q : QuantisedView) (qs : List QuantisedView) (t : Bool) → All IsQuantisedView (q ∷ qs) → (list_all answers_at_once qs ≡ false → first_of (controller_transfer qs).b ≡ pos 0)
    → answers_at_once q ≡ t → (t && list_all answers_at_once qs) ≡ false → first_of (controller_transfer (q ∷ qs)).b ≡ pos 0
nought_one q qs false all rest is e =
    let none = nought_first (int_eq (vector_of q.b 0) (pos 0)) (vector_of q.b 0) refl is in
    first_numerator q qs all ∙ ap (λ z. z *ℤ first_of (controller_transfer qs).b) (section_nought q (head_of q qs all) none)
    ∙ nought_left (first_of (controller_transfer qs).b)
nought_one q qs true all rest is e =
    first_numerator q qs all ∙ ap (λ z. first_of (section_transfer q).b *ℤ z) (rest e) ∙ nought_right (first_of (section_transfer q).b)

controller_nought : (qs : List QuantisedView) → All IsQuantisedView qs → list_all answers_at_once qs ≡ false → first_of (controller_transfer qs).b ≡ pos 0
controller_nought [] all e = absurd (cc)
controller_nought (q ∷ qs) all e = nought_one q qs (answers_at_once q) all (λ f. controller_nought qs (rest_of q qs all) f) refl e

-- ---- the plant's first numbers
plant_lead : (bs qs : List Ratio) → 1 ≤ length qs → (get_or qs 0 ratio.zero).num ≢ pos 0 → 0 < common (bs ++ qs) → 0 < unsigned_abs (first_of (numerators (common (bs ++ qs)) qs))
plant_lead bs [] some h p = absurd (omega arith)
plant_lead bs (q ∷ qs) some h p =
    let l = common (bs ++ q ∷ qs) in
    apart_product q.num (pos (l / q.den)) (size_apart q.num h) (quotient_positive q.den l (first-common bs qs q) p)

plant_nought : (l : ℕ) (qs : List Ratio) → (get_or qs 0 ratio.zero).num ≡ pos 0 → first_of (numerators l qs) ≡ pos 0
plant_nought l [] h = refl
plant_nought l (q ∷ qs) h = ap (λ z. z *ℤ pos (l / q.den)) h ∙ nought_left (pos (l / q.den))

-- ---- the test
not_algebraic : (adds same algebraic : Bool) →
    ◌≡◌ {A = Result (Unit {0}) LoopRefusal} (if adds then Err refusal.Realisation else (if not same then Err refusal.SampleTimes else (if algebraic then Err refusal.Algebraic else Ok tt))) (Ok tt) →
    algebraic ≡ false
not_algebraic false true false e = refl
not_algebraic false true true e = absurd (cc)
not_algebraic false false algebraic e = absurd (cc)
not_algebraic true same algebraic e = absurd (cc)

one_silent : (x z : Bool) → (x && not z) ≡ false → (x ≡ false) ⊎ (z ≡ true)
one_silent false z e = inl refl
one_silent true true e = inr refl
one_silent true false e = absurd (cc)

-- one of the numerators begins with 0
numerators_nought : (qs : List QuantisedView) (p : PlantView) → All IsQuantisedView qs → is_algebraic qs p ≡ false →
    first_of (controller_transfer qs).b *ℤ first_of (plant_transfer p).b ≡ pos 0
numerators_nought qs p all e = elim (one_silent (list_all answers_at_once qs) (int_eq (get_or p.b 0 ratio.zero).num (pos 0)) e) [
  | inl h ↦ ap (λ z. z *ℤ first_of (plant_transfer p).b) (controller_nought qs all h) ∙ nought_left (first_of (plant_transfer p).b)
  | inr h ↦ (ap (λ z. first_of (controller_transfer qs).b *ℤ z) (plant_nought (common (p.b ++ p.a)) p.b (is_nought (get_or p.b 0 ratio.zero).num h))
      ∙ nought_right (first_of (controller_transfer qs).b))
]

-- ---- the lead
first-coefficients : (c p : TransferView) → IsProper c → IsProper p → first_of (loop_coefficients c p) ≡ first_of c.a *ℤ first_of p.a +ℤ first_of c.b *ℤ first_of p.b
first-coefficients c p is_c is_p =
    let a = length-product c.a p.a in
    let some_c = is_c.some in
    let some_p = is_p.some in
    sums-at (product c.a p.a) (product c.b p.b) 0 (omega arith)
    ∙ rw (first-product c.a p.a some_c some_p, first-product c.b p.b (omega (arith, is_c.one_length)) (omega (arith, is_p.one_length))) refl

pub loop_lead : (qs : List QuantisedView) (time : Ratio) (p : PlantView) → All IsQuantisedView qs → IsPlant p → 0 < common (p.b ++ p.a) → loop_test qs time p ≡ Ok tt
    → 0 < lead_size (loop_coefficients (controller_transfer qs) (plant_transfer p))
loop_lead qs time p all is_p positive passed =
    let c = controller_transfer qs in
    let w = plant_transfer p in
    let alone = numerators_nought qs p all (not_algebraic (list_any is_accumulating qs) (is_same_time time p.sample_time) (is_algebraic qs p) passed) in
    let lead : first_of (loop_coefficients c w) ≡ first_of c.a *ℤ first_of w.a =
    first-coefficients c w (controller_proper qs all) (plant_proper p is_p)
    ∙ ap (λ z. first_of c.a *ℤ first_of w.a +ℤ z) alone ∙ +ℤ_idr (first_of c.a *ℤ first_of w.a) in
    rw lead (apart_product (first_of c.a) (first_of w.a) (controller_lead qs all) (plant_lead p.b p.a is_p.some is_p.leading positive))
