-- The loop of a controller with its plant, closed by negative unit feedback.
--
-- The controller is A u = B e, the plant a y = b u, and e = -y, where A, B, a and b have their
-- coefficients in powers of z^-1. So (A a + B b) y = 0: these are the coefficients of the loop.
-- Times a power of z they are a polynomial, the coefficient of its highest power first. A
-- controller is one section or several in series, whose fractions are multiplied.
use Rattle.std.specs.Prelude.{◌≡◌, ℕ, suc, ◌+◌, ◌-◌, ◌==◌, ◌&&◌, not, nat_lt, Bool, true, false}
use Rattle.std.specs.Prelude.{if◌then◌else◌, List, [], ◌∷◌, ◌++◌, length, map, slice_index_or}
use Rattle.std.specs.Prelude.{Result, Ok, Err}
use Rattle.std.specs.Prelude.{ℤ, pos, ◌+ℤ◌, ◌*ℤ◌}
use Rattle.std.specs.List.{range_with_len, list_any, list_all}
use Rattle.std.specs.Ordering.{int_eq}
use Rattle.std.specs.Int.{int_div_euclid}
use Rattle.std.specs.Int.RustNames.{unsigned_abs}
use Rattle.dsv_text.specs.Stages.{◌>>=◌}
use Rattle.dsv_algebra.specs.Gcd.{gcd}
use Rattle.dsv_algebra.specs.Vectors.{vector_of, sum_to}
use Rattle.dsv_fraction.specs.Ratio.{Ratio}
use Rattle.dsv_fraction.specs.Ratio as ratio
use Rattle.dsv_names.specs.Realisations.{is_delta}
use Rattle.dsv_names.specs.declared.realisation.Realisation.{Realisation}
use Rattle.dsv_names.specs.declared.realisation.Realisation.TheVariants as realisation
use Rattle.dsv_delta.specs.Deltas.{common, numerators}
use Rattle.dsv_delta.specs.ZCoefficients.{Dyadic, dyadic, scaled, z_coefficient}
use Rattle.dsv_quantiser.specs.QuantisedView.{QuantisedView}
use Rattle.dsv_reader.specs.Plants.{PlantView}
use Rattle.dsv_tested.specs.Tested.{with_positive_lead}
use Rattle.dsv_loop.specs.declared.refusal.LoopRefusal.{LoopRefusal}
use Rattle.dsv_loop.specs.declared.refusal.LoopRefusal.TheVariants as refusal
use Rattle.dsv_loop.specs.declared.refusal.LoopStop.{LoopStop}
use Rattle.dsv_loop.specs.declared.refusal.LoopStop.TheVariants as stop

-- ---- products and sums of lists
-- the coefficient of z^-k of the product of two lists
abbrev pub product_at : List ℤ → List ℤ → ℕ → ℤ
product_at fs gs k = sum_to (suc k) (λ i. vector_of fs i *ℤ vector_of gs (k - i))

-- the product of two lists of coefficients of 1, z^-1, ..
abbrev pub product : List ℤ → List ℤ → List ℤ
product fs gs = map (product_at fs gs) (range_with_len 0 (length fs + length gs - 1))

-- the sum of two such lists of one length
abbrev pub sums : List ℤ → List ℤ → List ℤ
sums fs gs = map (λ k. vector_of fs k +ℤ vector_of gs k) (range_with_len 0 (length fs))

-- ---- both sides in whole numbers
-- the transfer function b / a with whole coefficients of 1, z^-1, ..
pub record TransferView : Type 0 where
  pub b : List ℤ
  pub a : List ℤ

-- what a list of words in the delta operator stands for, times a power of delta's numerator
abbrev pub expanded : Dyadic → List ℤ → List ℤ
expanded delta words =
    map (z_coefficient (length words - 1) (scaled delta (length words - 1) (vector_of words)))
    (range_with_len 0 (length words))

-- The coefficients in z of a section's words: in a direct form the words themselves.
abbrev pub in_z : QuantisedView → List ℤ → List ℤ
in_z q words = if is_delta q.realisation
    then expanded (dyadic (unsigned_abs q.delta) q.format.frac_bits) words else words

-- A section's transfer function. In a delta form both lists stand for what they say times one
-- number, the same power of delta's numerator, since they have one length.
abbrev pub section_transfer : QuantisedView → TransferView
section_transfer q = record { b = in_z q q.b; a = in_z q q.a }

-- two transfer functions in series
abbrev pub in_series : TransferView → TransferView → TransferView
in_series f g = record { b = product f.b g.b; a = product f.a g.a }

-- a controller's transfer function: that of its sections in series
abbrev pub controller_transfer : List QuantisedView → TransferView
controller_transfer [] = record { b = pos 1 ∷ []; a = pos 1 ∷ [] }
controller_transfer (q ∷ qs) = in_series (section_transfer q) (controller_transfer qs)

-- the plant's coefficients times the least common multiple of all their denominators
abbrev pub plant_transfer : PlantView → TransferView
plant_transfer p =
    let l = common (p.b ++ p.a) in
    record { b = numerators l p.b; a = numerators l p.a }

-- ---- their polynomial
-- the loop's coefficients, A a + B b
abbrev pub loop_coefficients : TransferView → TransferView → List ℤ
loop_coefficients c p = sums (product c.a p.a) (product c.b p.b)

-- the greatest number that divides this one and all of the list's
abbrev pub factor_with : ℕ → List ℤ → ℕ
factor_with g [] = g
factor_with g (c ∷ cs) = factor_with (gcd g (unsigned_abs c)) cs

-- the numbers divided by the greatest number that divides them all
abbrev pub without_common_factor : List ℤ → List ℤ
without_common_factor cs = map (λ c. int_div_euclid c (pos (factor_with 0 cs))) cs

-- without the common factor and with a positive lead
abbrev pub loop_polynomial_of : TransferView → TransferView → List ℤ
loop_polynomial_of c p = with_positive_lead (without_common_factor (loop_coefficients c p))

-- ---- the loop
-- a realisation whose first registers add up its inputs, and that no output feeds back
abbrev pub adds_up_inputs : Realisation → Bool
adds_up_inputs realisation.Dfi = false
adds_up_inputs realisation.Dfii = false
adds_up_inputs realisation.Tdfii = false
adds_up_inputs realisation.Ddfi = true
adds_up_inputs realisation.Ddfii = false
adds_up_inputs realisation.Tddfii = false

-- The section has such registers. Each of them is a pole of the loop at 1, which A a + B b
-- doesn't have.
abbrev pub is_accumulating : QuantisedView → Bool
is_accumulating q = adds_up_inputs q.realisation && nat_lt 1 (length q.a)

abbrev pub is_same_time : Ratio → Ratio → Bool
is_same_time s t = int_eq s.num t.num && s.den == t.den

-- a section that answers an input at once
abbrev pub answers_at_once : QuantisedView → Bool
answers_at_once q = not (int_eq (vector_of q.b 0) (pos 0))

-- Both sides answer an input at once, so that each would have to know the other's answer first.
-- If one of them doesn't, the loop's lead is A_0 a_0, which isn't 0.
abbrev pub is_algebraic : List QuantisedView → PlantView → Bool
is_algebraic qs p = list_all answers_at_once qs
    && not (int_eq (slice_index_or p.b 0 ratio.zero).num (pos 0))

-- whether the controller with these sections, which runs with this sample time, and the plant have
-- a loop
abbrev pub loop_test : List QuantisedView → Ratio → PlantView → Result (Unit {0}) LoopRefusal
loop_test qs time p =
    if list_any is_accumulating qs then Err refusal.Realisation
    else (if not (is_same_time time p.sample_time) then Err refusal.SampleTimes
    else (if is_algebraic qs p then Err refusal.Algebraic
    else Ok tt))

-- the polynomial of the loop, or why there is none
abbrev pub loop_of : List QuantisedView → Ratio → PlantView → Result (List ℤ) LoopRefusal
loop_of qs time p = loop_test qs time p
    >>= λ u. Ok (loop_polynomial_of (controller_transfer qs) (plant_transfer p))

-- what a call gives: the polynomial, or why there is none, unless there was no memory
abbrev pub IsLoop : Result (List ℤ) LoopRefusal → Result (List ℤ) LoopStop → Type 0
IsLoop meant (Ok cs) = meant ≡ Ok cs
IsLoop meant (Err (stop.Refused refusal)) = meant ≡ Err refusal
IsLoop meant (Err stop.NoMemory) = Unit {0}
