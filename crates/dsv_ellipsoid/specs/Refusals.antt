-- Why an ellipsoid isn't accepted: the tests of the check in their order.
use Rattle.std.specs.Prelude.{ℕ, suc, ◌+◌, ◌^◌, Bool, true, false, not, ◌||◌, ◌==◌, nat_lt, int_lt}
use Rattle.std.specs.Prelude.{List, [], ◌∷◌, ◌++◌, map, Option}
use Rattle.std.specs.Prelude.{ℤ, pos, ◌+ℤ◌, ◌*ℤ◌}
use Rattle.dsv_algebra.specs.Narrow.{is_narrow}
use Rattle.dsv_algebra.specs.Vectors.{vector_of}
use Rattle.dsv_names.specs.declared.realisation.Realisation.{Realisation}
use Rattle.dsv_names.specs.declared.realisation.Realisation.TheVariants as realisation
use Rattle.dsv_word.specs.declared.format.Format.{Format}
use Rattle.dsv_word.specs.Words.{width, hi}
use Rattle.dsv_quantiser.specs.QuantisedView.{QuantisedView, unit}
use Rattle.dsv_meaning.specs.Equations.{order}
use Rattle.dsv_linear.specs.declared.range.Range.{Range}
use Rattle.dsv_linear.specs.Known.{are_words}
use Rattle.dsv_forms.specs.declared.refusal.OfferPart.TheVariants as part
use Rattle.dsv_forms.specs.Refusals as forms
use Rattle.dsv_forms.specs.Refusals.{first_of}
use Rattle.dsv_certfile.specs.declared.ellipsoid.Ellipsoid.{Ellipsoid}
use Rattle.dsv_ellipsoid.specs.declared.refusal.EllipsoidRefusal.{EllipsoidRefusal}
use Rattle.dsv_ellipsoid.specs.declared.refusal.EllipsoidRefusal.TheVariants as refusal
use Rattle.dsv_ellipsoid.specs.Intervals.{sample_intervals}
use Rattle.dsv_ellipsoid.specs.Disturbance.{greatest_disturbance}
use Rattle.dsv_ellipsoid.specs.Good.{step_form, first_form}
use Rattle.dsv_ellipsoid.specs.Entries.{step_summands, first_summands, has_wide_entry}

-- a test: whether it refuses, and the refusal that it gives
abbrev pub Test : Type 0
Test = Bool × EllipsoidRefusal

-- ---- the shape
-- the greatest order: the step form has one place more, and a form has at most eight
abbrev pub most_ellipsoid_states : ℕ
most_ellipsoid_states = 7

abbrev pub is_direct : Realisation → Bool
is_direct realisation.Dfi = true
is_direct realisation.Dfii = false
is_direct realisation.Tdfii = false
is_direct realisation.Ddfi = false
is_direct realisation.Ddfii = false
is_direct realisation.Tddfii = false

abbrev pub bad_shape : QuantisedView → Ellipsoid → Bool
bad_shape q o = not (is_direct q.realisation) || q.wide || order q == 0
    || nat_lt most_ellipsoid_states (order q) || forms.bad_form (order q) o.form

-- ---- signs
abbrev pub sign_tests : QuantisedView → Ellipsoid → List Test
sign_tests q o =
    (int_lt o.level (pos 0), refusal.Sign 0)
    ∷ (int_lt o.lambda (pos 0), refusal.Sign 1)
    ∷ (int_lt o.mu (pos 0), refusal.Sign 2)
    ∷ (int_lt o.kappa (pos 1), refusal.Sign 3)
    ∷ (int_lt o.nu (pos 0), refusal.Sign 4)
    ∷ (int_lt o.bound (pos 0) || int_lt (hi (width q.format)) o.bound, refusal.Sign 5) ∷ []

-- ---- sizes
-- the greatest size of the disturbance is to be less
abbrev pub disturbance_limit : ℕ
disturbance_limit = 2 ^ 63

abbrev pub noise : QuantisedView → Ellipsoid → ℤ
noise q o = o.mu *ℤ (greatest_disturbance q *ℤ greatest_disturbance q)

-- the greatest level after a step, times 2^(2f)
abbrev pub level_after : QuantisedView → Ellipsoid → ℤ
level_after q o = o.lambda *ℤ o.level +ℤ noise q o

abbrev pub level_before : QuantisedView → Ellipsoid → ℤ
level_before q o = unit q.format *ℤ unit q.format *ℤ o.level

-- the square of the least size over the bound
abbrev pub square_past : Ellipsoid → ℤ
square_past o = (o.bound +ℤ pos 1) *ℤ (o.bound +ℤ pos 1)

abbrev pub wide_test : ℤ → ℕ → Test
wide_test z place = (not (is_narrow z), refusal.Wide place)

abbrev pub size_tests : QuantisedView → Ellipsoid → List Test
size_tests q o =
    (not (int_lt (greatest_disturbance q) (pos disturbance_limit)), refusal.Wide 0)
    ∷ wide_test (greatest_disturbance q *ℤ greatest_disturbance q) 1
    ∷ wide_test (noise q o) 1
    ∷ wide_test (o.lambda *ℤ o.level) 2
    ∷ wide_test (level_after q o) 3
    ∷ wide_test (level_before q o) 4
    ∷ wide_test (o.nu *ℤ o.level) 5
    ∷ wide_test (square_past o) 6
    ∷ wide_test (o.kappa *ℤ square_past o) 6 ∷ []

abbrev pub entry_tests : QuantisedView → Ellipsoid → List Test
entry_tests q o = (
  has_wide_entry (suc (order q)) (step_summands (order q) (vector_of q.a) o)
      || has_wide_entry (order q) (first_summands o),
  refusal.Wide 7,
) ∷ []

-- ---- what the squares show
abbrev pub step_tests : QuantisedView → Ellipsoid → List Test
step_tests q o = map (λ t. (t.0, refusal.Step t.1))
    (forms.semidefinite_tests part.Fall (suc (order q)) o.step
    (step_form (order q) (vector_of q.a) o) (λ i j. []))

abbrev pub first_tests : QuantisedView → Ellipsoid → List Test
first_tests q o = map (λ t. (t.0, refusal.First t.1))
    (forms.semidefinite_tests part.Fall (order q) o.first (first_form o) (λ i j. []))

-- ---- intervals
-- the exact values from one number on are to have intervals within the words
abbrev pub interval_tests : Format → ℕ → List Range → List Test
interval_tests f value [] = []
interval_tests f value (r ∷ rs) = (not (are_words f r), refusal.Interval value r.low r.high)
    ∷ interval_tests f (value + 1) rs

-- ---- all tests, in their order
-- those after the numbers that are too wide
abbrev pub claim_tests : QuantisedView → Ellipsoid → List Test
claim_tests q o =
    (int_lt (level_before q o) (level_after q o), refusal.Level)
    ∷ step_tests q o
    ++ (first_tests q o
    ++ ((not (int_lt (o.nu *ℤ o.level) (o.kappa *ℤ square_past o)), refusal.Bound)
    ∷ interval_tests q.format 0 (sample_intervals q o.bound)))

abbrev pub ellipsoid_tests : QuantisedView → Ellipsoid → List Test
ellipsoid_tests q o = (bad_shape q o, refusal.Shape)
    ∷ sign_tests q o ++ (size_tests q o ++ (entry_tests q o ++ claim_tests q o))

-- why an offer isn't accepted for the controller
abbrev pub ellipsoid_refusal : QuantisedView → Ellipsoid → Option EllipsoidRefusal
ellipsoid_refusal q o = first_of (ellipsoid_tests q o)
