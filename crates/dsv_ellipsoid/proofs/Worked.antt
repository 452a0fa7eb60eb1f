-- A resonant filter worked by hand: 1 / (1 - 1.25 z^-1 + 0.765625 z^-2) in words of 6.6, rounded
-- down, with inputs from -82 to 82.
use Rattle.std.proofs.Common.{◌^◌, ◌≡◌, true, false, List, [], ◌∷◌, Some, None, refl, arith}
use Rattle.std.proofs.Math.IntN.{ℤ, pos, negsuc}
use Rattle.std.specs.List.{All}
use Rattle.std.proofs.lemmas.Int.{ints}
use Rattle.std.proofs.lemmas.List.Elements.{All-nil, All-cons}
use Rattle.dsv_word.specs.declared.format.Format.{Format}
use Rattle.dsv_word.specs.Words.{IsWord}
use Rattle.dsv_linear.specs.Forms.{range}
use Rattle.dsv_linear.specs.Known.{is_word}
use Rattle.dsv_linear.proofs.Words.{is_word-true}
use Rattle.dsv_names.specs.declared.rounding.Rounding.TheVariants.{Floor}
use Rattle.dsv_names.specs.declared.overflow_mode.OverflowMode.TheVariants.{Wrap}
use Rattle.dsv_names.specs.declared.realisation.Realisation.TheVariants.{Dfi, Dfii}
use Rattle.dsv_quantiser.specs.QuantisedView.{QuantisedView, IsQuantisedView}
use Rattle.dsv_forms.specs.declared.offers.Squares.{Squares}
use Rattle.dsv_certfile.specs.declared.ellipsoid.Ellipsoid.{Ellipsoid}
use Rattle.dsv_forms.specs.declared.refusal.OfferPart.TheVariants.{Fall}
use Rattle.dsv_forms.specs.declared.refusal.FormRefusal.TheVariants.{Identity}
use Rattle.dsv_ellipsoid.specs.declared.refusal.EllipsoidRefusal.{EllipsoidRefusal}
use Rattle.dsv_ellipsoid.specs.declared.refusal.EllipsoidRefusal.TheVariants as refusal
use Rattle.dsv_ellipsoid.specs.Intervals.{sample_intervals}
use Rattle.dsv_ellipsoid.specs.Disturbance.{disturbance, greatest_disturbance}
use Rattle.dsv_ellipsoid.specs.Good.{IsGood, NeverBreaks}
use Rattle.dsv_ellipsoid.specs.Refusals.{ellipsoid_refusal}
use Rattle.dsv_ellipsoid.proofs.Runs.{never}
use Rattle.dsv_ellipsoid.proofs.Shown.{shown}

-- words from -2048 to 2047
abbrev format_6_6 : Format
format_6_6 = record { int_bits = 6; frac_bits = 6; rounding = Floor; overflow = Wrap; lawful = (omega arith, omega arith, omega arith) }

abbrev resonator : QuantisedView
resonator = record { b = pos 64 ∷ pos 0 ∷ pos 0 ∷ []; a = pos 64 ∷ negsuc 79 ∷ pos 49 ∷ []; delta = pos 0; xlo = negsuc 81; xhi = pos 82; format = format_6_6; realisation = Dfi; wide = false }

-- 7 times the step form is 64 (-40 v1 + 49 v2 + 7 g)^2 + 98304 v1^2
abbrev step_squares : Squares
step_squares = record {
  m = pos 7;
  count = 2;
  weights = pos 64 ∷ pos 98304 ∷ [];
  rows = (negsuc 39 ∷ pos 49 ∷ pos 7 ∷ []) ∷ (pos 1 ∷ pos 0 ∷ pos 0 ∷ []) ∷ [];
  rest = [];
}

-- the first form is (40 v1 - 49 v2)^2
abbrev first_squares : Squares
first_squares = record { m = pos 1; count = 1; weights = pos 1 ∷ []; rows = (pos 40 ∷ negsuc 48 ∷ []) ∷ []; rest = [] }

abbrev offer : Ellipsoid
offer = record {
  form = record { d = 2; rows = (pos 64 ∷ negsuc 39 ∷ []) ∷ (negsuc 39 ∷ pos 49 ∷ []) ∷ [] };
  level = pos 28879876;
  lambda = pos 3584;
  mu = pos 512;
  step = step_squares;
  kappa = pos 1536;
  nu = pos 49;
  bound = pos 959;
  first = first_squares;
}

disturbance_is : disturbance resonator ≡ range (negsuc 5247) (pos 5374)
disturbance_is = refl

greatest_is : greatest_disturbance resonator ≡ pos 5374
greatest_is = refl

-- -82 to 82 comes first, and the last interval is -2014 to 2016
intervals_are : sample_intervals resonator (pos 959) ≡
    range (negsuc 81) (pos 82)
    ∷ range (pos 0) (pos 0) ∷ range (negsuc 81) (pos 82)
    ∷ range (pos 0) (pos 0) ∷ range (negsuc 81) (pos 82)
    ∷ range (negsuc 1198) (pos 1198) ∷ range (negsuc 1279) (pos 1281)
    ∷ range (negsuc 734) (pos 734) ∷ range (negsuc 2013) (pos 2016) ∷ []
intervals_are = refl

-- no test refuses it
accepted : ellipsoid_refusal resonator offer ≡ None
accepted = refl

good : IsGood resonator offer
good = shown resonator offer accepted

words_of : (w : ℤ) → is_word format_6_6 w ≡ true → (ws : List ℤ) → All (IsWord format_6_6) ws → All (IsWord format_6_6) (w ∷ ws)
words_of w e ws h = All-cons (IsWord format_6_6) w ws (is_word-true format_6_6 w e) h

none : All (IsWord format_6_6) []
none = All-nil (IsWord format_6_6)

fixed : IsQuantisedView resonator
fixed = record {
  one_length = refl;
  some = omega arith;
  few = omega arith;
  leading = refl;
  b_words = words_of (pos 64) refl (pos 0 ∷ pos 0 ∷ []) (words_of (pos 0) refl (pos 0 ∷ []) (words_of (pos 0) refl [] none));
  a_words = words_of (negsuc 79) refl (pos 49 ∷ []) (words_of (pos 49) refl [] none);
  delta = refl;
  low = omega (arith, ints);
  order = omega (arith, ints);
  high = omega (arith, ints);
}

never_breaks : NeverBreaks resonator
never_breaks = never resonator offer fixed good

-- ---- offers that are refused, in the order of the refusals; a model in fractions gives the same
abbrev Refuses : QuantisedView → Ellipsoid → EllipsoidRefusal → Type 0
Refuses q o why = ellipsoid_refusal q o ≡ Some why

other_realisation : Refuses (record resonator { realisation = Dfii }) offer refusal.Shape
other_realisation = refl

wide_accumulator : Refuses (record resonator { wide = true }) offer refusal.Shape
wide_accumulator = refl

other_order : Refuses resonator (record offer { form = record { d = 3; rows = offer.form.rows } }) refusal.Shape
other_order = refl

negative_level : Refuses resonator (record offer { level = negsuc 0 }) (refusal.Sign 0)
negative_level = refl

negative_lambda : Refuses resonator (record offer { lambda = negsuc 0 }) (refusal.Sign 1)
negative_lambda = refl

negative_mu : Refuses resonator (record offer { mu = negsuc 0 }) (refusal.Sign 2)
negative_mu = refl

kappa_of_none : Refuses resonator (record offer { kappa = pos 0 }) (refusal.Sign 3)
kappa_of_none = refl

negative_nu : Refuses resonator (record offer { nu = negsuc 0 }) (refusal.Sign 4)
negative_nu = refl

negative_bound : Refuses resonator (record offer { bound = negsuc 0 }) (refusal.Sign 5)
negative_bound = refl

bound_past_words : Refuses resonator (record offer { bound = pos 2048 }) (refusal.Sign 5)
bound_past_words = refl

-- the same filter in words of 24.24, with an input of 2^40 and b_0 of 2^40
abbrev loud : QuantisedView
loud = record resonator {
  b = pos (2 ^ 40) ∷ pos 0 ∷ pos 0 ∷ [];
  a = pos (2 ^ 24) ∷ negsuc 20971519 ∷ pos 12845056 ∷ [];
  xhi = pos (2 ^ 40);
  format = record { int_bits = 24; frac_bits = 24; rounding = Floor; overflow = Wrap; lawful = (omega arith, omega arith, omega arith) };
}

great_disturbance : Refuses loud offer (refusal.Wide 0)
great_disturbance = refl

wide_noise : Refuses resonator (record offer { mu = pos (2 ^ 102) }) (refusal.Wide 1)
wide_noise = refl

wide_decay : Refuses resonator (record offer { lambda = pos (2 ^ 102) }) (refusal.Wide 2)
wide_decay = refl

-- lambda times the level is 2^126 at most, and with mu G^2 more
wide_sum : Refuses resonator (record offer { lambda = pos 2945670256002297789154068800639 }) (refusal.Wide 3)
wide_sum = refl

wide_level : Refuses resonator (record offer { level = pos (2 ^ 114); lambda = pos 1 }) (refusal.Wide 4)
wide_level = refl

wide_reach : Refuses resonator (record offer { nu = pos (2 ^ 102) }) (refusal.Wide 5)
wide_reach = refl

wide_limit : Refuses resonator (record offer { kappa = pos (2 ^ 107) }) (refusal.Wide 6)
wide_limit = refl

wide_entry : Refuses resonator (record offer { form = record { d = 2; rows = (pos (2 ^ 114) ∷ pos 0 ∷ []) ∷ (pos 0 ∷ pos (2 ^ 114) ∷ []) ∷ [] } }) (refusal.Wide 7)
wide_entry = refl

greater_mu : Refuses resonator (record offer { mu = pos 513 }) refusal.Level
greater_mu = refl

other_step_weight : Refuses resonator (record offer { step = record step_squares { weights = pos 65 ∷ pos 98304 ∷ [] } }) (refusal.Step (Identity Fall 0 0))
other_step_weight = refl

other_first_multiple : Refuses resonator (record offer { first = record first_squares { m = pos 2 } }) (refusal.First (Identity Fall 0 0))
other_first_multiple = refl

smaller_bound : Refuses resonator (record offer { bound = pos 958 }) refusal.Bound
smaller_bound = refl

-- in words of 5.6, from -1024 to 1023
abbrev narrower : QuantisedView
narrower = record resonator { format = record { int_bits = 5; frac_bits = 6; rounding = Floor; overflow = Wrap; lawful = (omega arith, omega arith, omega arith) } }

interval_past_words : Refuses narrower offer (refusal.Interval 5 (negsuc 1198) (pos 1198))
interval_past_words = refl

-- and so they show nothing
smaller_not_good : IsGood resonator (record offer { bound = pos 958 }) → ⊥
smaller_not_good g = absurd (omega (arith, ints, g.far))

greater_not_good : IsGood resonator (record offer { mu = pos 513 }) → ⊥
greater_not_good g = absurd (omega (arith, ints, g.falls))
