-- What an offer shows that no test refuses.
use Rattle.std.proofs.Common.{◌≡◌, ℕ, suc, ◌+◌, ◌<◌, ◌≤◌, true, false, not, ◌||◌, ◌==◌, nat_lt, int_lt, List, [], ◌∷◌, ◌++◌, map, Option, Some, None, Result, Ok, Err, refl, sym, ap, ◌∙◌, arith}
use Rattle.std.specs.Prelude.{IfOk, OnOk}
use Rattle.std.specs.List.{All}
use Rattle.std.specs.Option.{option_map}
use Rattle.std.proofs.Math.IntN.{pos, ◌*ℤ◌}
use Rattle.std.proofs.lemmas.Bool.Decides.{nat_tests}
use Rattle.std.proofs.lemmas.List.Elements.{All-nil, All-cons}
use Rattle.dsv_algebra.specs.Vectors.{Vector, Matrix, form_at, vector_of, matrix_of}
use lib.Signed.{◌≤ℤ◌}
use Rattle.dsv_names.specs.declared.realisation.Realisation.{Realisation}
use Rattle.dsv_names.specs.declared.realisation.Realisation.TheVariants as realisation
use Rattle.dsv_word.specs.declared.format.Format.{Format}
use Rattle.dsv_word.specs.Words.{width, hi}
use Rattle.dsv_quantiser.specs.QuantisedView.{QuantisedView, IsQuantisedView}
use Rattle.dsv_meaning.specs.Equations.{order}
use Rattle.dsv_linear.specs.declared.range.Range.{Range}
use Rattle.dsv_linear.specs.Known.{are_words}
use Rattle.dsv_forms.specs.declared.offers.Form.{Form}
use Rattle.dsv_forms.specs.declared.offers.Squares.{Squares}
use Rattle.dsv_forms.specs.declared.refusal.FormRefusal.{FormRefusal}
use Rattle.dsv_forms.specs.declared.refusal.OfferPart.TheVariants as part
use Rattle.dsv_forms.specs.Refusals as forms
use Rattle.dsv_algebra.proofs.KeptAway.{shown_not_negative}
use Rattle.dsv_forms.proofs.Places.{neither_test, not_false}
use Rattle.dsv_forms.proofs.Shown.{less, less_not, shows_not_negative, symmetric_at, symmetric_is}
use Rattle.dsv_certfile.specs.declared.ellipsoid.Ellipsoid.{Ellipsoid}
use Rattle.dsv_ellipsoid.specs.declared.refusal.EllipsoidRefusal.{EllipsoidRefusal}
use Rattle.dsv_ellipsoid.specs.declared.refusal.EllipsoidRefusal.TheVariants as refusal
use Rattle.dsv_ellipsoid.specs.Intervals.{AreWords, sample_intervals}
use Rattle.dsv_ellipsoid.specs.Good.{form_of, step_form, first_form, IsGood, NeverBreaks, StaysKept}
use Rattle.dsv_forms.specs.Refusals.{first_of, refusal_of}
use Rattle.dsv_ellipsoid.specs.Refusals.{Test, most_ellipsoid_states, is_direct, bad_shape, sign_tests, level_after, level_before, square_past, size_tests, entry_tests, step_tests, first_tests, interval_tests, claim_tests, ellipsoid_refusal}
use Rattle.dsv_ellipsoid.specs.Stages.{IsShaped, HasBound, StandsFor}
use Rattle.dsv_forms.proofs.Places.{neither, first_of-append, first_before, passes}
use Rattle.dsv_ellipsoid.proofs.FirstTests.{test_stops, test_passes, tests_stop, tests_pass}
use Rattle.dsv_ellipsoid.proofs.Runs.{keeps, never}
use Rattle.dsv_ellipsoid.proofs.SizeLemmas.{ends_are_words}
use Rattle.dsv_ellipsoid.proofs.StepEntries.{step_turned, first_turned}

-- ---- the shape
direct_is : (k : Realisation) → is_direct k ≡ true → k ≡ realisation.Dfi
direct_is realisation.Dfi h = refl
direct_is realisation.Dfii h = cc
direct_is realisation.Tdfii h = cc
direct_is realisation.Ddfi h = cc
direct_is realisation.Ddfii h = cc
direct_is realisation.Tddfii h = cc

not_none : (n : ℕ) → (n == 0) ≡ false → 1 ≤ n
not_none n h = grind (arith, nat_tests)

not_many : (n : ℕ) → nat_lt most_ellipsoid_states n ≡ false → n ≤ most_ellipsoid_states
not_many n h = grind (arith, nat_tests)

pub shaped : (q : QuantisedView) (o : Ellipsoid) → bad_shape q o ≡ false → IsShaped q o
shaped q o h =
    let d = order q in
    let a = neither_test (not (is_direct q.realisation) || q.wide || d == 0 || nat_lt most_ellipsoid_states d) (forms.bad_form d o.form) h in
    let b = neither_test (not (is_direct q.realisation) || q.wide || d == 0) (nat_lt most_ellipsoid_states d) a.0 in
    let c = neither_test (not (is_direct q.realisation) || q.wide) (d == 0) b.0 in
    let e = neither_test (not (is_direct q.realisation)) q.wide c.0 in
    let f = neither_test (not (o.form.d == d)) (not (forms.is_symmetric d (form_of o))) a.1 in
    record {
      direct = direct_is q.realisation (not_false (is_direct q.realisation) e.0);
      narrow = e.1;
      some = not_none d c.1;
      few = not_many d b.1;
      symmetric = not_false (forms.is_symmetric d (form_of o)) f.1;
    }

-- ---- squares
pub first_of-mapped : (f : FormRefusal → EllipsoidRefusal) (ts : List forms.Test) → first_of (map (λ (t : forms.Test). (t.0, f t.1)) ts) ≡ option_map f (forms.first_of ts)
first_of-mapped f [] = refl
first_of-mapped f ((true, r) ∷ ts) = refl
first_of-mapped f ((false, r) ∷ ts) = first_of-mapped f ts

none_mapped : (f : FormRefusal → EllipsoidRefusal) (o : Option FormRefusal) → option_map f o ≡ None → o ≡ None
none_mapped f None h = refl
none_mapped f (Some r) h = cc

squares_show : (f : FormRefusal → EllipsoidRefusal) (n : ℕ) (s : Squares) (T : Matrix) → ((i j : ℕ) → i < n → j < n → T i j ≡ T j i)
    → first_of (map (λ (t : forms.Test). (t.0, f t.1)) (forms.semidefinite_tests part.Fall n s T (λ i j. []))) ≡ None → (v : Vector) → pos 0 ≤ℤ form_at n T v
squares_show f n s T turned h v =
    let ts = forms.semidefinite_tests part.Fall n s T (λ i j. []) in
    let none = none_mapped f (forms.first_of ts) (sym (first_of-mapped f ts) ∙ h) in
    shown_not_negative n T v (shows_not_negative part.Fall n s T (symmetric_is n T turned) none)

-- ---- intervals
pub words_inside : (f : Format) (value : ℕ) (rs : List Range) → first_of (interval_tests f value rs) ≡ None → All (AreWords f) rs
words_inside f value [] h = All-nil (AreWords f)
words_inside f value (r ∷ rs) h =
    let why = refusal.Interval value r.low r.high in
    let later = interval_tests f (value + 1) rs in
    let both = neither (first_of ((not (are_words f r), why) ∷ [])) (first_of later) (sym (first_before (not (are_words f r)) why later) ∙ h) in
    All-cons (AreWords f) r rs (ends_are_words f r (not_false (are_words f r) (passes (not (are_words f r)) why both.0))) (words_inside f (value + 1) rs both.1)

-- ---- the tests, one by one
test_and : (t : Test) (ts : List Test) → first_of (t ∷ ts) ≡ None → (t.0 ≡ false) × (first_of ts ≡ None)
test_and (true, r) ts h = cc
test_and (false, r) ts h = (refl, h)

tests_and : (xs ys : List Test) → first_of (xs ++ ys) ≡ None → (first_of xs ≡ None) × (first_of ys ≡ None)
tests_and xs ys h = neither (first_of xs) (first_of ys) (sym (first_of-append xs ys) ∙ h)

record HasSigns (q : QuantisedView) (o : Ellipsoid) : Type 0 where
  level : pos 0 ≤ℤ o.level
  lambda : pos 0 ≤ℤ o.lambda
  mu : pos 0 ≤ℤ o.mu
  kappa : pos 1 ≤ℤ o.kappa
  nu : pos 0 ≤ℤ o.nu
  bound_low : pos 0 ≤ℤ o.bound
  bound_high : o.bound ≤ℤ hi (width q.format)

signs : (q : QuantisedView) (o : Ellipsoid) → first_of (sign_tests q o) ≡ None → HasSigns q o
signs q o h =
    let bounds : List Test = (int_lt o.bound (pos 0) || int_lt (hi (width q.format)) o.bound, refusal.Sign 5) ∷ [] in
    let nus : List Test = (int_lt o.nu (pos 0), refusal.Sign 4) ∷ bounds in
    let kappas : List Test = (int_lt o.kappa (pos 1), refusal.Sign 3) ∷ nus in
    let mus : List Test = (int_lt o.mu (pos 0), refusal.Sign 2) ∷ kappas in
    let lambdas : List Test = (int_lt o.lambda (pos 0), refusal.Sign 1) ∷ mus in
    let a = test_and (int_lt o.level (pos 0), refusal.Sign 0) lambdas h in
    let b = test_and (int_lt o.lambda (pos 0), refusal.Sign 1) mus a.1 in
    let c = test_and (int_lt o.mu (pos 0), refusal.Sign 2) kappas b.1 in
    let d = test_and (int_lt o.kappa (pos 1), refusal.Sign 3) nus c.1 in
    let e = test_and (int_lt o.nu (pos 0), refusal.Sign 4) bounds d.1 in
    let f = test_and (int_lt o.bound (pos 0) || int_lt (hi (width q.format)) o.bound, refusal.Sign 5) [] e.1 in
    let bound = neither_test (int_lt o.bound (pos 0)) (int_lt (hi (width q.format)) o.bound) f.0 in
    record {
      level = less_not o.level (pos 0) a.0;
      lambda = less_not o.lambda (pos 0) b.0;
      mu = less_not o.mu (pos 0) c.0;
      kappa = less_not o.kappa (pos 1) d.0;
      nu = less_not o.nu (pos 0) e.0;
      bound_low = less_not o.bound (pos 0) bound.0;
      bound_high = less_not (hi (width q.format)) o.bound bound.1;
    }

-- an offer that no test refuses is good
pub shown : (q : QuantisedView) (o : Ellipsoid) → ellipsoid_refusal q o ≡ None → IsGood q o
shown q o h =
    let shape = test_and (bad_shape q o, refusal.Shape) (sign_tests q o ++ (size_tests q o ++ (entry_tests q o ++ claim_tests q o))) h in
    let s = shaped q o shape.0 in
    let sign = tests_and (sign_tests q o) (size_tests q o ++ (entry_tests q o ++ claim_tests q o)) shape.1 in
    let g = signs q o sign.0 in
    let size = tests_and (size_tests q o) (entry_tests q o ++ claim_tests q o) sign.1 in
    let entry = tests_and (entry_tests q o) (claim_tests q o) size.1 in
    let late = interval_tests q.format 0 (sample_intervals q o.bound) in
    let last : Test = (not (int_lt (o.nu *ℤ o.level) (o.kappa *ℤ square_past o)), refusal.Bound) in
    let level = test_and (int_lt (level_before q o) (level_after q o), refusal.Level) (step_tests q o ++ (first_tests q o ++ (last ∷ late))) entry.1 in
    let step = tests_and (step_tests q o) (first_tests q o ++ (last ∷ late)) level.1 in
    let first = tests_and (first_tests q o) (last ∷ late) step.1 in
    let bound = test_and last late first.1 in
    let even = symmetric_at (order q) (form_of o) s.symmetric in
    record {
      direct = s.direct;
      narrow = s.narrow;
      some = s.some;
      level = g.level;
      lambda = g.lambda;
      mu = g.mu;
      kappa = g.kappa;
      nu = g.nu;
      bound_low = g.bound_low;
      bound_high = g.bound_high;
      falls = less_not (level_before q o) (level_after q o) level.0;
      step = squares_show refusal.Step (suc (order q)) o.step (step_form (order q) (vector_of q.a) o) (step_turned (order q) (vector_of q.a) o even) step.0;
      first = squares_show refusal.First (order q) o.first (first_form o) (first_turned (order q) o even) first.0;
      far = less (o.nu *ℤ o.level) (o.kappa *ℤ square_past o) (not_false (int_lt (o.nu *ℤ o.level) (o.kappa *ℤ square_past o)) bound.0);
      inside = words_inside q.format 0 (sample_intervals q o.bound) bound.1;
    }

-- ---- what the stages of the check hand on

pub bound_where : (r : Result (Unit {0}) EllipsoidRefusal) (q : QuantisedView) (o : Ellipsoid) → refusal_of r ≡ first_of (sign_tests q o) → OnOk r (HasBound q o)
bound_where (Ok x) q o h = let g = signs q o (sym h) in record { low = g.bound_low; high = g.bound_high }
bound_where (Err e) q o h = tt

-- the squares of a form that stands for what is tested
pub squares_same : (r : Result (Unit {0}) EllipsoidRefusal) (f : FormRefusal → EllipsoidRefusal) (n : ℕ) (T : Matrix) (F : Form) (s : Squares) → StandsFor n T F
    → refusal_of r ≡ option_map f (forms.first_of (forms.semidefinite_tests part.Fall F.d s (matrix_of F.rows) (λ i j. [])))
    → refusal_of r ≡ first_of (map (λ (t : forms.Test). (t.0, f t.1)) (forms.semidefinite_tests part.Fall n s T (λ i j. [])))
squares_same r f n T F s w h =
    h ∙ ap (λ k. option_map f (forms.first_of (forms.semidefinite_tests part.Fall k s (matrix_of F.rows) (λ i j. [])))) w.places
    ∙ ap (option_map f) (w.tests s) ∙ sym (first_of-mapped f (forms.semidefinite_tests part.Fall n s T (λ i j. [])))

-- ---- what an accepted offer shows
pub good_where : (r : Result (Unit {0}) EllipsoidRefusal) (q : QuantisedView) (o : Ellipsoid) → refusal_of r ≡ ellipsoid_refusal q o → IfOk r (λ x. IsGood q o)
good_where (Ok x) q o h = shown q o (sym h)
good_where (Err e) q o h = tt

pub never_where : (r : Result (Unit {0}) EllipsoidRefusal) (q : QuantisedView) (o : Ellipsoid) → IsQuantisedView q → refusal_of r ≡ ellipsoid_refusal q o → IfOk r (λ x. NeverBreaks q)
never_where (Ok x) q o fixed h = never q o fixed (shown q o (sym h))
never_where (Err e) q o fixed h = tt

pub kept_where : (r : Result (Unit {0}) EllipsoidRefusal) (q : QuantisedView) (o : Ellipsoid) → IsQuantisedView q → refusal_of r ≡ ellipsoid_refusal q o → IfOk r (λ x. StaysKept q o)
kept_where (Ok x) q o fixed h = keeps q o fixed (shown q o (sym h))
kept_where (Err e) q o fixed h = tt

pub ruleset accepted_offers = (good_where, never_where, kept_where)

-- ---- the tests in the code's stages
abbrev bound_test : QuantisedView → Ellipsoid → Test
bound_test q o = (not (int_lt (o.nu *ℤ o.level) (o.kappa *ℤ square_past o)), refusal.Bound)

abbrev late_tests : QuantisedView → Ellipsoid → List Test
late_tests q o = interval_tests q.format 0 (sample_intervals q o.bound)

abbrev level_test : QuantisedView → Ellipsoid → Test
level_test q o = (int_lt (level_before q o) (level_after q o), refusal.Level)

pub step_stops : (q : QuantisedView) (o : Ellipsoid) (e : EllipsoidRefusal) → first_of (level_test q o ∷ []) ≡ None → first_of (step_tests q o) ≡ Some e → first_of (claim_tests q o) ≡ Some e
step_stops q o e a b =
    let rest = first_tests q o ++ (bound_test q o ∷ late_tests q o) in
    test_passes (level_test q o) (step_tests q o ++ rest) a ∙ tests_stop (step_tests q o) rest e b

after_step : (q : QuantisedView) (o : Ellipsoid) → first_of (level_test q o ∷ []) ≡ None → first_of (step_tests q o) ≡ None
    → first_of (claim_tests q o) ≡ first_of (first_tests q o ++ (bound_test q o ∷ late_tests q o))
after_step q o a b =
    let rest = first_tests q o ++ (bound_test q o ∷ late_tests q o) in
    test_passes (level_test q o) (step_tests q o ++ rest) a ∙ tests_pass (step_tests q o) rest b

pub first_stops : (q : QuantisedView) (o : Ellipsoid) (e : EllipsoidRefusal) → first_of (level_test q o ∷ []) ≡ None → first_of (step_tests q o) ≡ None → first_of (first_tests q o) ≡ Some e → first_of (claim_tests q o) ≡ Some e
first_stops q o e a b c = after_step q o a b ∙ tests_stop (first_tests q o) (bound_test q o ∷ late_tests q o) e c

after_first : (q : QuantisedView) (o : Ellipsoid) → first_of (level_test q o ∷ []) ≡ None → first_of (step_tests q o) ≡ None → first_of (first_tests q o) ≡ None
    → first_of (claim_tests q o) ≡ first_of (bound_test q o ∷ late_tests q o)
after_first q o a b c = after_step q o a b ∙ tests_pass (first_tests q o) (bound_test q o ∷ late_tests q o) c

pub bound_stops : (q : QuantisedView) (o : Ellipsoid) (e : EllipsoidRefusal) → first_of (level_test q o ∷ []) ≡ None → first_of (step_tests q o) ≡ None → first_of (first_tests q o) ≡ None → first_of (bound_test q o ∷ []) ≡ Some e → first_of (claim_tests q o) ≡ Some e
bound_stops q o e a b c d = after_first q o a b c ∙ test_stops (bound_test q o) (late_tests q o) e d

pub claims_pass : (q : QuantisedView) (o : Ellipsoid) → first_of (level_test q o ∷ []) ≡ None → first_of (step_tests q o) ≡ None → first_of (first_tests q o) ≡ None → first_of (bound_test q o ∷ []) ≡ None → first_of (claim_tests q o) ≡ first_of (late_tests q o)
claims_pass q o a b c d = after_first q o a b c ∙ test_passes (bound_test q o) (late_tests q o) d

pub early_pass : (q : QuantisedView) (o : Ellipsoid) → first_of ((bad_shape q o, refusal.Shape) ∷ []) ≡ None → first_of (sign_tests q o) ≡ None → first_of (size_tests q o) ≡ None → first_of (entry_tests q o) ≡ None
    → ellipsoid_refusal q o ≡ first_of (claim_tests q o)
early_pass q o a b c d =
    let sized = entry_tests q o ++ claim_tests q o in
    let signed = size_tests q o ++ sized in
    test_passes (bad_shape q o, refusal.Shape) (sign_tests q o ++ signed) a ∙ tests_pass (sign_tests q o) signed b ∙ tests_pass (size_tests q o) sized c ∙ tests_pass (entry_tests q o) (claim_tests q o) d
