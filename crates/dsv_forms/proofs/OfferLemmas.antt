-- What accepted offers show, and which offers are refused.
use Rattle.std.proofs.Common.{◌≡◌, ◌≢◌, ℕ, zero, suc, ◌-◌, ◌<◌, ◌≤◌, length, Bool, true, false, not, ◌==◌, int_lt, List, [], ◌∷◌, ◌++◌, Option, None, Result, Ok, Err, IfOk, inl, inr, refl, sym, ap, ◌∙◌, arith}
use Rattle.std.proofs.Math.IntN.{ℤ, pos, ◌*ℤ◌}
use Rattle.std.proofs.lemmas.Int.{ints}
use Rattle.std.proofs.lemmas.Bool.{cases_lt}
use lib.Signed.{◌<ℤ◌, ◌≤ℤ◌}
use Rattle.dsv_algebra.specs.Narrow.{is_narrow}
use Rattle.dsv_algebra.specs.Vectors.{Vector, Matrix, form_at, matrix_of, vector_of, IsNotZero}
use Rattle.dsv_algebra.specs.Falling.{StrictlyFalls, fall_form}
use Rattle.dsv_algebra.specs.Companion.{companion, companion_fall_form, fall_entry, StrictlyFallsAlong, IsKeptAwayAlong}
use Rattle.dsv_algebra.proofs.Congruence.{congruence-turned}
use Rattle.dsv_algebra.proofs.CompanionEntries.{companion_fall_form-is}
use Rattle.dsv_algebra.proofs.Falling.{ShowPositive, shown_positive, strictly_falls}
use Rattle.dsv_algebra.proofs.KeptAway.{ShowNotNegative, shown_not_negative, kept_away}
use Rattle.dsv_forms.specs.declared.offers.Form.{Form}
use Rattle.dsv_forms.specs.declared.offers.Squares.{Squares}
use Rattle.dsv_forms.specs.declared.offers.Falls.{Falls}
use Rattle.dsv_forms.specs.declared.offers.KeptAway.{KeptAway}
use Rattle.dsv_forms.specs.declared.refusal.OfferPart.{OfferPart}
use Rattle.dsv_forms.specs.declared.refusal.OfferPart.TheVariants as part
use Rattle.dsv_forms.specs.declared.refusal.FormRefusal.{FormRefusal}
use Rattle.dsv_forms.specs.declared.refusal.FormRefusal.TheVariants as refusal
use Rattle.dsv_forms.specs.FallForm.{IsFallForm}
use Rattle.dsv_forms.specs.Refusals.{first_of, refusal_of, any_wide, is_symmetric, bad_rest, bad_shape, side_tests, positive_weight_tests, triangle_tests, dominance_tests, definite_tests, too_many_rows, weak_weight_tests, semidefinite_tests, bad_form, form_tests, fall_numbers, falls_tests, start_tests, kept_away_tests}
use Rattle.dsv_forms.specs.Sums.{or_too_wide, IsFallOrWide}
use Rattle.dsv_forms.proofs.Places.{or_else, neither, neither_test, not_false, passes, first_before, first_of-append}
use Rattle.dsv_forms.proofs.SumLemmas.{unless}
use Rattle.dsv_forms.proofs.Shown.{definite_parts, semidefinite_parts, good_rest, same_count, sides_pass, symmetric_at, definite_passes, semidefinite_passes, shows_positive, shows_not_negative}
use Rattle.dsv_forms.proofs.FallLemmas.{wide_left, AreEntriesOrWide, fall_entries, entries_upper, entries_turned, entries_side}
use Rattle.dsv_forms.proofs.Values.{value_negative}

-- ---- what squares show
pub positive_where : {A : Type 0} (r : Result A FormRefusal) (p : OfferPart) (d : ℕ) (s : Squares) (T : Matrix) → is_symmetric d T ≡ true → refusal_of r ≡ first_of (definite_tests p d s T (λ i j. []))
    → IfOk r (λ x. (v : Vector) → IsNotZero d v → pos 0 <ℤ form_at d T v)
positive_where (Ok x) p d s T form h = λ v n. shown_positive d T v (shows_positive p d s T form (sym h)) n
positive_where (Err e) p d s T form h = tt

pub not_negative_where : {A : Type 0} (r : Result A FormRefusal) (p : OfferPart) (d : ℕ) (s : Squares) (T : Matrix) → is_symmetric d T ≡ true → refusal_of r ≡ first_of (semidefinite_tests p d s T (λ i j. []))
    → IfOk r (λ x. (v : Vector) → pos 0 ≤ℤ form_at d T v)
not_negative_where (Ok x) p d s T form h = λ v. shown_not_negative d T v (shows_not_negative p d s T form (sym h))
not_negative_where (Err e) p d s T form h = tt

-- ---- the refusals of a fall form
pub by_shape : (b : Bool) (r : FormRefusal) (x y : Option FormRefusal) → (b ≡ false → x ≡ y) → or_else (first_of ((b, r) ∷ [])) x ≡ or_else (first_of ((b, r) ∷ [])) y
by_shape true r x y h = refl
by_shape false r x y h = h refl

-- the tests of squares for a form whose entries are given up where a number on their way is too wide
pub definite_entries : (p : OfferPart) (d : ℕ) (s : Squares) (T : Matrix) (ways : ℕ → ℕ → List ℤ) (F : Form) → AreEntriesOrWide d T ways F
    → first_of (definite_tests p d s (matrix_of F.rows) (λ i j. [])) ≡ first_of (definite_tests p d s T ways)
definite_entries p d s T ways F w =
    let R = matrix_of F.rows in
    let before = or_else (first_of (positive_weight_tests p d s)) (first_of (triangle_tests p d s)) in
    let after = first_of (dominance_tests p d s) in
    definite_parts p d s R (λ i j. [])
    ∙ by_shape (bad_shape d s) (refusal.Shape p) (or_else (or_else before (first_of (side_tests p d d s R (λ i j. [])))) after) (or_else (or_else before (first_of (side_tests p d d s T ways))) after)
    (λ e. ap (λ o. or_else (or_else before o) after) (entries_side p d d s T ways F w (good_rest d s (neither_test (bad_rest d s) _ e).0).multiple))
    ∙ sym (definite_parts p d s T ways)

pub semidefinite_entries : (p : OfferPart) (d : ℕ) (s : Squares) (T : Matrix) (ways : ℕ → ℕ → List ℤ) (F : Form) → AreEntriesOrWide d T ways F
    → first_of (semidefinite_tests p d s (matrix_of F.rows) (λ i j. [])) ≡ first_of (semidefinite_tests p d s T ways)
semidefinite_entries p d s T ways F w =
    let R = matrix_of F.rows in
    let before = first_of (weak_weight_tests p s) in
    let after = first_of (dominance_tests p d s) in
    semidefinite_parts p d s R (λ i j. [])
    ∙ by_shape (too_many_rows d s) (refusal.Shape p) (or_else (or_else before (first_of (side_tests p d s.count s R (λ i j. [])))) after) (or_else (or_else before (first_of (side_tests p d s.count s T ways))) after)
    (λ e. ap (λ o. or_else (or_else before o) after) (entries_side p d s.count s T ways F w (good_rest d s (neither_test (bad_rest d s) _ e).0).multiple))
    ∙ sym (semidefinite_parts p d s T ways)

-- the same of the fall form
pub definite_same : (p : OfferPart) (d : ℕ) (s : Squares) (c : Vector) (P F : Form) → IsFallOrWide d c P F
    → first_of (definite_tests p d s (matrix_of F.rows) (λ i j. [])) ≡ first_of (definite_tests p d s (fall_entry d c (matrix_of P.rows)) (fall_numbers d c (matrix_of P.rows)))
definite_same p d s c P F w = definite_entries p d s (fall_entry d c (matrix_of P.rows)) (fall_numbers d c (matrix_of P.rows)) F (fall_entries d c P F w)

pub semidefinite_same : (p : OfferPart) (d : ℕ) (s : Squares) (c : Vector) (P F : Form) → IsFallOrWide d c P F
    → first_of (semidefinite_tests p d s (matrix_of F.rows) (λ i j. [])) ≡ first_of (semidefinite_tests p d s (fall_entry d c (matrix_of P.rows)) (fall_numbers d c (matrix_of P.rows)))
semidefinite_same p d s c P F w = semidefinite_entries p d s (fall_entry d c (matrix_of P.rows)) (fall_numbers d c (matrix_of P.rows)) F (fall_entries d c P F w)

-- ---- the fall form of an accepted offer
pub fall_form-turned : (d : ℕ) (c : Vector) (P : Matrix) → is_symmetric d P ≡ true → (i j : ℕ) → i < d → j < d → companion_fall_form d c P i j ≡ companion_fall_form d c P j i
fall_form-turned d c P h i j a b =
    rw (symmetric_at d P h i j a b, congruence-turned d P (companion c) i j (symmetric_at d P h)) refl

entry_had : (w : Bool) (m x t : ℤ) → int_lt m (pos 1) ≡ false → x ≡ or_too_wide (unless w t) → is_narrow (m *ℤ x) ≡ true → x ≡ t
entry_had true m x t h e n = absurd (apart (wide_left m h) (ap (λ z. is_narrow (m *ℤ z)) (sym e) ∙ n))
  where
    apart : {b : Bool} → b ≡ false → b ≡ true → ⊥
    apart h k = cc
entry_had false m x t h e n = e

pub companion_at : (d : ℕ) (c : Vector) (P : Matrix) (i j : ℕ) → i < d → companion_fall_form d c P i j ≡ fall_entry d c P i j
companion_at zero c P i j h = absurd (omega arith)
companion_at (suc d) c P i j h = companion_fall_form-is d c P i j

-- where the squares' identity holds, no number on the way was too wide: the entries are those of U, which is T in the first d rows
pub entries_from : (p : OfferPart) (d n : ℕ) (s : Squares) (T U : Matrix) (ways : ℕ → ℕ → List ℤ) (F : Form) → AreEntriesOrWide d T ways F → ((i j : ℕ) → i < d → U i j ≡ T i j) → ((i j : ℕ) → i < d → j < d → U i j ≡ U j i)
    → int_lt s.m (pos 1) ≡ false → first_of (side_tests p d n s (matrix_of F.rows) (λ i j. [])) ≡ None → (i j : ℕ) → i < d → j < d → matrix_of F.rows i j ≡ U i j
entries_from p d n s T U ways F w same turn m h i j a b =
    let R = matrix_of F.rows in
    let own : (i j : ℕ) → i ≤ j → j < d → R i j ≡ U i j =
    λ i j q b. entry_had (any_wide (ways i j)) s.m (R i j) (T i j) m (entries_upper d T ways F w i j q b) (sides_pass p d n s R (λ i j. []) h i j q b).narrow ∙ sym (same i j (omega arith)) in
    elim (cases_lt j i) [
      | inl below ↦ entries_turned d T ways F w i j a b ∙ own j i (omega arith) a ∙ turn j i b a
      | inr from ↦ own i j from b
    ]

pub fall_form-from : (p : OfferPart) (d n : ℕ) (s : Squares) (c : Vector) (P F : Form) → F.d ≡ d → is_symmetric d (matrix_of P.rows) ≡ true → IsFallOrWide d c P F
    → int_lt s.m (pos 1) ≡ false → first_of (side_tests p d n s (matrix_of F.rows) (λ i j. [])) ≡ None → IsFallForm d c P F
fall_form-from p d n s c P F places form w m h = record {
  places = places;
  entries = entries_from p d n s (fall_entry d c (matrix_of P.rows)) (companion_fall_form d c (matrix_of P.rows)) (fall_numbers d c (matrix_of P.rows)) F (fall_entries d c P F w)
      (λ i j a. companion_at d c (matrix_of P.rows) i j a) (λ i j a b. fall_form-turned d c (matrix_of P.rows) form i j a b) m h;
  elsewhere = w.elsewhere;
}

-- ---- an offer of a form that falls
pub falls_parts : (d : ℕ) (c : Vector) (offer : Falls) → first_of (falls_tests d c offer)
    ≡ or_else (first_of (form_tests d offer.form))
    (or_else (first_of (definite_tests part.Positive d offer.positive (matrix_of offer.form.rows) (λ i j. [])))
    (first_of (definite_tests part.Fall d offer.fall (fall_entry d c (matrix_of offer.form.rows)) (fall_numbers d c (matrix_of offer.form.rows)))))
falls_parts d c offer =
    let P = matrix_of offer.form.rows in
    let a = definite_tests part.Positive d offer.positive P (λ i j. []) in
    let b = definite_tests part.Fall d offer.fall (fall_entry d c P) (fall_numbers d c P) in
    first_before (bad_form d offer.form) (refusal.Shape part.Form) (a ++ b) ∙ ap (or_else (first_of (form_tests d offer.form))) (first_of-append a b)

-- what passes in an accepted offer
pub record FallsPass (d : ℕ) (c : Vector) (offer : Falls) : Type 0 where
  pub places : offer.form.d ≡ d
  pub symmetric : is_symmetric d (matrix_of offer.form.rows) ≡ true
  pub positive : first_of (definite_tests part.Positive d offer.positive (matrix_of offer.form.rows) (λ i j. [])) ≡ None
  pub fall : first_of (definite_tests part.Fall d offer.fall (fall_entry d c (matrix_of offer.form.rows)) (fall_numbers d c (matrix_of offer.form.rows))) ≡ None

pub falls_passes : (d : ℕ) (c : Vector) (offer : Falls) → first_of (falls_tests d c offer) ≡ None → FallsPass d c offer
falls_passes d c offer h =
    let P = matrix_of offer.form.rows in
    let positive = first_of (definite_tests part.Positive d offer.positive P (λ i j. [])) in
    let fall = first_of (definite_tests part.Fall d offer.fall (fall_entry d c P) (fall_numbers d c P)) in
    let a = neither (first_of (form_tests d offer.form)) (or_else positive fall) (sym (falls_parts d c offer) ∙ h) in
    let b = neither positive fall a.1 in
    let shape = neither_test (not (offer.form.d == d)) (not (is_symmetric d P)) (passes (bad_form d offer.form) (refusal.Shape part.Form) a.0) in
    record {
      places = same_count offer.form.d d (not_false (offer.form.d == d) shape.0);
      symmetric = not_false (is_symmetric d P) shape.1;
      positive = b.0;
      fall = b.1;
    }

positive_same : (d : ℕ) (T U : Matrix) → ((i j : ℕ) → i < d → j < d → T i j ≡ U i j) → ShowPositive d T → ShowPositive d U
positive_same d T U e o = record {
  scale = o.scale;
  weights = o.weights;
  rows = o.rows;
  rest = o.rest;
  positive = o.positive;
  identity = λ i j a b. ap (λ z. o.scale *ℤ z) (sym (e i j a b)) ∙ o.identity i j a b;
  triangular = o.triangular;
  dominant = o.dominant;
}

-- a form that squares show to be positive, as they show what it loses in a step
pub falls_with : (d : ℕ) (q : ℤ) (M : Matrix) (P F : Form) (s t : Squares) → is_symmetric d (matrix_of P.rows) ≡ true → is_symmetric d (matrix_of F.rows) ≡ true
    → ((i j : ℕ) → i < d → j < d → matrix_of F.rows i j ≡ fall_form d q M (matrix_of P.rows) i j)
    → first_of (definite_tests part.Positive d s (matrix_of P.rows) (λ i j. [])) ≡ None → first_of (definite_tests part.Fall d t (matrix_of F.rows) (λ i j. [])) ≡ None
    → StrictlyFalls d q M (matrix_of P.rows)
falls_with d q M P F s t form fall is h k =
    strictly_falls d q M (matrix_of P.rows) (shows_positive part.Positive d s (matrix_of P.rows) form h)
    (positive_same d (matrix_of F.rows) (fall_form d q M (matrix_of P.rows)) is (shows_positive part.Fall d t (matrix_of F.rows) fall k))

pub falls_along : (d : ℕ) (c : Vector) (P F : Form) (s t : Squares) → is_symmetric d (matrix_of P.rows) ≡ true → is_symmetric d (matrix_of F.rows) ≡ true → IsFallForm d c P F
    → first_of (definite_tests part.Positive d s (matrix_of P.rows) (λ i j. [])) ≡ None → first_of (definite_tests part.Fall d t (matrix_of F.rows) (λ i j. [])) ≡ None
    → StrictlyFallsAlong d c (matrix_of P.rows)
falls_along d c P F s t form fall is h k = falls_with d (c 0) (companion c) P F s t form fall is.entries h k

-- ---- an offer of a form that is kept away
pub kept_away_parts : (d : ℕ) (c : Vector) (offer : KeptAway) → first_of (kept_away_tests d c offer)
    ≡ or_else (first_of (form_tests d offer.form))
    (or_else (first_of (semidefinite_tests part.Fall d offer.fall (fall_entry d c (matrix_of offer.form.rows)) (fall_numbers d c (matrix_of offer.form.rows))))
    (first_of (start_tests d (matrix_of offer.form.rows) (vector_of offer.start))))
kept_away_parts d c offer =
    let P = matrix_of offer.form.rows in
    let a = semidefinite_tests part.Fall d offer.fall (fall_entry d c P) (fall_numbers d c P) in
    let b = start_tests d P (vector_of offer.start) in
    first_before (bad_form d offer.form) (refusal.Shape part.Form) (a ++ b) ∙ ap (or_else (first_of (form_tests d offer.form))) (first_of-append a b)

not_negative_same : (d : ℕ) (T U : Matrix) → ((i j : ℕ) → i < d → j < d → T i j ≡ U i j) → ShowNotNegative d T → ShowNotNegative d U
not_negative_same d T U e o = record {
  scale = o.scale;
  count = o.count;
  weights = o.weights;
  rows = o.rows;
  rest = o.rest;
  positive = o.positive;
  identity = λ i j a b. ap (λ z. o.scale *ℤ z) (sym (e i j a b)) ∙ o.identity i j a b;
  weight = o.weight;
  dominant = o.dominant;
}

pub positive_apart : (z : ℤ) → pos 0 <ℤ z → z ≢ pos 0
positive_apart z h e = omega (arith, ints, h, e)

pub kept_away_along : (d : ℕ) (c : Vector) (P F : Form) (s : Squares) (start : Vector) → pos 0 <ℤ c 0 → is_symmetric d (matrix_of F.rows) ≡ true → IsFallForm d c P F
    → first_of (semidefinite_tests part.Fall d s (matrix_of F.rows) (λ i j. [])) ≡ None → first_of (start_tests d (matrix_of P.rows) start) ≡ None
    → IsKeptAwayAlong d c (matrix_of P.rows) start
kept_away_along d c P F s start first fall is h k =
    kept_away d (c 0) (companion c) (matrix_of P.rows) start (positive_apart (c 0) first) (value_negative d (matrix_of P.rows) start k)
    (not_negative_same d (matrix_of F.rows) (companion_fall_form d c (matrix_of P.rows)) is.entries (shows_not_negative part.Fall d s (matrix_of F.rows) fall h))

pub fall_form-definite : (p : OfferPart) (d : ℕ) (s : Squares) (c : Vector) (P F : Form) → F.d ≡ d → is_symmetric d (matrix_of P.rows) ≡ true → IsFallOrWide d c P F
    → first_of (definite_tests p d s (matrix_of F.rows) (λ i j. [])) ≡ None → IsFallForm d c P F
fall_form-definite p d s c P F places form w h =
    let o = definite_passes p d s (matrix_of F.rows) (λ i j. []) h in
    fall_form-from p d d s c P F places form w o.rest.multiple o.sides

pub fall_form-semidefinite : (p : OfferPart) (d : ℕ) (s : Squares) (c : Vector) (P F : Form) → F.d ≡ d → is_symmetric d (matrix_of P.rows) ≡ true → IsFallOrWide d c P F
    → first_of (semidefinite_tests p d s (matrix_of F.rows) (λ i j. [])) ≡ None → IsFallForm d c P F
fall_form-semidefinite p d s c P F places form w h =
    let o = semidefinite_passes p d s (matrix_of F.rows) h in
    fall_form-from p d s.count s c P F places form w o.rest.multiple o.sides

-- ---- an answer of the check of squares, at its number of places
pub definite_at : {A : Type 0} (r : Result A FormRefusal) (o : Option FormRefusal) (p : OfferPart) (e d : ℕ) (s : Squares) (T : Matrix) → e ≡ d
    → refusal_of r ≡ first_of (definite_tests p e s T (λ i j. [])) → refusal_of r ≡ o → first_of (definite_tests p d s T (λ i j. [])) ≡ o
definite_at r o p e d s T same h is = ap (λ k. first_of (definite_tests p k s T (λ i j. []))) (sym same) ∙ sym h ∙ is

pub semidefinite_at : {A : Type 0} (r : Result A FormRefusal) (o : Option FormRefusal) (p : OfferPart) (e d : ℕ) (s : Squares) (T : Matrix) → e ≡ d
    → refusal_of r ≡ first_of (semidefinite_tests p e s T (λ i j. [])) → refusal_of r ≡ o → first_of (semidefinite_tests p d s T (λ i j. [])) ≡ o
semidefinite_at r o p e d s T same h is = ap (λ k. first_of (semidefinite_tests p k s T (λ i j. []))) (sym same) ∙ sym h ∙ is

pub fall_at : (cs xs : List ℤ) (P F : Form) → cs ≡ xs → IsFallOrWide (length cs - 1) (vector_of cs) P F → IsFallOrWide (length xs - 1) (vector_of xs) P F
fall_at cs xs P F e h = rw e at h
