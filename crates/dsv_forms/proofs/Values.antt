-- A form's value at a start, as the code has it.
use Rattle.std.proofs.Common.{◌≡◌, ℕ, Bool, true, false, not, ◌||◌, int_lt, List, [], ◌∷◌, ◌++◌, map, Some, None, refl, sym, ap, ◌∙◌}
use Rattle.std.proofs.Math.IntN.{ℤ, pos, ◌*ℤ◌, +ℤ_idl}
use lib.Signed.{◌<ℤ◌}
use Rattle.std.specs.List.{flat_map}
use Rattle.dsv_algebra.specs.Vectors.{Vector, Matrix, form_at}
use Rattle.dsv_forms.specs.declared.refusal.OfferPart.TheVariants as part
use Rattle.dsv_forms.specs.declared.refusal.FormRefusal.TheVariants as refusal
use Rattle.dsv_forms.specs.Refusals.{first_of, places, any_wide, partial_sums, value_terms, value_numbers, start_tests}
use Rattle.dsv_forms.specs.Sums.{sum_from, row_summands, value_summands, value_refusal}
use Rattle.dsv_forms.proofs.Places.{not_false, passes}
use Rattle.dsv_forms.proofs.Shown.{less}
use Rattle.dsv_forms.proofs.SumLemmas.{unless, any_wide-append, sum_from-is, numbers, values, numbers-terms, values-single, numbers-rows, values-rows, total-rows}

rows_same : (g h : ℕ → List ℤ) (ks : List ℕ) → ((k : ℕ) → g k ≡ h k) → flat_map g ks ≡ flat_map h ks
rows_same g h [] e = refl
rows_same g h (k ∷ ks) e = rw (e k, rows_same g h ks e) refl

pub value_summands-are : (d : ℕ) (P : Matrix) (v : Vector) → sum_from (pos 0) (value_summands d P v) ≡ unless (any_wide (value_numbers d P v)) (form_at d P v)
value_summands-are d P v =
    let ts = value_summands d P v in
    let f : ℕ → ℕ → ℤ = λ i j. P i j *ℤ v i in
    let t : ℕ → ℕ → ℤ = λ i j. P i j *ℤ v i *ℤ v j in
    let factors = flat_map (λ i. map (f i) (places d)) (places d) in
    let terms = value_terms d P v in
    let sums = partial_sums (pos 0) terms in
    let vs : values ts ≡ terms =
    values-rows (row_summands d P v) (places d)
    ∙ rows_same (λ i. values (row_summands d P v i)) (λ i. map (t i) (places d)) (places d) (λ i. values-single (λ j. ((f i j) ∷ (t i j) ∷ [], t i j)) (places d)) in
    let ns : any_wide (numbers ts) ≡ (any_wide factors || any_wide terms) =
    numbers-rows (row_summands d P v) (λ i. map (f i) (places d)) (λ i. map (t i) (places d)) (places d) (λ i. numbers-terms (f i) v (places d)) in
    let all : any_wide (value_numbers d P v) ≡ ((any_wide factors || any_wide terms) || any_wide sums) =
    any_wide-append (factors ++ terms) sums ∙ ap (λ b. b || any_wide sums) (any_wide-append factors terms) in
    sum_from-is (pos 0) ts
    ∙ rw (ns, vs, ← all) (ap (unless (any_wide (value_numbers d P v))) (total-rows (pos 0) t d d ∙ +ℤ_idl (form_at d P v)))

cases : (w : Bool) (x : ℤ) → first_of ((w, refusal.Wide part.Start 0 0) ∷ (not (int_lt x (pos 0)), refusal.StartNotNegative x) ∷ []) ≡ value_refusal (unless w x)
cases true x = refl
cases false x = refl

-- the tests of a start are those of the value
pub start_tests-are : (d : ℕ) (P : Matrix) (v : Vector) → first_of (start_tests d P v) ≡ value_refusal (sum_from (pos 0) (value_summands d P v))
start_tests-are d P v = cases (any_wide (value_numbers d P v)) (form_at d P v) ∙ ap value_refusal (sym (value_summands-are d P v))

open_value : (w : Bool) (x : ℤ) → value_refusal (unless w x) ≡ None → x <ℤ pos 0
open_value true x h = cc
open_value false x h = less x (pos 0) (not_false (int_lt x (pos 0)) (passes (not (int_lt x (pos 0))) (refusal.StartNotNegative x) h))

pub value_negative : (d : ℕ) (P : Matrix) (v : Vector) → first_of (start_tests d P v) ≡ None → form_at d P v <ℤ pos 0
value_negative d P v h = open_value (any_wide (value_numbers d P v)) (form_at d P v) (sym (cases (any_wide (value_numbers d P v)) (form_at d P v)) ∙ h)

had : (w : Bool) (t x : ℤ) → unless w t ≡ Some x → x ≡ t
had true t x h = cc
had false t x h = cc

pub value_had : (d : ℕ) (P : Matrix) (v : Vector) (x : ℤ) → sum_from (pos 0) (value_summands d P v) ≡ Some x → x ≡ form_at d P v
value_had d P v x h = had (any_wide (value_numbers d P v)) (form_at d P v) x (sym (value_summands-are d P v) ∙ h)
