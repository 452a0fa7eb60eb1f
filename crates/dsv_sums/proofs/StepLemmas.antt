-- An entry of the next form, as the code has it.
use Rattle.std.proofs.Common.{◌≡◌, ℕ, suc, ◌-◌, ◌<◌, ◌≤◌, ◌^◌, Bool, true, false, not, ◌||◌, ◌&&◌, nat_lt, nat_le, if◌then◌else◌, List, [], ◌∷◌, ◌++◌, length, map, Option, Some, None, inl, inr, refl, sym, ap, ◌∙◌, arith}
use Rattle.std.proofs.Math.IntN.{ℤ, pos, ◌+ℤ◌, ◌*ℤ◌, neg_ℤ}
use Rattle.std.specs.Int.{int_div_euclid}
use Rattle.std.specs.Int.RustNames.{unsigned_abs}
use Rattle.std.specs.List.{list_any}
use Rattle.std.proofs.lemmas.Bool.{cases_lt}
use Rattle.std.proofs.lemmas.Bool.Decides.{nat_tests}
use Rattle.std.proofs.lemmas.List.{get_or_past}
use Rattle.std.proofs.lemmas.List.Elements.{All-get_or}
use Rattle.dsv_algebra.specs.Narrow.{is_narrow, narrow_of}
use Rattle.dsv_algebra.specs.Vectors.{Vector, Matrix, vector_of, matrix_of}
use Rattle.dsv_algebra.specs.Companion.{only, total_from, image_terms}
use Rattle.dsv_forms.specs.Poly.{IsPoly, greatest_coefficient}
use Rattle.dsv_forms.specs.declared.offers.Form.{Form}
use Rattle.dsv_forms.specs.Padded.{matrix_with, form_with}
use Rattle.dsv_forms.specs.Refusals.{places, any_wide, partial_sums}
use Rattle.dsv_forms.specs.Sums.{image_sum}
use Rattle.dsv_forms.proofs.FallLemmas.{image_sum-is}
use Rattle.dsv_forms.proofs.Dominance.{unless_some, unless_none}
use Rattle.dsv_forms.proofs.Places.{any_true, any_false, neither_test, not_false}
use Rattle.dsv_forms.proofs.Passing.{Within, within_times, within_neg, narrow}
use Rattle.dsv_forms.proofs.SumLemmas.{unless, any_wide-append}
use Rattle.dsv_sums.specs.Elimination.{entries_of, rows_of}
use Rattle.dsv_sums.specs.Partial.{small_of, small_entry, is_row_too_great}
use Rattle.dsv_sums.specs.SumForms.{image_numbers, is_too_great, base_entry, next_entry, next_form, entry_limit}
use Rattle.dsv_sums.proofs.Filled.{many}

-- ---- the products of two coefficients are narrow
pub coefficient_within : (cs : List ℤ) → IsPoly cs → (k : ℕ) → Within greatest_coefficient (vector_of cs k)
coefficient_within cs h k = elim (cases_lt k (length cs)) [
  | inl l ↦ All-get_or (λ z. unsigned_abs z ≤ greatest_coefficient) cs k (pos 0) l h.small
  | inr g ↦ rw (get_or_past cs k (pos 0) g) (omega arith)
]

narrow_product : (a b : ℤ) → Within greatest_coefficient a → Within greatest_coefficient b → is_narrow (a *ℤ b) ≡ true
narrow_product a b h k = narrow (2 ^ 88) (a *ℤ b) (within_times greatest_coefficient greatest_coefficient a b h k) (omega arith)

narrow_negative : (a b : ℤ) → Within greatest_coefficient a → Within greatest_coefficient b → is_narrow (neg_ℤ (a *ℤ b)) ≡ true
narrow_negative a b h k = narrow (2 ^ 88) (neg_ℤ (a *ℤ b)) (within_neg (2 ^ 88) (a *ℤ b) (within_times greatest_coefficient greatest_coefficient a b h k)) (omega arith)

few_factors : (b a : Bool) (q r t u : ℤ × ℤ) → is_narrow q.0 ≡ true → is_narrow r.0 ≡ true → is_narrow t.0 ≡ true → is_narrow u.0 ≡ true
    → any_wide (map (λ (t : ℤ × ℤ). t.0) (q ∷ only a r ++ only b t ++ only (b && a) u)) ≡ false
few_factors true true q r t u hq hr ht hu = rw (hq, hr, ht, hu) refl
few_factors true false q r t u hq hr ht hu = rw (hq, ht) refl
few_factors false true q r t u hq hr ht hu = rw (hq, hr) refl
few_factors false false q r t u hq hr ht hu = rw hq refl

factors_narrow : (d : ℕ) (c : Vector) (P : Matrix) (i j : ℕ) → ((k : ℕ) → Within greatest_coefficient (c k)) → any_wide (map (λ (t : ℤ × ℤ). t.0) (image_terms d c P i j)) ≡ false
factors_narrow d c P i j h =
    few_factors (nat_lt (suc i) d) (nat_lt (suc j) d) (neg_ℤ (c (suc i) *ℤ c (suc j)), P 0 0) (c (suc i) *ℤ c 0, P 0 (suc j)) (c 0 *ℤ c (suc j), P (suc i) 0) (neg_ℤ (c 0 *ℤ c 0), P (suc i) (suc j))
    (narrow_negative (c (suc i)) (c (suc j)) (h (suc i)) (h (suc j))) (narrow_product (c (suc i)) (c 0) (h (suc i)) (h 0)) (narrow_product (c 0) (c (suc j)) (h 0) (h (suc j))) (narrow_negative (c 0) (c 0) (h 0) (h 0))

-- ---- the entry of C^T P C
first_narrow : (a b c : List ℤ) → any_wide a ≡ false → any_wide (a ++ b ++ c) ≡ any_wide (b ++ c)
first_narrow a b c h =
    any_wide-append (a ++ b) c ∙ ap (λ w. w || any_wide c) (any_wide-append a b ∙ ap (λ w. w || any_wide b) h) ∙ sym (any_wide-append b c)

pub image_is : (cs : List ℤ) (P : Matrix) (i j : ℕ) → IsPoly cs → (let d = length cs - 1 in let c = vector_of cs in
    image_sum d c P i j (pos 0) ≡ unless (any_wide (image_numbers d c P i j)) (total_from (pos 0) (image_terms d c P i j)))
image_is cs P i j h =
    let d = length cs - 1 in
    let c = vector_of cs in
    let ts = image_terms d c P i j in
    let products = map (λ (t : ℤ × ℤ). t.0 *ℤ t.1) ts in
    image_sum-is d c P i j
    ∙ ap (λ w. unless w (total_from (pos 0) ts)) (first_narrow (map (λ (t : ℤ × ℤ). t.0) ts) products (partial_sums (pos 0) products) (factors_narrow d c P i j (coefficient_within cs h)))

total_narrow : (s : ℤ) (ts : List (ℤ × ℤ)) → is_narrow s ≡ true → any_wide (partial_sums s (map (λ (t : ℤ × ℤ). t.0 *ℤ t.1) ts)) ≡ false → is_narrow (total_from s ts) ≡ true
total_narrow s [] h k = h
total_narrow s (t ∷ ts) h k =
    let z = s +ℤ t.0 *ℤ t.1 in
    let both = neither_test (not (is_narrow z)) (any_wide (partial_sums z (map (λ (t : ℤ × ℤ). t.0 *ℤ t.1) ts))) k in
    total_narrow z ts (not_false (is_narrow z) both.0) both.1

-- what is known of a sum that is had, and of one that isn't
pub record IsImage (d : ℕ) (c : Vector) (P : Matrix) (i j : ℕ) (x : ℤ) : Type 0 where
  pub numbers : any_wide (image_numbers d c P i j) ≡ false
  pub same : x ≡ total_from (pos 0) (image_terms d c P i j)
  pub narrow : is_narrow x ≡ true

pub image_had : (cs : List ℤ) (P : Matrix) (i j : ℕ) (x : ℤ) → IsPoly cs → Some x ≡ image_sum (length cs - 1) (vector_of cs) P i j (pos 0) → IsImage (length cs - 1) (vector_of cs) P i j x
image_had cs P i j x poly h =
    let d = length cs - 1 in
    let c = vector_of cs in
    let ts = image_terms d c P i j in
    let products = map (λ (t : ℤ × ℤ). t.0 *ℤ t.1) ts in
    let both = unless_some (any_wide (image_numbers d c P i j)) (total_from (pos 0) ts) x (h ∙ image_is cs P i j poly) in
    let sums = (neither_test (any_wide products) (any_wide (partial_sums (pos 0) products)) (sym (any_wide-append products (partial_sums (pos 0) products)) ∙ both.0)).1 in
    record {
      numbers = both.0;
      same = both.1;
      narrow = ap is_narrow both.1 ∙ total_narrow (pos 0) ts refl sums;
    }

-- ---- the entry
great_first : (w s : Bool) (x : ℤ) → w ≡ true → None ≡ (if w || s then None else Some x)
great_first w s x h = rw h refl

pub image_lost : (cs : List ℤ) (P : Matrix) (i j : ℕ) → IsPoly cs → None ≡ image_sum (length cs - 1) (vector_of cs) P i j (pos 0) → None ≡ small_entry (length cs - 1) (vector_of cs) P i j
image_lost cs P i j poly h =
    let d = length cs - 1 in
    let c = vector_of cs in
    great_first (any_wide (image_numbers d c P i j)) (nat_le entry_limit (unsigned_abs (next_entry d c P i j))) (next_entry d c P i j)
    (unless_none (any_wide (image_numbers d c P i j)) (total_from (pos 0) (image_terms d c P i j)) (h ∙ image_is cs P i j poly))

wide_great : (n : ℕ) → nat_lt n (2 ^ 126) ≡ false → nat_le (2 ^ 60) n ≡ true
wide_great n h = grind (arith, nat_tests)

gone : (b : Bool) (z : ℤ) → None ≡ (if b then Some z else None) → b ≡ false
gone true z h = cc
gone false z h = refl

great_second : (w s : Bool) (x : ℤ) → s ≡ true → None ≡ (if w || s then None else Some x)
great_second true s x h = refl
great_second false s x h = rw h refl

pub entry_lost : (d : ℕ) (c : Vector) (P : Matrix) (i j : ℕ) (z : ℤ) → z ≡ next_entry d c P i j → None ≡ narrow_of z → None ≡ small_entry d c P i j
entry_lost d c P i j z e h =
    let wide : is_narrow (next_entry d c P i j) ≡ false = ap is_narrow (sym e) ∙ gone (is_narrow z) z h in
    great_second (any_wide (image_numbers d c P i j)) (nat_le entry_limit (unsigned_abs (next_entry d c P i j))) (next_entry d c P i j) (wide_great (unsigned_abs (next_entry d c P i j)) wide)

found : (b : Bool) (z x : ℤ) → Some x ≡ (if b then Some z else None) → x ≡ z
found true z x h = cc
found false z x h = cc

pub entry_had : (d : ℕ) (c : Vector) (P : Matrix) (i j : ℕ) (z x : ℤ) → any_wide (image_numbers d c P i j) ≡ false → z ≡ next_entry d c P i j → Some x ≡ narrow_of z
    → small_of x ≡ small_entry d c P i j
entry_had d c P i j z x h e f = rw (found (is_narrow z) z x f ∙ e, h) refl

pub entry_is : (d : ℕ) (c : Vector) (P : Matrix) (i j : ℕ) (x b q : ℤ) → IsImage d c P i j x → b ≡ base_entry i j → q ≡ int_div_euclid (neg_ℤ x) (c 0 *ℤ c 0) → b +ℤ q ≡ next_entry d c P i j
entry_is d c P i j x b q image e f = rw (e, f, image.same) refl

-- ---- a row, and the form
refused : (b : Bool) (x : ℤ) → None ≡ (if b then None else Some x) → b ≡ true
refused true x h = refl
refused false x h = cc

taken : (b : Bool) (x y : ℤ) → Some y ≡ (if b then None else Some x) → (y ≡ x) × (b ≡ false)
taken true x y h = cc
taken false x y h = (cc, refl)

pub too_great : (d : ℕ) (c : Vector) (P : Matrix) (i j : ℕ) → None ≡ small_entry d c P i j → is_too_great d c P i j ≡ true
too_great d c P i j h = refused (is_too_great d c P i j) (next_entry d c P i j) h

pub not_too_great : (d : ℕ) (c : Vector) (P : Matrix) (i j : ℕ) (x : ℤ) → Some x ≡ small_entry d c P i j → (x ≡ next_entry d c P i j) × (is_too_great d c P i j ≡ false)
not_too_great d c P i j x h = taken (is_too_great d c P i j) (next_entry d c P i j) x h

pub form_lost : (cs : List ℤ) (form : Form) (i : ℕ) → i < length cs - 1 → is_row_too_great (length cs - 1) (vector_of cs) (matrix_of form.rows) i ≡ true → None ≡ next_form cs form
form_lost cs form i q h =
    let d = length cs - 1 in
    let c = vector_of cs in
    let P = matrix_of form.rows in
    rw (any_true (λ i. list_any (λ j. is_too_great d c P i j) (places d)) d i q h) refl

pub form_had : (cs : List ℤ) (form : Form) (n : ℕ) (rows : List (List ℤ)) → n ≡ length cs - 1
    → rows ≡ matrix_with (map (λ i. entries_of (length cs - 1) (next_entry (length cs - 1) (vector_of cs) (matrix_of form.rows) i)) (places (length cs - 1)))
    → ((k : ℕ) → k < length cs - 1 → is_row_too_great (length cs - 1) (vector_of cs) (matrix_of form.rows) k ≡ false)
    → ◌≡◌ {A = Option Form} (Some (record { d = n; rows = rows })) (next_form cs form)
form_had cs form n rows e f h =
    let d = length cs - 1 in
    let c = vector_of cs in
    let P = matrix_of form.rows in
    rw (any_false (λ i. list_any (λ j. is_too_great d c P i j) (places d)) d h, e, f, many (λ i. entries_of d (next_entry d c P i)) d) refl

pub first_is : (d n : ℕ) (rows : List (List ℤ)) → n ≡ d → rows ≡ matrix_with (map (λ i. entries_of n (base_entry i)) (places n))
    → ◌≡◌ {A = Form} (record { d = n; rows = rows }) (form_with (rows_of d base_entry))
first_is d n rows e f = rw (f, e, many (λ i. entries_of d (base_entry i)) d) refl
