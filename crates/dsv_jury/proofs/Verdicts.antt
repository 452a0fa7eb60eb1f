-- The recursion from row to row.
use Rattle.std.proofs.Common.{◌≡◌, ℕ, zero, suc, ◌+◌, ◌-◌, ◌*◌, ◌<◌, ◌≤◌, true, false, List, [], ◌∷◌, ◌++◌, length, map, get_or, inl, inr, refl, sym, ap, ◌∙◌, arith}
use Rattle.std.proofs.Math.IntN.{ℤ, pos, negsuc, ◌-ℤ◌, ◌*ℤ◌}
use Rattle.std.proofs.lemmas.Int.{ints}
use Rattle.std.proofs.lemmas.Nat.{mul-le}
use Rattle.std.proofs.lemmas.Bool.{cases_lt}
use Rattle.std.proofs.lemmas.Bool.Decides.{nat_tests}
use Rattle.std.proofs.lemmas.List.Folds.{list_any_at}
use Rattle.std.proofs.lemmas.List.{length-append, length-map, map-append, get_or_append_left, get_or-append-add, get_or-map}
use Rattle.std.specs.Int.RustNames.{unsigned_abs, int_div}
use Rattle.dsv_algebra.specs.Vectors.{Vector, vector_of}
use Rattle.dsv_forms.specs.Refusals.{places}
use Rattle.dsv_jury.specs.CommonFactor.{common_factor}
use Rattle.dsv_jury.specs.Jury.{last_leads, cross_difference, cross_differences, row_after, is_wide_entry, is_wide, verdict_from}
use Rattle.dsv_jury.specs.declared.verdict.Jury.{Jury}
use Rattle.dsv_jury.specs.declared.verdict.Jury.TheVariants as verdict
use Rattle.dsv_jury.proofs.Factors.{factor_positive}

length-places : (d : ℕ) → length (places d) ≡ d
length-places zero = refl
length-places (suc d) = let h = length-places d in let e = length-append (places d) (d ∷ []) in omega arith

pub length-cross_differences : (d : ℕ) (row : List ℤ) → length (cross_differences d row) ≡ d
length-cross_differences d row = length-map (places d) (cross_difference d (vector_of row)) ∙ length-places d

pub length-row_after : (d : ℕ) (row : List ℤ) → length (row_after d row) ≡ d
length-row_after d row = length-map (cross_differences d row) (λ x. int_div x (pos (common_factor (cross_differences d row)))) ∙ length-cross_differences d row

length-values : (f : ℕ → ℤ) (d : ℕ) → length (map f (places d)) ≡ d
length-values f d = length-map (places d) f ∙ length-places d

-- an entry of the values of f at the first d places
pub values_at : (f : ℕ → ℤ) (d i : ℕ) → i < d → vector_of (map f (places d)) i ≡ f i
values_at f zero i h = absurd (omega arith)
values_at f (suc d) i h =
    let split = ap (λ xs. vector_of xs i) (map-append f (places d) (d ∷ [])) in
    let long = length-values f d in
    elim (cases_lt i d) [
      | inl less ↦ split ∙ get_or_append_left (map f (places d)) (f d ∷ []) (pos 0) i (omega arith) ∙ values_at f d i less
      | inr more ↦ (let same : i ≡ length (map f (places d)) + 0 = omega arith in let own : i ≡ d = omega arith in
          split ∙ ap (λ j. vector_of (map f (places d) ++ f d ∷ []) j) same ∙ get_or-append-add (map f (places d)) (f d ∷ []) 0 (pos 0) ∙ ap f (sym own))
    ]

square_of : (x : ℤ) → x *ℤ x ≡ pos (unsigned_abs x * unsigned_abs x)
square_of (pos n) = refl
square_of (negsuc n) = refl

squares_apart : (x y : ℤ) → unsigned_abs y < unsigned_abs x → 0 < unsigned_abs (x *ℤ x -ℤ y *ℤ y)
squares_apart x y h =
    let a = unsigned_abs x in
    let b = unsigned_abs y in
    let p : suc b * suc b ≤ a * a = mul-le (suc b) (suc b) a a h h in
    let q : b * b < a * a = omega arith in
    rw (square_of x, square_of y) (omega (arith, ints))

first_greater : (d : ℕ) (l : Vector) → last_leads d l ≡ false → unsigned_abs (l d) < unsigned_abs (l 0)
first_greater d l h = grind (arith, nat_tests)

first_apart : (d : ℕ) (l : Vector) → last_leads d l ≡ false → 0 < unsigned_abs (cross_difference d l 0)
first_apart d l h =
    let e : d - 0 ≡ d = omega arith in
    rw e (squares_apart (l 0) (l d) (first_greater d l h))

-- the common factor of a row's cross differences, where there are some
pub differences_have_factor : (d : ℕ) (row xs : List ℤ) (i : ℕ) → last_leads d (vector_of row) ≡ false → xs ≡ cross_differences d row → i < length xs → 0 < common_factor xs
differences_have_factor d row xs i h e p =
    let long = ap length e ∙ length-cross_differences d row in
    let at = ap (λ ys. vector_of ys 0) e ∙ values_at (cross_difference d (vector_of row)) d 0 (omega arith) in
    factor_positive xs 0 (rw at (first_apart d (vector_of row) h))

-- a row with an entry that is wide
pub wide_row : (d : ℕ) (row xs : List ℤ) (g i : ℕ) (x : ℤ) → xs ≡ cross_differences d row → g ≡ common_factor xs → i < length xs → x ≡ vector_of xs i
    → is_wide_entry (int_div x (pos g)) ≡ true → is_wide (row_after d row) ≡ true
wide_row d row xs g i x e f p a w =
    let q = λ (y : ℤ). int_div y (pos g) in
    let long : i < length (map q xs) = let l = length-map xs q in omega arith in
    let at : get_or (map q xs) i (pos 0) ≡ q x = get_or-map q xs i (pos 0) (pos 0) p ∙ ap q (sym a) in
    let wide : is_wide (map q xs) ≡ true = list_any_at is_wide_entry (map q xs) i (pos 0) long (rw at w) in
    let same : row_after d row ≡ map q xs = rw (← e, ← f) refl in
    rw same wide

pub not_inside_step : (d n : ℕ) (row : List ℤ) → last_leads (suc d) (vector_of row) ≡ true → verdict_from (suc d) n row ≡ verdict.NotInside n
not_inside_step d n row h = rw h refl

pub wide_step : (d n : ℕ) (row : List ℤ) → last_leads (suc d) (vector_of row) ≡ false → is_wide (row_after (suc d) row) ≡ true
    → verdict_from (suc d) n row ≡ verdict.Wide (n + 1)
wide_step d n row h w = rw (h, w) refl

pub next_step : (d n : ℕ) (row : List ℤ) → last_leads (suc d) (vector_of row) ≡ false → is_wide (row_after (suc d) row) ≡ false
    → verdict_from (suc d) n row ≡ verdict_from d (n + 1) (row_after (suc d) row)
next_step d n row h w = rw (h, w) refl

pub verdict_after : (e d n : ℕ) (row next : List ℤ) (v : Jury) → e ≡ suc d → last_leads e (vector_of row) ≡ false
    → next ≡ row_after e row → is_wide (row_after e row) ≡ false
    → verdict_from e n row ≡ v → verdict_from (length next - 1) (n + 1) next ≡ v
verdict_after e d n row next v p h s w f =
    let k : last_leads (suc d) (vector_of row) ≡ false = rw p at h in
    let u : is_wide (row_after (suc d) row) ≡ false = ap (λ t. is_wide (row_after t row)) (sym p) ∙ w in
    let t : next ≡ row_after (suc d) row = s ∙ ap (λ t. row_after t row) p in
    let long : length next - 1 ≡ d = let l = ap length t ∙ length-row_after (suc d) row in omega arith in
    ap (λ j. verdict_from j (n + 1) next) long ∙ ap (verdict_from d (n + 1)) t ∙ sym (next_step d n row k u) ∙ ap (λ t. verdict_from t n row) (sym p) ∙ f
