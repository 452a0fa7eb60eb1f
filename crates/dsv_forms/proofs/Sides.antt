-- Both sides of the identity at a place, as the code has them.
use Rattle.std.proofs.Common.{◌≡◌, ℕ, Bool, true, false, not, ◌||◌, if◌then◌else◌, [], ◌∷◌, ◌++◌, map, Option, Some, None, refl, sym, ap, ◌∙◌}
use Rattle.std.proofs.Math.IntN.{ℤ, pos, ◌+ℤ◌, ◌*ℤ◌, +ℤ_idl}
use Rattle.std.specs.Option.{option_and_then, option_map}
use Rattle.std.specs.Ordering.{int_eq}
use Rattle.dsv_algebra.specs.Narrow.{is_narrow, narrow_of}
use Rattle.dsv_algebra.specs.Squares.{squares}
use Rattle.dsv_forms.specs.declared.offers.Squares.{Squares}
use Rattle.dsv_forms.specs.declared.refusal.OfferPart.{OfferPart}
use Rattle.dsv_forms.specs.declared.refusal.FormRefusal.TheVariants as refusal
use Rattle.dsv_forms.specs.Refusals.{first_of, places, any_wide, partial_sums, weights_of, rows_of, rest_of, square_terms, right_side, side_numbers, place_tests}
use Rattle.dsv_forms.specs.Sums.{sum_from, square_summands, sides_of, sides_refusal}
use Rattle.dsv_forms.proofs.SumLemmas.{unless, any_wide-append, sum_from-is, values, numbers-terms, values-single, total-places}

-- the sum of squares at a place
pub sum_of_squares-is : (n : ℕ) (s : Squares) (i j : ℕ) → sum_from (pos 0) (square_summands n s i j)
    ≡ unless ((any_wide (map (λ k. weights_of s k *ℤ rows_of s k i) (places n)) || any_wide (square_terms n s i j)) || any_wide (partial_sums (pos 0) (square_terms n s i j)))
    (squares n (weights_of s) (rows_of s) i j)
sum_of_squares-is n s i j =
    let ts = square_summands n s i j in
    let f : ℕ → ℤ = λ k. weights_of s k *ℤ rows_of s k i in
    let x : ℕ → ℤ = λ k. rows_of s k j in
    let vs : values ts ≡ square_terms n s i j = values-single (λ k. ((f k) ∷ (f k *ℤ x k) ∷ [], f k *ℤ x k)) (places n) in
    sum_from-is (pos 0) ts
    ∙ rw (numbers-terms f x (places n), vs, total-places (pos 0) (λ k. f k *ℤ x k) n, +ℤ_idl (squares n (weights_of s) (rows_of s) i j)) refl

cases : (nm B nr : Bool) (m q r : ℤ) (p : OfferPart) (i j : ℕ)
    → first_of (((not nm || B) || (not nr || false), refusal.Wide p i j) ∷ (not (int_eq m r), refusal.Identity p i j) ∷ [])
    ≡ sides_refusal p i j (option_and_then (λ left. option_and_then (λ sum. option_map (λ right. (left, right)) (if nr then Some r else None)) (unless B q)) (if nm then Some m else None))
cases true true true m q r p i j = refl
cases true true false m q r p i j = refl
cases true false true m q r p i j = refl
cases true false false m q r p i j = refl
cases false true true m q r p i j = refl
cases false true false m q r p i j = refl
cases false false true m q r p i j = refl
cases false false false m q r p i j = refl

regrouped : (m W T S R : Bool) → ((((m || W) || T) || S) || R) ≡ ((m || ((W || T) || S)) || R)
regrouped true W T S R = refl
regrouped false W T S R = refl

side_numbers-is : (n : ℕ) (s : Squares) (x : ℤ) (i j : ℕ) → any_wide (side_numbers n s x i j)
    ≡ ((not (is_narrow (s.m *ℤ x)) || ((any_wide (map (λ k. weights_of s k *ℤ rows_of s k i) (places n)) || any_wide (square_terms n s i j)) || any_wide (partial_sums (pos 0) (square_terms n s i j))))
    || (not (is_narrow (right_side n s i j)) || false))
side_numbers-is n s x i j =
    let ws = map (λ k. weights_of s k *ℤ rows_of s k i) (places n) in
    let ts = square_terms n s i j in
    let ps = partial_sums (pos 0) ts in
    let a = (s.m *ℤ x) ∷ ws in
    let r = right_side n s i j ∷ [] in
    any_wide-append (a ++ ts ++ ps) r
    ∙ ap (λ b. b || any_wide r) (any_wide-append (a ++ ts) ps ∙ ap (λ b. b || any_wide ps) (any_wide-append a ts))
    ∙ regrouped (not (is_narrow (s.m *ℤ x))) (any_wide ws) (any_wide ts) (any_wide ps) (any_wide r)

last_same : (B : Bool) (q : ℤ) (k l : ℤ → Option (ℤ × ℤ)) → k q ≡ l q → option_and_then k (unless B q) ≡ option_and_then l (unless B q)
last_same true q k l e = refl
last_same false q k l e = e

sides_known : (nm B : Bool) (m q : ℤ) (k l : ℤ → ℤ → Option (ℤ × ℤ)) → k m q ≡ l m q
    → option_and_then (λ left. option_and_then (k left) (unless B q)) (if nm then Some m else None) ≡ option_and_then (λ left. option_and_then (l left) (unless B q)) (if nm then Some m else None)
sides_known true B m q k l e = last_same B q (k m) (l m) e
sides_known false B m q k l e = refl

-- the tests of a place are those of both sides
pub place_tests-is : (p : OfferPart) (n : ℕ) (s : Squares) (x : ℤ) (i j : ℕ) → first_of (place_tests p n s x [] i j) ≡ sides_refusal p i j (sides_of n s x i j)
place_tests-is p n s x i j =
    let B = (any_wide (map (λ k. weights_of s k *ℤ rows_of s k i) (places n)) || any_wide (square_terms n s i j)) || any_wide (partial_sums (pos 0) (square_terms n s i j)) in
    let q = squares n (weights_of s) (rows_of s) i j in
    let m = s.m *ℤ x in
    let r = right_side n s i j in
    ap (λ b. first_of ((b, refusal.Wide p i j) ∷ (not (int_eq m r), refusal.Identity p i j) ∷ [])) (side_numbers-is n s x i j)
    ∙ cases (is_narrow m) B (is_narrow r) m q r p i j
    ∙ ap (sides_refusal p i j)
    (sides_known (is_narrow m) B m q (λ left sum. option_map (λ right. (left, right)) (narrow_of r)) (λ left sum. option_map (λ right. (left, right)) (narrow_of (sum +ℤ rest_of s i j))) refl
    ∙ ap (λ o. option_and_then (λ left. option_and_then (λ sum. option_map (λ right. (left, right)) (narrow_of (sum +ℤ rest_of s i j))) o) (narrow_of m)) (sym (sum_of_squares-is n s i j)))
