-- What a form loses in a step of a controller's states, as the code sums it.
use Rattle.std.proofs.Common.{◌≡◌, ℕ, ◌<◌, Bool, true, false, List, [], ◌∷◌, ◌++◌, map, Some, None, refl, sym, ap, ◌∙◌}
use Rattle.std.proofs.Math.IntN.{ℤ, pos, neg_ℤ, ◌+ℤ◌, ◌-ℤ◌, ◌*ℤ◌, +ℤ_idl}
use Rattle.std.specs.Prelude.{Option}
use Rattle.std.specs.List.{flat_map}
use Rattle.std.proofs.lemmas.List.{map-append}
use Rattle.std.proofs.lemmas.List.Concat.{flat_map-append}
use Rattle.std.proofs.lemmas.List.Folds.{flat_map-map}
use Rattle.dsv_algebra.specs.Vectors.{Matrix, sum_to, congruence, matrix_of}
use Rattle.dsv_algebra.specs.Falling.{StrictlyFalls, fall_form}
use Rattle.dsv_algebra.proofs.Congruence.{congruence-turned}
use Rattle.dsv_algebra.proofs.Normaliser.{ring, env, var, num, plus, times, minus}
use Rattle.dsv_algebra.proofs.Sums.{sum_same, sum_scale}
use Rattle.dsv_forms.specs.Refusals.{first_of, places, any_wide, is_symmetric, bad_form, form_tests, definite_tests}
use Rattle.dsv_forms.specs.Sums.{sum_with, sum_from, product}
use Rattle.dsv_forms.specs.declared.offers.Falls.{Falls}
use Rattle.dsv_forms.specs.declared.offers.Form.{Form}
use Rattle.dsv_forms.specs.declared.refusal.OfferPart.TheVariants as part
use Rattle.dsv_forms.specs.declared.refusal.FormRefusal.{FormRefusal}
use Rattle.dsv_forms.specs.declared.refusal.FormRefusal.TheVariants as refusal
use Rattle.dsv_forms.proofs.OfferLemmas.{definite_entries, falls_with}
use Rattle.dsv_forms.proofs.Places.{or_else, first_before, first_of-append, tests_some}
use Rattle.dsv_forms.proofs.FallLemmas.{AreEntriesOrWide, entries_of, entries_symmetric, as_summand, summands, terms_sum, total-terms}
use Rattle.dsv_forms.proofs.SumLemmas.{unless, unless-some, unless-none, total, total-rows, one_summand}
use Rattle.dsv_forms.proofs.Shown.{symmetric_at}
use Rattle.dsv_state_space.specs.Losses.{row_summands, loss_sum}
use Rattle.dsv_state_space.specs.StateForms.{loss_terms, loss_entry, loss_numbers, IsLossForm, loss_tests, state_falls_tests}

-- ---- lists of lists
flat_twice : {A B C : Type 0} (f : B → List C) (g : A → List B) (ks : List A) → flat_map f (flat_map g ks) ≡ flat_map (λ k. flat_map f (g k)) ks
flat_twice f g [] = refl
flat_twice f g (k ∷ ks) = flat_map-append f (g k) (flat_map g ks) ∙ ap (λ xs. flat_map f (g k) ++ xs) (flat_twice f g ks)

flat_same : {A B : Type 0} (f g : A → List B) (ks : List A) → ((k : A) → f k ≡ g k) → flat_map f ks ≡ flat_map g ks
flat_same f g [] e = refl
flat_same f g (k ∷ ks) e = rw (e k, flat_same f g ks e) refl

map-map : {A B C : Type 0} (h : B → C) (g : A → B) (ks : List A) → map h (map g ks) ≡ map (λ k. h (g k)) ks
map-map h g [] = refl
map-map h g (k ∷ ks) = ap (λ xs. h (g k) ∷ xs) (map-map h g ks)

map_rows : {A B C D : Type 0} (h : C → D) (g : A → B → C) (ls : List B) (ks : List A) → map h (flat_map (λ k. map (g k) ls) ks) ≡ flat_map (λ k. map (λ l. h (g k l)) ls) ks
map_rows h g ls [] = refl
map_rows h g ls (k ∷ ks) = map-append h (map (g k) ls) (flat_map (λ k. map (g k) ls) ks) ∙ rw (map-map h (g k) ls, map_rows h g ls ks) refl

-- ---- an entry
-- the terms after the first
abbrev later_terms : ℕ → Matrix → Matrix → ℕ → ℕ → List (ℤ × ℤ)
later_terms d A P i j = flat_map (λ k. map (λ l. (neg_ℤ (A k i) *ℤ A l j, P k l)) (places d)) (places d)

later_summands : (d : ℕ) (A P : Matrix) (i j : ℕ) → summands (later_terms d A P i j) ≡ flat_map (row_summands d A P i j) (places d)
later_summands d A P i j =
    flat_twice (λ t. as_summand t ∷ []) (λ k. map (λ l. (neg_ℤ (A k i) *ℤ A l j, P k l)) (places d)) (places d)
    ∙ flat_same (λ k. flat_map (λ t. as_summand t ∷ []) (map (λ l. (neg_ℤ (A k i) *ℤ A l j, P k l)) (places d))) (row_summands d A P i j) (places d)
    (λ k. flat_map-map (λ (t : ℤ × ℤ). as_summand t ∷ []) (λ l. (neg_ℤ (A k i) *ℤ A l j, P k l)) (places d))

loss_sum-is : (d : ℕ) (q : ℤ) (A P : Matrix) (i j : ℕ) → loss_sum d q A P i j ≡ unless (any_wide (loss_numbers d q A P i j)) (loss_entry d q A P i j)
loss_sum-is d q A P i j =
    ap (λ ts. sum_from (pos 0) (product q q (P i j) ∷ ts)) (sym (later_summands d A P i j)) ∙ terms_sum (loss_terms d q A P i j)

-- ---- its value
negated_term : (a b p : ℤ) → neg_ℤ a *ℤ b *ℤ p ≡ neg_ℤ (pos 1) *ℤ (p *ℤ a *ℤ b)
negated_term a b p = ring (env (a ∷ b ∷ p ∷ [])) (times (times (minus (var 0)) (var 1)) (var 2)) (times (minus (num (pos 1))) (times (times (var 2) (var 0)) (var 1))) refl

less_all : (x c : ℤ) → x +ℤ neg_ℤ (pos 1) *ℤ c ≡ x -ℤ c
less_all x c = ring (env (x ∷ c ∷ [])) (plus (var 0) (times (minus (num (pos 1))) (var 1))) (plus (var 0) (minus (var 1))) refl

loss_entry-is : (d : ℕ) (q : ℤ) (A P : Matrix) (i j : ℕ) → fall_form d q A P i j ≡ loss_entry d q A P i j
loss_entry-is d q A P i j =
    let first = pos 0 +ℤ q *ℤ q *ℤ P i j in
    let f : ℕ → ℕ → ℤ = λ k l. neg_ℤ (A k i) *ℤ A l j *ℤ P k l in
    let rows = sum_same d (λ k. sum_to d (f k)) (λ k. neg_ℤ (pos 1) *ℤ sum_to d (λ l. P k l *ℤ A k i *ℤ A l j))
    (λ k h. sum_same d (f k) (λ l. neg_ℤ (pos 1) *ℤ (P k l *ℤ A k i *ℤ A l j)) (λ l g. negated_term (A k i) (A l j) (P k l)) ∙ sum_scale d (neg_ℤ (pos 1)) (λ l. P k l *ℤ A k i *ℤ A l j)) in
    let all = rows ∙ sum_scale d (neg_ℤ (pos 1)) (λ k. sum_to d (λ l. P k l *ℤ A k i *ℤ A l j)) in
    sym (sym (total-terms first (later_terms d A P i j))
    ∙ ap (λ xs. total first xs) (map_rows (λ (t : ℤ × ℤ). t.0 *ℤ t.1) (λ k l. (neg_ℤ (A k i) *ℤ A l j, P k l)) (places d) (places d))
    ∙ total-rows first f d d
    ∙ rw (all, +ℤ_idl (q *ℤ q *ℤ P i j)) (less_all (q *ℤ q *ℤ P i j) (congruence d P A i j)))

loss_turned : (d : ℕ) (q : ℤ) (A P : Matrix) → is_symmetric d P ≡ true → (i j : ℕ) → i < d → j < d → fall_form d q A P i j ≡ fall_form d q A P j i
loss_turned d q A P h i j a b = rw (symmetric_at d P h i j a b, congruence-turned d P A i j (symmetric_at d P h)) refl

-- ---- the sum, product by product
pub product_more : (o : Option ℤ) (sum f g x a b p : ℤ) → f ≡ neg_ℤ a → g ≡ b → x ≡ p → o ≡ sum_with sum (product f g x) → o ≡ sum_from sum (product (neg_ℤ a) b p ∷ [])
product_more o sum f g x a b p e h k is = one_summand sum (product (neg_ℤ a) b p) o (is ∙ rw (e, h, k) refl)

-- ---- what the tests of an entry say
-- x is an entry of the loss, and no number on the way to it is too wide
pub record IsEntry (d : ℕ) (q : ℤ) (A P : Matrix) (i j : ℕ) (x : ℤ) : Type 0 where
  pub narrow : any_wide (loss_numbers d q A P i j) ≡ false
  pub is : x ≡ fall_form d q A P i j

pub entry_given : (d : ℕ) (q : ℤ) (A P : Matrix) (i j : ℕ) (x : ℤ) → loss_sum d q A P i j ≡ Some x → IsEntry d q A P i j x
entry_given d q A P i j x h =
    let both = unless-some (any_wide (loss_numbers d q A P i j)) (loss_entry d q A P i j) x (sym (loss_sum-is d q A P i j) ∙ h) in
    record { narrow = both.0; is = both.1 ∙ sym (loss_entry-is d q A P i j) }

pub entry_wide : (d : ℕ) (q : ℤ) (A P : Matrix) (i j : ℕ) → loss_sum d q A P i j ≡ None → any_wide (loss_numbers d q A P i j) ≡ true
entry_wide d q A P i j h = unless-none (any_wide (loss_numbers d q A P i j)) (loss_entry d q A P i j) (sym (loss_sum-is d q A P i j) ∙ h)

stopped : {R : Type 0} (b : Bool) (r e : R) → first_of ((b, r) ∷ []) ≡ Some e → (b ≡ true) × (r ≡ e)
stopped true r e h = (refl, cc)
stopped false r e h = cc

-- the first entry of a row with such a number
pub row_stops : (d j : ℕ) (bad : ℕ → Bool) (r : ℕ → FormRefusal) (e : FormRefusal) → j < d → ((k : ℕ) → k < j → bad k ≡ false) → first_of ((bad j, r j) ∷ []) ≡ Some e
    → first_of (map (λ k. (bad k, r k)) (places d)) ≡ Some e
row_stops d j bad r e p h at = let both = stopped (bad j) (r j) e at in tests_some bad r d j p h both.0 ∙ ap Some both.1

-- ---- the loss of a symmetric form
loss_entries : (d : ℕ) (q : ℤ) (A : Matrix) (P F : Form) → is_symmetric d (matrix_of P.rows) ≡ true → IsLossForm d q A P F
    → AreEntriesOrWide d (loss_entry d q A (matrix_of P.rows)) (λ i j. []) F
loss_entries d q A P F form w =
    let own = loss_entry-is d q A (matrix_of P.rows) in
    entries_of d (loss_entry d q A (matrix_of P.rows)) F (λ i j a b. sym (own i j) ∙ loss_turned d q A (matrix_of P.rows) form i j a b ∙ own j i)
    (λ i j a b. w.entries i j a b ∙ own i j) w.elsewhere

pub loss_symmetric : (d : ℕ) (q : ℤ) (A : Matrix) (P F : Form) → is_symmetric d (matrix_of P.rows) ≡ true → IsLossForm d q A P F → is_symmetric d (matrix_of F.rows) ≡ true
loss_symmetric d q A P F form w = entries_symmetric d (loss_entry d q A (matrix_of P.rows)) (λ i j. []) F (loss_entries d q A P F form w)

-- ---- an offer
-- the tests of an offer, joined as the code has them
pub early_parts : (d : ℕ) (q : ℤ) (A : Matrix) (offer : Falls) → (let P = matrix_of offer.form.rows in first_of (state_falls_tests d q A offer)
    ≡ or_else (first_of (form_tests d offer.form))
    (or_else (first_of (definite_tests part.Positive d offer.positive P (λ i j. [])))
    (or_else (first_of (loss_tests d q A P)) (first_of (definite_tests part.Fall d offer.fall (loss_entry d q A P) (λ i j. []))))))
early_parts d q A offer =
    let P = matrix_of offer.form.rows in
    let a = definite_tests part.Positive d offer.positive P (λ i j. []) in
    let b = loss_tests d q A P in
    let c = definite_tests part.Fall d offer.fall (loss_entry d q A P) (λ i j. []) in
    first_before (bad_form d offer.form) (refusal.Shape part.Form) (a ++ (b ++ c))
    ∙ ap (or_else (first_of (form_tests d offer.form))) (first_of-append a (b ++ c) ∙ ap (or_else (first_of a)) (first_of-append b c))

-- the same, where F is what the form loses
pub late_parts : (d : ℕ) (q : ℤ) (A : Matrix) (offer : Falls) (F : Form) → is_symmetric d (matrix_of offer.form.rows) ≡ true → IsLossForm d q A offer.form F
    → first_of (state_falls_tests d q A offer)
    ≡ or_else (first_of (form_tests d offer.form))
    (or_else (first_of (definite_tests part.Positive d offer.positive (matrix_of offer.form.rows) (λ i j. [])))
    (or_else (first_of (loss_tests d q A (matrix_of offer.form.rows))) (first_of (definite_tests part.Fall d offer.fall (matrix_of F.rows) (λ i j. [])))))
late_parts d q A offer F form w =
    let P = matrix_of offer.form.rows in
    let before = or_else (first_of (definite_tests part.Positive d offer.positive P (λ i j. []))) in
    early_parts d q A offer
    ∙ ap (λ o. or_else (first_of (form_tests d offer.form)) (before (or_else (first_of (loss_tests d q A P)) o)))
    (sym (definite_entries part.Fall d offer.fall (loss_entry d q A P) (λ i j. []) F (loss_entries d q A offer.form F form w)))

pub loss_falls : (d : ℕ) (q : ℤ) (A : Matrix) (offer : Falls) (F : Form) → is_symmetric d (matrix_of offer.form.rows) ≡ true → IsLossForm d q A offer.form F
    → first_of (definite_tests part.Positive d offer.positive (matrix_of offer.form.rows) (λ i j. [])) ≡ None → first_of (definite_tests part.Fall d offer.fall (matrix_of F.rows) (λ i j. [])) ≡ None
    → StrictlyFalls d q A (matrix_of offer.form.rows)
loss_falls d q A offer F form w first second =
    falls_with d q A offer.form F offer.positive offer.fall form (loss_symmetric d q A offer.form F form w) w.entries first second
