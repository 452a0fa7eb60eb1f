-- What the code has for both forms stands for them.
use Rattle.std.proofs.Common.{◌≡◌, ℕ, suc, ◌+◌, ◌<◌, ◌≤◌, Bool, true, false, ◌&&◌, ◌==◌, nat_lt, if◌then◌else◌, List, [], ◌∷◌, map, Option, Some, refl, sym, ap, subst, ◌∙◌, arith, inl, inr}
use Rattle.std.proofs.Math.IntN.{ℤ, pos, neg_ℤ, ◌+ℤ◌, ◌-ℤ◌, ◌*ℤ◌}
use Rattle.std.proofs.lemmas.Bool.{cases_lt}
use Rattle.std.proofs.lemmas.Bool.Decides.{nat_tests}
use Rattle.std.proofs.lemmas.Int.{ints}
use Rattle.dsv_algebra.specs.Companion.{total_from, image_terms}
use Rattle.dsv_algebra.specs.Vectors.{Vector, Matrix, matrix_of}
use Rattle.dsv_forms.specs.declared.offers.Form.{Form}
use Rattle.dsv_forms.specs.declared.refusal.OfferPart.TheVariants as part
use Rattle.dsv_forms.specs.Refusals.{is_symmetric}
use Rattle.dsv_forms.specs.Sums.{Summand, sum_from}
use Rattle.dsv_forms.proofs.FallLemmas.{entries_of, entries_symmetric, total-terms}
use Rattle.dsv_forms.proofs.OfferLemmas.{semidefinite_entries}
use Rattle.dsv_forms.proofs.Shown.{symmetric_at}
use Rattle.dsv_forms.proofs.SumLemmas.{unless-some, sum_from-is, values, total}
use Rattle.dsv_certfile.specs.declared.ellipsoid.Ellipsoid.{Ellipsoid}
use Rattle.dsv_ellipsoid.specs.Good.{form_of, step_form, first_form}
use Rattle.dsv_ellipsoid.specs.Entries.{numbered, scaled, bare, inside_summands, side_terms, side_summands, corner_summands, step_summands, first_summands}
use Rattle.dsv_ellipsoid.specs.Stages.{StandsFor}
use Rattle.dsv_ellipsoid.specs.Sums.{IsSummed, step_sum, first_sum}
use Rattle.dsv_ellipsoid.proofs.EntryLemmas.{step_sum-is, first_sum-is, step_is_wide, first_is_wide}
use Rattle.dsv_ellipsoid.proofs.StepEntries.{entries, step_turned, first_turned}

-- ---- the value of a sum
sum_value : (ts : List Summand) (x : ℤ) → sum_from (pos 0) ts ≡ Some x → x ≡ total (pos 0) (values ts)
sum_value ts x h = (unless-some _ (total (pos 0) (values ts)) x (sym (sum_from-is (pos 0) ts) ∙ h)).1

values-numbered : (ts : List (ℤ × ℤ)) → values (map numbered ts) ≡ map (λ (t : ℤ × ℤ). t.0 *ℤ t.1) ts
values-numbered [] = refl
values-numbered (t ∷ ts) = ap (λ xs. (t.0 *ℤ t.1) ∷ xs) (values-numbered ts)

values-scaled : (ts : List (ℤ × ℤ)) → values (map (λ (t : ℤ × ℤ). scaled t.0 t.1) ts) ≡ map (λ (t : ℤ × ℤ). t.0 *ℤ t.1) ts
values-scaled [] = refl
values-scaled (t ∷ ts) = ap (λ xs. (t.0 *ℤ t.1) ∷ xs) (values-scaled ts)

-- ---- the step form
chosen_first : (b : Bool) (x y : List Summand) → b ≡ true → (if b then x else y) ≡ x
chosen_first b x y e = rw e refl

chosen_second : (b : Bool) (x y : List Summand) → b ≡ false → (if b then x else y) ≡ y
chosen_second b x y e = rw e refl

-- which summands an entry has
inside_chosen : (d : ℕ) (c : Vector) (o : Ellipsoid) (i j : ℕ) → i < d → j < d → step_summands d c o i j ≡ inside_summands d c o i j
inside_chosen d c o i j p q =
    let a : nat_lt i d ≡ true = grind (arith, nat_tests) in
    let b : nat_lt j d ≡ true = grind (arith, nat_tests) in
    chosen_first (nat_lt i d) _ _ a ∙ chosen_first (nat_lt j d) _ _ b

side_chosen : (d : ℕ) (c : Vector) (o : Ellipsoid) (i j : ℕ) → i < d → d ≤ j → step_summands d c o i j ≡ side_summands d c o i
side_chosen d c o i j p q =
    let a : nat_lt i d ≡ true = grind (arith, nat_tests) in
    let b : nat_lt j d ≡ false = grind (arith, nat_tests) in
    chosen_first (nat_lt i d) _ _ a ∙ chosen_second (nat_lt j d) _ _ b

below_chosen : (d : ℕ) (c : Vector) (o : Ellipsoid) (i j : ℕ) → d ≤ i → j < d → step_summands d c o i j ≡ side_summands d c o j
below_chosen d c o i j p q =
    let a : nat_lt i d ≡ false = grind (arith, nat_tests) in
    let b : nat_lt j d ≡ true = grind (arith, nat_tests) in
    chosen_second (nat_lt i d) _ _ a ∙ chosen_first (nat_lt j d) _ _ b

corner_chosen : (d : ℕ) (c : Vector) (o : Ellipsoid) (i j : ℕ) → d ≤ i → d ≤ j → step_summands d c o i j ≡ corner_summands o
corner_chosen d c o i j p q =
    let a : nat_lt i d ≡ false = grind (arith, nat_tests) in
    let b : nat_lt j d ≡ false = grind (arith, nat_tests) in
    chosen_second (nat_lt i d) _ _ a ∙ chosen_second (nat_lt j d) _ _ b

corner_total : (m p : ℤ) → (pos 0 +ℤ m) +ℤ neg_ℤ p ≡ m -ℤ p
corner_total m p = omega (arith, ints)

inside_total : (d : ℕ) (c : Vector) (o : Ellipsoid) (i j : ℕ) → total (pos 0) (values (inside_summands d c o i j)) ≡ total_from (pos 0) ((o.lambda, form_of o i j) ∷ image_terms d c (form_of o) i j)
inside_total d c o i j =
    ap (λ xs. total (pos 0) ((o.lambda *ℤ form_of o i j) ∷ xs)) (values-numbered (image_terms d c (form_of o) i j))
    ∙ total-terms (pos 0) ((o.lambda, form_of o i j) ∷ image_terms d c (form_of o) i j)

side_total : (d : ℕ) (c : Vector) (o : Ellipsoid) (i : ℕ) → total (pos 0) (values (side_summands d c o i)) ≡ total_from (pos 0) (side_terms d c o i)
side_total d c o i = ap (total (pos 0)) (values-scaled (side_terms d c o i)) ∙ total-terms (pos 0) (side_terms d c o i)

step_value : (d : ℕ) (c : Vector) (o : Ellipsoid) (i j : ℕ) (v : ℤ) → 1 ≤ d → is_symmetric d (form_of o) ≡ true → i < suc d → j < suc d
    → sum_from (pos 0) (step_summands d c o i j) ≡ Some v → v ≡ step_form d c o i j
step_value d c o i j v some form p q h =
    let symmetric = symmetric_at d (form_of o) form in
    let a = entries d c o some symmetric in
    let own : (ts : List Summand) → step_summands d c o i j ≡ ts → v ≡ total (pos 0) (values ts) = λ ts e. sum_value ts v (ap (sum_from (pos 0)) (sym e) ∙ h) in
    elim (cases_lt i d) [
      | inl x ↦ elim (cases_lt j d) [
        | inl y ↦ own (inside_summands d c o i j) (inside_chosen d c o i j x y) ∙ inside_total d c o i j ∙ sym (a.inside i j x y)
        | inr y ↦ (let e : d ≡ j = omega arith in
            own (side_summands d c o i) (side_chosen d c o i j x y) ∙ side_total d c o i ∙ sym (a.side i x) ∙ ap (step_form d c o i) e)
      ]
      | inr x ↦ (let f : d ≡ i = omega arith in elim (cases_lt j d) [
        | inl y ↦ own (side_summands d c o j) (below_chosen d c o i j x y) ∙ side_total d c o j ∙ sym (a.side j y)
            ∙ step_turned d c o symmetric j d q (omega arith) ∙ ap (λ k. step_form d c o k j) f
        | inr y ↦ (let e : d ≡ j = omega arith in
            own (corner_summands o) (corner_chosen d c o i j x y) ∙ corner_total o.mu (form_of o 0 0) ∙ sym a.corner
            ∙ ap (λ k. step_form d c o k d) f ∙ ap (step_form d c o i) e)
      ])
    ]

-- ---- the first form
first_total : (a b : Bool) (s k : ℤ) → total (pos 0) (s ∷ values (if a && b then bare (neg_ℤ k) ∷ [] else [])) ≡ s -ℤ (if a then (if b then k else pos 0) else pos 0)
first_total true true s k = omega (arith, ints)
first_total true false s k = omega (arith, ints)
first_total false b s k = omega (arith, ints)

first_value : (o : Ellipsoid) (i j : ℕ) (v : ℤ) → sum_from (pos 0) (first_summands o i j) ≡ Some v → v ≡ first_form o i j
first_value o i j v h = sum_value (first_summands o i j) v h ∙ first_total (i == 0) (j == 0) (o.nu *ℤ form_of o i j) o.kappa

-- ---- both
stands : (n : ℕ) (T : Matrix) (sum : ℕ → ℕ → Option ℤ) (F : Form) → IsSummed n sum F → ((i j : ℕ) → i < n → j < n → T i j ≡ T j i)
    → ((i j : ℕ) (v : ℤ) → i < n → j < n → sum i j ≡ Some v → v ≡ T i j) → StandsFor n T F
stands n T sum F w turned h =
    let a = entries_of n T F turned (λ i j p q. h i j (matrix_of F.rows i j) p q (w.entries i j p q)) w.elsewhere in
    record {
      places = w.places;
      symmetric = entries_symmetric n T (λ i j. []) F a;
      tests = λ s. semidefinite_entries part.Fall n s T (λ i j. []) F a;
    }

pub step_stands : (d : ℕ) (c : Vector) (o : Ellipsoid) (F : Form) → 1 ≤ d → is_symmetric d (form_of o) ≡ true → IsSummed (d + 1) (step_sum d c o) F → StandsFor (suc d) (step_form d c o) F
step_stands d c o F some form w =
    let n : d + 1 ≡ suc d = omega arith in
    subst (λ k. StandsFor k (step_form d c o) F) n (stands (d + 1) (step_form d c o) (step_sum d c o) F w
    (λ i j p q. step_turned d c o (symmetric_at d (form_of o) form) i j (omega (arith, p)) (omega (arith, q)))
    (λ i j v p q h. step_value d c o i j v some form (omega (arith, p)) (omega (arith, q)) (sym (step_sum-is d c o i j) ∙ h)))

pub first_stands : (d : ℕ) (o : Ellipsoid) (F : Form) → is_symmetric d (form_of o) ≡ true → IsSummed d (first_sum o) F → StandsFor d (first_form o) F
first_stands d o F form w =
    stands d (first_form o) (first_sum o) F w (first_turned d o (symmetric_at d (form_of o) form)) (λ i j v p q h. first_value o i j v (sym (first_sum-is o i j) ∙ h))

pub ruleset both_forms = (step_is_wide, first_is_wide, step_stands, first_stands)
