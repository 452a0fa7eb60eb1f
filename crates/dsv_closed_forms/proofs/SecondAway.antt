-- The closed forms of unstable polynomials of order 2 are accepted.
use Rattle.std.proofs.Common.{◌≡◌, ℕ, zero, suc, ◌^◌, ◌≤◌, Bool, true, false, int_lt, List, [], ◌∷◌, ◌⊎◌, inl, inr, length, None, refl, ap, ◌∙◌, arith}
use Rattle.std.proofs.Math.IntN.{ℤ, pos, neg_ℤ, ◌+ℤ◌, ◌*ℤ◌}
use Rattle.std.proofs.Math.Path.{fun_ext}
use Rattle.std.specs.Prelude.{if◌then◌else◌}
use Rattle.std.proofs.lemmas.Int.{ints}
use Rattle.std.proofs.lemmas.Bool.{both_ways}
use lib.Signed.{◌<ℤ◌, ◌≤ℤ◌}
use Rattle.dsv_algebra.specs.Vectors.{Vector, Matrix, form_at, vector_of, matrix_of}
use Rattle.dsv_algebra.specs.Companion.{fall_entry}
use Rattle.dsv_algebra.proofs.Normaliser.{Expr, ring, env, var, num, plus, times, minus}
use Rattle.dsv_algebra.proofs.Signs.{mul_positive, mul_negative}
use Rattle.dsv_forms.specs.Refusals.{right_side, side_numbers, rest_of, kept_away_refusal}
use Rattle.dsv_forms.proofs.Passing.{Within, Narrow, within_times, within_neg, fall_numbers_narrow, bare_numbers_narrow}
use Rattle.dsv_forms.proofs.PassingOffers.{same_test, value_numbers_narrow, kept_away_accepted}
use Rattle.dsv_forms.specs.Padded.{row_of, matrix_with, form_with, squares_with}
use Rattle.dsv_closed_forms.specs.ClosedForm.{fall_scale, second_rows, negated_rows, diagonal, negative_start, second_kept_away, equal_ends}
use Rattle.dsv_closed_forms.specs.SmallCoefficients.{AreSmall}
use Rattle.dsv_forms.proofs.Padded.{row_entry, matrix_entry}
use Rattle.dsv_closed_forms.proofs.SecondForm.{at_two, two_within, off_diagonal, c0-e, c1-e, c2-e, sum-e, r-e, p-e, s-e, Loses, loses, loses_negated, coefficient_within, sizes, rows_within, negated_within, short_rows, two}
use Rattle.dsv_closed_forms.proofs.SecondStarts.{left_value, right_value, last_value, SomeNegative, SomePositive, minus_above, minus_below}
use Rattle.dsv_closed_forms.proofs.FirstAccepted.{plain}

-- ---- the form's values at the starts

abbrev value-e : Expr → Expr → Expr → Expr → Expr → Expr
value-e r p s x y =
    plus (plus (num (pos 0)) (plus (plus (num (pos 0)) (times (times r x) x)) (times (times p x) y))) (plus (plus (num (pos 0)) (times (times p y) x)) (times (times s y) y))

abbrev left-e : Expr
left-e = times (plus sum-e (minus c1-e)) (plus (times (num (pos 4)) (times c2-e c2-e)) (times (plus c0-e (minus c2-e)) (plus sum-e c1-e)))

abbrev right-e : Expr
right-e = times (plus sum-e c1-e) (plus (times (num (pos 4)) (times c2-e c2-e)) (times (plus c0-e (minus c2-e)) (plus sum-e (minus c1-e))))

abbrev final-e : Expr
final-e = plus (times (plus c0-e (minus c2-e)) (plus (times c1-e c1-e) (times sum-e sum-e))) (times (num (pos 2)) (times sum-e (times c2-e c2-e)))

abbrev at_start : List (List ℤ) → ℤ → ℤ → ℤ
at_start rows x y = form_at 2 (matrix_of rows) (vector_of (x ∷ y ∷ []))

-- the form's value at each start is c0^2 times its number
pub record Values (c0 c1 c2 : ℤ) : Type 0 where
  pub first : at_start (second_rows c0 c1 c2) (pos 1) (pos 0) ≡ (c0 *ℤ c0) *ℤ (pos 2 *ℤ (c0 +ℤ c2))
  pub left : at_start (second_rows c0 c1 c2) (neg_ℤ c2) c0 ≡ (c0 *ℤ c0) *ℤ left_value c0 c1 c2
  pub right : at_start (second_rows c0 c1 c2) c2 c0 ≡ (c0 *ℤ c0) *ℤ right_value c0 c1 c2
  pub last : at_start (second_rows c0 c1 c2) (neg_ℤ c1) c0 ≡ (c0 *ℤ c0) *ℤ last_value c0 c1 c2

values : (c0 c1 c2 : ℤ) → Values c0 c1 c2
values c0 c1 c2 = record {
  first = ring (env (c0 ∷ c1 ∷ c2 ∷ [])) (value-e r-e p-e s-e (num (pos 1)) (num (pos 0))) (times (times c0-e c0-e) (times (num (pos 2)) sum-e)) refl;
  left = ring (env (c0 ∷ c1 ∷ c2 ∷ [])) (value-e r-e p-e s-e (minus c2-e) c0-e) (times (times c0-e c0-e) left-e) refl;
  right = ring (env (c0 ∷ c1 ∷ c2 ∷ [])) (value-e r-e p-e s-e c2-e c0-e) (times (times c0-e c0-e) right-e) refl;
  last = ring (env (c0 ∷ c1 ∷ c2 ∷ [])) (value-e r-e p-e s-e (minus c1-e) c0-e) (times (times c0-e c0-e) final-e) refl;
}

negated_value : (c0 c1 c2 x y : ℤ) → at_start (negated_rows (second_rows c0 c1 c2)) x y ≡ neg_ℤ (at_start (second_rows c0 c1 c2) x y)
negated_value c0 c1 c2 x y =
    let r = pos 2 *ℤ (c0 +ℤ c2) *ℤ (c0 *ℤ c0) in
    let p = pos 2 *ℤ c0 *ℤ (c1 *ℤ c2) in
    let s = pos 2 *ℤ (c0 +ℤ c2) *ℤ (c2 *ℤ c2) +ℤ fall_scale c0 c1 c2 in
    ring (env (r ∷ p ∷ s ∷ x ∷ y ∷ [])) (value-e (minus (var 0)) (minus (var 1)) (minus (var 2)) (var 3) (var 4)) (minus (value-e (var 0) (var 1) (var 2) (var 3) (var 4))) refl

-- ---- the first start at which a form is negative

less_test : (z : ℤ) → z <ℤ pos 0 → int_lt z (pos 0) ≡ true
less_test z h = grind (arith, ints)

less_by : (z : ℤ) → int_lt z (pos 0) ≡ true → z <ℤ pos 0
less_by z h = grind (arith, ints)

chosen_by : (rows : List (List ℤ)) (b : Bool) (start other : List ℤ) → int_lt (form_at 2 (matrix_of rows) (vector_of start)) (pos 0) ≡ b
    → (b ≡ false → form_at 2 (matrix_of rows) (vector_of other) <ℤ pos 0) → form_at 2 (matrix_of rows) (vector_of (if b then start else other)) <ℤ pos 0
chosen_by rows true start other e h = less_by (form_at 2 (matrix_of rows) (vector_of start)) e
chosen_by rows false start other e h = h refl

-- one of these is negative
abbrev OneOf : List (List ℤ) → List (List ℤ) → List ℤ → Type 0
OneOf rows [] last = form_at 2 (matrix_of rows) (vector_of last) <ℤ pos 0
OneOf rows (start ∷ starts) last = (form_at 2 (matrix_of rows) (vector_of start) <ℤ pos 0) ⊎ OneOf rows starts last

not_first : (rows : List (List ℤ)) (start : List ℤ) (starts : List (List ℤ)) (last : List ℤ) → OneOf rows (start ∷ starts) last
    → int_lt (form_at 2 (matrix_of rows) (vector_of start)) (pos 0) ≡ false → OneOf rows starts last
not_first rows start starts last (inl h) e = absurd (both_ways (int_lt (form_at 2 (matrix_of rows) (vector_of start)) (pos 0)) e (less_test (form_at 2 (matrix_of rows) (vector_of start)) h))
not_first rows start starts last (inr h) e = h

pub chosen_start : (rows starts : List (List ℤ)) (last : List ℤ) → OneOf rows starts last → form_at 2 (matrix_of rows) (vector_of (negative_start rows starts last)) <ℤ pos 0
chosen_start rows [] last h = h
chosen_start rows (start ∷ starts) last h =
    chosen_by rows (int_lt (form_at 2 (matrix_of rows) (vector_of start)) (pos 0)) start (negative_start rows starts last) refl
    (λ e. chosen_start rows starts last (not_first rows start starts last h e))

-- what holds of each start holds of the one that is chosen
abbrev AllOf : (List ℤ → Type 0) → List (List ℤ) → Type 0
AllOf Q [] = Unit {0}
AllOf Q (start ∷ starts) = Q start × AllOf Q starts

one_or : (b : Bool) (Q : List ℤ → Type 0) (x y : List ℤ) → Q x → Q y → Q (if b then x else y)
one_or true Q x y h k = h
one_or false Q x y h k = k

of_chosen : (Q : List ℤ → Type 0) (rows starts : List (List ℤ)) (last : List ℤ) → AllOf Q starts → Q last → Q (negative_start rows starts last)
of_chosen Q rows [] last h k = k
of_chosen Q rows (start ∷ starts) last h k = one_or (int_lt (form_at 2 (matrix_of rows) (vector_of start)) (pos 0)) Q start (negative_start rows starts last) h.0 (of_chosen Q rows starts last h.1 k)

-- ---- entries

-- a form's value at a start, both filled up with 0
filled_value : (a b c d : ℤ) (start : List ℤ) → length start ≤ 8 → form_at 2 (matrix_of (matrix_with (two a b c d))) (vector_of (row_of start)) ≡ form_at 2 (matrix_of (two a b c d)) (vector_of start)
filled_value a b c d start few =
    ap (λ (P : Matrix). form_at 2 P (vector_of (row_of start))) (fun_ext (λ i. fun_ext (λ j. matrix_entry (two a b c d) i j (omega arith) (short_rows a b c d))))
    ∙ ap (λ (v : Vector). form_at 2 (matrix_of (two a b c d)) v) (fun_ext (λ j. row_entry start j few))

pair_within : (n : ℕ) (x y : ℤ) → Within n x → Within n y → (k : ℕ) → Within n (vector_of (row_of (x ∷ y ∷ [])) k)
pair_within n x y h k zero = h
pair_within n x y h k (suc zero) = k
pair_within n x y h k (suc (suc i)) = rw (row_entry (x ∷ y ∷ []) (suc (suc i)) (omega arith)) (omega arith)

-- what is asked of a form of two places with equal entries beside the diagonal that loses w on the diagonal
record IsAwayForm (c0 c1 c2 a b d w : ℤ) (start : List ℤ) : Type 0 where
  coefficients : AreSmall c0 c1 c2
  entries : (i j : ℕ) → Within (2 ^ 74) (matrix_of (matrix_with (two a b b d)) i j)
  losses : Loses c0 c1 c2 (two a b b d) w
  sign : pos 0 ≤ℤ w
  size : Within (2 ^ 119) w
  few : length start ≤ 8
  short : (k : ℕ) → Within (2 ^ 23) (vector_of (row_of start) k)
  negative : form_at 2 (matrix_of (two a b b d)) (vector_of start) <ℤ pos 0

away : (c0 c1 c2 a b d w : ℤ) (start : List ℤ) → IsAwayForm c0 c1 c2 a b d w start
    → kept_away_refusal (c0 ∷ c1 ∷ c2 ∷ []) (record { form = form_with (two a b b d); start = row_of start; fall = squares_with (pos 1) [] [] (diagonal w) }) ≡ None
away c0 c1 c2 a b d w start h =
    let c = vector_of (c0 ∷ c1 ∷ c2 ∷ []) in
    let P = matrix_of (matrix_with (two a b b d)) in
    let fall = squares_with (pos 1) [] [] (diagonal w) in
    let l = h.losses in
    kept_away_accepted (c0 ∷ c1 ∷ c2 ∷ []) (record { form = form_with (two a b b d); start = row_of start; fall = fall }) 2 (2 ^ 119) refl
    (rw (same_test a a refl, same_test b b refl, same_test d d refl) refl)
    (record {
      shape = rw (same_test w w refl) refl;
      none = refl;
      way = λ i j x y. fall_numbers_narrow (2 ^ 23) (2 ^ 74) 2 c P i j (coefficient_within c0 c1 c2 h.coefficients) h.entries (omega arith) (omega arith);
      sides = at_two (λ i j. Narrow (side_numbers 0 fall (fall_entry 2 c P i j) i j))
          (bare_numbers_narrow fall (fall_entry 2 c P 0 0) 0 0 (2 ^ 119) (2 ^ 119) (rw (l.first) h.size) refl h.size (omega arith) (omega arith))
          (bare_numbers_narrow fall (fall_entry 2 c P 0 1) 0 1 (2 ^ 119) (2 ^ 119) (rw (l.upper) (omega arith)) refl (omega arith) (omega arith) (omega arith))
          (bare_numbers_narrow fall (fall_entry 2 c P 1 0) 1 0 (2 ^ 119) (2 ^ 119) (rw (l.lower) (omega arith)) refl (omega arith) (omega arith) (omega arith))
          (bare_numbers_narrow fall (fall_entry 2 c P 1 1) 1 1 (2 ^ 119) (2 ^ 119) (rw (l.last) h.size) refl h.size (omega arith) (omega arith));
      same = at_two (λ i j. pos 1 *ℤ fall_entry 2 c P i j ≡ right_side 0 fall i j) (rw (l.first) (plain w)) (rw (l.upper) refl) (rw (l.lower) refl) (rw (l.last) (plain w));
      rest = record {
        off = off_diagonal w;
        sign = λ i x. at_two (λ i j. pos 0 ≤ℤ rest_of fall i i) h.sign h.sign h.sign h.sign i 0 x (omega arith);
        small = λ i x. two_within (2 ^ 119) w (pos 0) (pos 0) w i i h.size (omega arith) (omega arith) h.size;
      };
      small = omega arith;
    })
    (value_numbers_narrow 2 (2 ^ 74) (2 ^ 23) P (vector_of (row_of start)) h.entries h.short (omega arith) (omega arith) (omega arith))
    (rw (filled_value a b b d start h.few) h.negative)

-- ---- where the scale isn't 0

twice_negative : (x : ℤ) → x <ℤ pos 0 → (pos 2 *ℤ x) <ℤ pos 0
twice_negative x h = omega (arith, ints)

twice_positive : (x : ℤ) → pos 0 <ℤ x → pos 0 <ℤ (pos 2 *ℤ x)
twice_positive x h = omega (arith, ints)

abbrev starts_of : ℤ → ℤ → List (List ℤ)
starts_of c0 c2 = (pos 1 ∷ pos 0 ∷ []) ∷ (neg_ℤ c2 ∷ c0 ∷ []) ∷ (c2 ∷ c0 ∷ []) ∷ []

one_negative : (c0 c1 c2 : ℤ) → pos 0 <ℤ (c0 *ℤ c0) → SomeNegative c0 c1 c2 → OneOf (second_rows c0 c1 c2) (starts_of c0 c2) (neg_ℤ c1 ∷ c0 ∷ [])
one_negative c0 c1 c2 p (inl h) = inl (rw ((values c0 c1 c2).first) (mul_negative (c0 *ℤ c0) (pos 2 *ℤ (c0 +ℤ c2)) p (twice_negative (c0 +ℤ c2) h)))
one_negative c0 c1 c2 p (inr (inl h)) = inr (inl (rw ((values c0 c1 c2).left) (mul_negative (c0 *ℤ c0) (left_value c0 c1 c2) p h)))
one_negative c0 c1 c2 p (inr (inr (inl h))) = inr (inr (inl (rw ((values c0 c1 c2).right) (mul_negative (c0 *ℤ c0) (right_value c0 c1 c2) p h))))
one_negative c0 c1 c2 p (inr (inr (inr h))) = inr (inr (inr (rw ((values c0 c1 c2).last) (mul_negative (c0 *ℤ c0) (last_value c0 c1 c2) p h))))

turned : (c0 c1 c2 x y v : ℤ) → at_start (second_rows c0 c1 c2) x y ≡ (c0 *ℤ c0) *ℤ v → pos 0 <ℤ (c0 *ℤ c0) → pos 0 <ℤ v → at_start (negated_rows (second_rows c0 c1 c2)) x y <ℤ pos 0
turned c0 c1 c2 x y v e p h = rw (negated_value c0 c1 c2 x y, e) (minus_above ((c0 *ℤ c0) *ℤ v) (mul_positive (c0 *ℤ c0) v p h))

one_positive : (c0 c1 c2 : ℤ) → pos 0 <ℤ (c0 *ℤ c0) → SomePositive c0 c1 c2 → OneOf (negated_rows (second_rows c0 c1 c2)) (starts_of c0 c2) (neg_ℤ c1 ∷ c0 ∷ [])
one_positive c0 c1 c2 p (inl h) = inl (turned c0 c1 c2 (pos 1) (pos 0) (pos 2 *ℤ (c0 +ℤ c2)) (values c0 c1 c2).first p (twice_positive (c0 +ℤ c2) h))
one_positive c0 c1 c2 p (inr (inl h)) = inr (inl (turned c0 c1 c2 (neg_ℤ c2) c0 (left_value c0 c1 c2) (values c0 c1 c2).left p h))
one_positive c0 c1 c2 p (inr (inr (inl h))) = inr (inr (inl (turned c0 c1 c2 c2 c0 (right_value c0 c1 c2) (values c0 c1 c2).right p h)))
one_positive c0 c1 c2 p (inr (inr (inr h))) = inr (inr (inr (turned c0 c1 c2 (neg_ℤ c1) c0 (last_value c0 c1 c2) (values c0 c1 c2).last p h)))

starts_few : (c0 c1 c2 : ℤ) (rows : List (List ℤ)) → length (negative_start rows (starts_of c0 c2) (neg_ℤ c1 ∷ c0 ∷ [])) ≤ 8
starts_few c0 c1 c2 rows = of_chosen (λ s. length s ≤ 8) rows (starts_of c0 c2) (neg_ℤ c1 ∷ c0 ∷ []) (omega arith, (omega arith, (omega arith, tt))) (omega arith)

starts_short : (c0 c1 c2 : ℤ) (rows : List (List ℤ)) → AreSmall c0 c1 c2 → (k : ℕ) → Within (2 ^ 23) (vector_of (row_of (negative_start rows (starts_of c0 c2) (neg_ℤ c1 ∷ c0 ∷ []))) k)
starts_short c0 c1 c2 rows h =
    of_chosen (λ s. (k : ℕ) → Within (2 ^ 23) (vector_of (row_of s) k)) rows (starts_of c0 c2) (neg_ℤ c1 ∷ c0 ∷ [])
    (pair_within (2 ^ 23) (pos 1) (pos 0) (omega arith) (omega arith), (pair_within (2 ^ 23) (neg_ℤ c2) c0 (within_neg (2 ^ 23) c2 h.third) h.first, (pair_within (2 ^ 23) c2 c0 h.third h.first, tt)))
    (pair_within (2 ^ 23) (neg_ℤ c1) c0 (within_neg (2 ^ 23) c1 h.second) h.first)

at_most : (z : ℤ) → pos 0 <ℤ z → pos 0 ≤ℤ z
at_most z h = omega (arith, ints)

pub away_above : (c0 c1 c2 : ℤ) → AreSmall c0 c1 c2 → pos 0 <ℤ c0 → pos 0 <ℤ fall_scale c0 c1 c2 → SomeNegative c0 c1 c2
    → kept_away_refusal (c0 ∷ c1 ∷ c2 ∷ []) (second_kept_away c0 c1 c2 (second_rows c0 c1 c2) (c0 *ℤ c0 *ℤ fall_scale c0 c1 c2)) ≡ None
away_above c0 c1 c2 small p k h =
    let rows = second_rows c0 c1 c2 in
    let w = c0 *ℤ c0 *ℤ fall_scale c0 c1 c2 in
    let q = mul_positive c0 c0 p p in
    away c0 c1 c2 (pos 2 *ℤ (c0 +ℤ c2) *ℤ (c0 *ℤ c0)) (pos 2 *ℤ c0 *ℤ (c1 *ℤ c2)) (pos 2 *ℤ (c0 +ℤ c2) *ℤ (c2 *ℤ c2) +ℤ fall_scale c0 c1 c2) w (negative_start rows (starts_of c0 c2) (neg_ℤ c1 ∷ c0 ∷ []))
    (record {
      coefficients = small;
      entries = rows_within c0 c1 c2 small;
      losses = loses c0 c1 c2;
      sign = at_most w (mul_positive (c0 *ℤ c0) (fall_scale c0 c1 c2) q k);
      size = (sizes c0 c1 c2 small).loss;
      few = starts_few c0 c1 c2 rows;
      short = starts_short c0 c1 c2 rows small;
      negative = chosen_start rows (starts_of c0 c2) (neg_ℤ c1 ∷ c0 ∷ []) (one_negative c0 c1 c2 q h);
    })

pub away_below : (c0 c1 c2 : ℤ) → AreSmall c0 c1 c2 → pos 0 <ℤ c0 → fall_scale c0 c1 c2 <ℤ pos 0 → SomePositive c0 c1 c2
    → kept_away_refusal (c0 ∷ c1 ∷ c2 ∷ []) (second_kept_away c0 c1 c2 (negated_rows (second_rows c0 c1 c2)) (neg_ℤ (c0 *ℤ c0 *ℤ fall_scale c0 c1 c2))) ≡ None
away_below c0 c1 c2 small p k h =
    let rows = negated_rows (second_rows c0 c1 c2) in
    let w = c0 *ℤ c0 *ℤ fall_scale c0 c1 c2 in
    let q = mul_positive c0 c0 p p in
    away c0 c1 c2 (neg_ℤ (pos 2 *ℤ (c0 +ℤ c2) *ℤ (c0 *ℤ c0))) (neg_ℤ (pos 2 *ℤ c0 *ℤ (c1 *ℤ c2))) (neg_ℤ (pos 2 *ℤ (c0 +ℤ c2) *ℤ (c2 *ℤ c2) +ℤ fall_scale c0 c1 c2)) (neg_ℤ w) (negative_start rows (starts_of c0 c2) (neg_ℤ c1 ∷ c0 ∷ []))
    (record {
      coefficients = small;
      entries = negated_within c0 c1 c2 small;
      losses = loses_negated c0 c1 c2;
      sign = at_most (neg_ℤ w) (minus_below w (mul_negative (c0 *ℤ c0) (fall_scale c0 c1 c2) q k));
      size = within_neg (2 ^ 119) w (sizes c0 c1 c2 small).loss;
      few = starts_few c0 c1 c2 rows;
      short = starts_short c0 c1 c2 rows small;
      negative = chosen_start rows (starts_of c0 c2) (neg_ℤ c1 ∷ c0 ∷ []) (one_positive c0 c1 c2 q h);
    })

-- ---- where the last coefficient is the first one

equal_losses : (c0 c1 : ℤ) → Loses c0 c1 c0 (two (neg_ℤ (pos 2 *ℤ c0)) (neg_ℤ c1) (neg_ℤ c1) (neg_ℤ (pos 2 *ℤ c0))) (pos 0)
equal_losses c0 c1 =
    let r = minus (times (num (pos 2)) (var 0)) in
    let p = minus (var 1) in
    record {
      first = ring (env (c0 ∷ c1 ∷ []))
          (plus (plus (plus (plus (plus (num (pos 0)) (times (times (var 0) (var 0)) r)) (times (minus (times (var 1) (var 1))) r)) (times (times (var 1) (var 0)) p)) (times (times (var 0) (var 1)) p)) (times (minus (times (var 0) (var 0))) r))
          (num (pos 0)) refl;
      upper = ring (env (c0 ∷ c1 ∷ [])) (plus (plus (plus (num (pos 0)) (times (times (var 0) (var 0)) p)) (times (minus (times (var 1) (var 0))) r)) (times (times (var 0) (var 0)) p)) (num (pos 0)) refl;
      lower = ring (env (c0 ∷ c1 ∷ [])) (plus (plus (plus (num (pos 0)) (times (times (var 0) (var 0)) p)) (times (minus (times (var 0) (var 1))) r)) (times (times (var 0) (var 0)) p)) (num (pos 0)) refl;
      last = ring (env (c0 ∷ c1 ∷ [])) (plus (plus (num (pos 0)) (times (times (var 0) (var 0)) r)) (times (minus (times (var 0) (var 0))) r)) (num (pos 0)) refl;
    }

equal_value : (c0 c1 : ℤ) → pos 0 <ℤ c0 → at_start (two (neg_ℤ (pos 2 *ℤ c0)) (neg_ℤ c1) (neg_ℤ c1) (neg_ℤ (pos 2 *ℤ c0))) (pos 1) (pos 0) <ℤ pos 0
equal_value c0 c1 p =
    let e = ring (env (c0 ∷ c1 ∷ [])) (value-e (minus (times (num (pos 2)) (var 0))) (minus (var 1)) (minus (times (num (pos 2)) (var 0))) (num (pos 1)) (num (pos 0))) (minus (times (num (pos 2)) (var 0))) refl in
    rw e (minus_above (pos 2 *ℤ c0) (twice_positive c0 p))

wide_enough : (z : ℤ) → Within (2 ^ 24) z → Within (2 ^ 74) z
wide_enough z h = omega (arith, h)

small_twice : (z : ℤ) → Within (2 ^ 23) z → Within (2 ^ 24) z
small_twice z h = omega (arith, h)

small_entry : (z : ℤ) → Within (2 ^ 23) z → Within (2 ^ 74) (neg_ℤ (pos 2 *ℤ z))
small_entry z h = within_neg (2 ^ 74) (pos 2 *ℤ z) (wide_enough (pos 2 *ℤ z) (within_times 2 (2 ^ 23) (pos 2) z (omega arith) h))

pub equal_away : (c0 c1 : ℤ) → AreSmall c0 c1 c0 → pos 0 <ℤ c0 → kept_away_refusal (c0 ∷ c1 ∷ c0 ∷ []) (equal_ends c0 c1 c0) ≡ None
equal_away c0 c1 small p =
    let b = within_neg (2 ^ 74) c1 (wide_enough c1 (small_twice c1 small.second)) in
    away c0 c1 c0 (neg_ℤ (pos 2 *ℤ c0)) (neg_ℤ c1) (neg_ℤ (pos 2 *ℤ c0)) (pos 0) (pos 1 ∷ pos 0 ∷ [])
    (record {
      coefficients = small;
      entries = λ i j. two_within (2 ^ 74) (neg_ℤ (pos 2 *ℤ c0)) (neg_ℤ c1) (neg_ℤ c1) (neg_ℤ (pos 2 *ℤ c0)) i j (small_entry c0 small.first) b b (small_entry c0 small.first);
      losses = equal_losses c0 c1;
      sign = omega (arith, ints);
      size = omega arith;
      few = omega arith;
      short = pair_within (2 ^ 23) (pos 1) (pos 0) (omega arith) (omega arith);
      negative = equal_value c0 c1 p;
    })
