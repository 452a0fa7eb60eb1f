-- A polynomial divided by z - t, coefficient by coefficient.
use Rattle.std.proofs.Common.{◌≡◌, ℕ, zero, suc, ◌+◌, ◌-◌, ◌*◌, ◌^◌, ◌<◌, ◌≤◌, List, [], ◌∷◌, ◌++◌, length, take, drop, replicate, get_or, set, refl, sym, ap, ◌∙◌, arith}
use Rattle.std.proofs.Math.IntN.{ℤ, pos, ◌+ℤ◌, ◌*ℤ◌}
use Rattle.std.proofs.lemmas.List.{length-take, length-drop, drop_more, take_more, get_or-drop, take_all}
use Rattle.dsv_algebra.specs.Vectors.{vector_of}
use Rattle.dsv_forms.specs.Poly.{greatest_order, most_coefficients}
use Rattle.dsv_forms.specs.Padded.{row_of}
use Rattle.dsv_forms.proofs.Passing.{Within, within_times, within_plus}
use Rattle.dsv_closed_forms.specs.ClosedForm.{value_from, quotient_from, root_limit}
use Rattle.dsv_closed_forms.proofs.RootAccepted.{quotient_length, quotient_within}
use Rattle.dsv_forms.proofs.Filling.{row_more}

-- the quotient of a list of coefficients, the leading one first
abbrev pub whole_quotient : ℤ → List ℤ → List ℤ
whole_quotient t c = quotient_from t (vector_of c 0) (drop 1 c)

-- What the division has after i coefficients: what is carried, and the quotient so far.
pub record IsDivision (t : ℤ) (c : List ℤ) (i : ℕ) (carry : ℤ) (quotient : List ℤ) : Type 0 where
  pub value : value_from t carry (drop (i + 1) c) ≡ value_from t (vector_of c 0) (drop 1 c)
  pub rest : quotient_from t carry (drop (i + 1) c) ≡ drop i (whole_quotient t c)
  pub filled : quotient ≡ row_of (take i (whole_quotient t c))
  pub small : Within (root_limit * (i + 1)) carry

long : (t : ℤ) (c : List ℤ) (i : ℕ) → i + 1 < length c → i < length (whole_quotient t c)
long t c i h = omega (arith, h, quotient_length t (vector_of c 0) (drop 1 c), length-drop 1 c)

heads : (x y : ℤ) (xs ys : List ℤ) → x ∷ xs ≡ y ∷ ys → x ≡ y
heads x y xs ys h = cc

tails : (x y : ℤ) (xs ys : List ℤ) → x ∷ xs ≡ y ∷ ys → xs ≡ ys
tails x y xs ys h = cc

-- what is carried is the quotient's next coefficient, and leads to those after it
next : (t carry : ℤ) (c quotient : List ℤ) (i : ℕ) → IsDivision t c i carry quotient → i + 1 < length c
    → carry ∷ quotient_from t (vector_of c (i + 1) +ℤ t *ℤ carry) (drop (i + 1 + 1) c) ≡ get_or (whole_quotient t c) i (pos 0) ∷ drop (i + 1) (whole_quotient t c)
next t carry c quotient i d h =
    ap (quotient_from t carry) (sym (drop_more c (i + 1) (pos 0) h)) ∙ d.rest ∙ drop_more (whole_quotient t c) i (pos 0) (long t c i h)

grown : (t carry x : ℤ) (i : ℕ) → Within 1 t → Within (root_limit * (i + 1)) carry → Within root_limit x → Within (root_limit * (i + 1 + 1)) (x +ℤ t *ℤ carry)
grown t carry x i one h k =
    let product : Within (1 * (root_limit * (i + 1))) (t *ℤ carry) = within_times 1 (root_limit * (i + 1)) t carry one h in
    let e : root_limit + 1 * (root_limit * (i + 1)) ≡ root_limit * (i + 1 + 1) = omega arith in
    rw (← e) (within_plus root_limit (1 * (root_limit * (i + 1))) x (t *ℤ carry) k product)

pub division_step : (t carry : ℤ) (c quotient : List ℤ) (i : ℕ) → IsDivision t c i carry quotient → i + 1 < length c → length c ≤ most_coefficients → Within 1 t → Within root_limit (vector_of c (i + 1))
    → IsDivision t c (i + 1) (vector_of c (i + 1) +ℤ t *ℤ carry) (set quotient i carry)
division_step t carry c quotient i d h few one k =
    let q = whole_quotient t c in
    let x = vector_of c (i + 1) in
    let both = next t carry c quotient i d h in
    let carried : carry ≡ get_or q i (pos 0) = heads carry (get_or q i (pos 0)) (quotient_from t (x +ℤ t *ℤ carry) (drop (i + 1 + 1) c)) (drop (i + 1) q) both in
    record {
      value = ap (value_from t carry) (sym (drop_more c (i + 1) (pos 0) h)) ∙ d.value;
      rest = tails carry (get_or q i (pos 0)) (quotient_from t (x +ℤ t *ℤ carry) (drop (i + 1 + 1) c)) (drop (i + 1) q) both;
      filled = ap (λ row. set row i carry) d.filled ∙ row_more (take i q) i carry (length-take i q ∙ omega (arith, long t c i h)) (omega (arith, h, few))
          ∙ ap (λ y. row_of (take i q ++ y ∷ [])) carried ∙ ap row_of (sym (take_more q i (pos 0) (long t c i h)));
      small = grown t carry x i one d.small k;
    }

pub division_quotient : (t carry : ℤ) (c quotient : List ℤ) (i : ℕ) → IsDivision t c i carry quotient → length c ≤ i + 1 → quotient ≡ row_of (whole_quotient t c)
division_quotient t carry c quotient i d h =
    let many : length (whole_quotient t c) ≤ i = omega (arith, h, quotient_length t (vector_of c 0) (drop 1 c), length-drop 1 c) in
    d.filled ∙ ap row_of (take_all i (whole_quotient t c) many)

-- ---- the quotient without the 0 after it

trimmed_by : (xs ys : List ℤ) (n : ℕ) → length xs ≤ n → take (length xs) (take n (xs ++ ys)) ≡ xs
trimmed_by [] ys n h = refl
trimmed_by (x ∷ xs) ys zero h = absurd (omega (arith, h))
trimmed_by (x ∷ xs) ys (suc n) h = ap (λ zs. x ∷ zs) (trimmed_by xs ys n (omega (arith, h)))

pub trimmed_quotient : (t : ℤ) (c row : List ℤ) → length c ≤ most_coefficients → row ≡ row_of (whole_quotient t c) → take (length c - 1) row ≡ whole_quotient t c
trimmed_quotient t c row few h =
    let q = whole_quotient t c in
    let long : length q ≡ length c - 1 = quotient_length t (vector_of c 0) (drop 1 c) ∙ length-drop 1 c in
    rw (h, ← long) (trimmed_by q (replicate greatest_order (pos 0)) greatest_order (omega (arith, long, few)))

pub quotient_small : (t : ℤ) (c : List ℤ) (k : ℕ) → length c ≤ most_coefficients → Within 1 t → ((i : ℕ) → Within root_limit (vector_of c i)) → Within (2 ^ 32) (vector_of (whole_quotient t c) k)
quotient_small t c k few one h =
    let cs = drop 1 c in
    let tail : (i : ℕ) → Within root_limit (vector_of cs i) = λ i. rw (get_or-drop 1 c i (pos 0)) (h (1 + i)) in
    let w : Within (root_limit + root_limit * length cs) (vector_of (whole_quotient t c) k) = quotient_within t (vector_of c 0) cs root_limit root_limit k one (h 0) tail in
    omega (arith, w, few, length-drop 1 c)
