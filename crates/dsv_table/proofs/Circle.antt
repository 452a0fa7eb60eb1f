-- A polynomial whose table comes to a row that is its own reverse, up to the sign: a form that a step leaves as it is.
--
-- For polynomials c and r with c r* + r c* = 0, where * reverses, the form of (c(x) r(y) + r(x) c(y)) / (1 - x y) is kept by
-- each step of c. Of a row l of order d that is its own reverse, r has the numbers (d - 2 i) l_i; and from a row's r that of
-- the row before it is made.
use Rattle.std.proofs.Common.{◌≡◌, ◌≢◌, ℕ, zero, suc, ◌+◌, ◌-◌, ◌<◌, ◌≤◌, false, nat_lt, [], ◌∷◌, refl, sym, ap, ◌∙◌, arith}
use Rattle.std.proofs.Math.IntN.{ℤ, pos, ◌+ℤ◌, ◌-ℤ◌, ◌*ℤ◌, +ℤ_idl, +ℤ_idr}
use Rattle.std.proofs.lemmas.Int.{ints}
use lib.Signed.{◌<ℤ◌}
use Rattle.dsv_algebra.specs.Vectors.{Vector, Matrix, sum_to, form_at}
use Rattle.dsv_algebra.specs.Companion.{companion, fall_entry}
use Rattle.dsv_algebra.proofs.CompanionEntries.{companion_fall_form-is}
use Rattle.dsv_algebra.proofs.KeptAway.{kept_away}
use Rattle.dsv_algebra.proofs.Normaliser.{ring, env, var, num, plus, times, minus}
use Rattle.dsv_algebra.proofs.Signs.{mul_positive}
use Rattle.dsv_algebra.proofs.Sums.{sum_same, sum_first, sum_none}
use Rattle.dsv_table.specs.Verdicts.{HasKeptAwayForm}
use Rattle.dsv_table.proofs.Identity.{all_terms, past_either, at_end, nothing_dominant}

-- the products of both polynomials at two places, less or with their sign turned
abbrev pub pair : Vector → Vector → ℕ → ℕ → ℤ
pair c r i j = pos 0 -ℤ (c i *ℤ r j +ℤ r i *ℤ c j)

-- the form between two polynomials, with its sign turned
abbrev pub between : Vector → Vector → Matrix
between c r zero j = pair c r zero j
between c r (suc i) zero = pair c r (suc i) zero
between c r (suc i) (suc j) = between c r i j +ℤ pair c r (suc i) (suc j)

-- the sums that are to be 0
abbrev pub turn_sum : ℕ → Vector → Vector → ℕ → ℤ
turn_sum d c r m = sum_to (suc m) (λ k. pair c r ((d - m) + k) k)

pub record IsTurned (d : ℕ) (c r : Vector) : Type 0 where
  pub none : (m : ℕ) → m ≤ d → turn_sum d c r m ≡ pos 0
  pub past : r (suc d) ≡ pos 0
  pub first : pos 0 <ℤ r 0

pub pair_turns : (c r : Vector) (i j : ℕ) → pair c r i j ≡ pair c r j i
pair_turns c r i j =
    ring (env (c i ∷ r j ∷ r i ∷ c j ∷ []))
    (plus (num (pos 0)) (minus (plus (times (var 0) (var 1)) (times (var 2) (var 3)))))
    (plus (num (pos 0)) (minus (plus (times (var 3) (var 2)) (times (var 1) (var 0))))) refl

between_turns : (c r : Vector) (i j : ℕ) → between c r i j ≡ between c r j i
between_turns c r zero zero = refl
between_turns c r zero (suc j) = pair_turns c r zero (suc j)
between_turns c r (suc i) zero = pair_turns c r (suc i) zero
between_turns c r (suc i) (suc j) = rw (between_turns c r i j, pair_turns c r (suc i) (suc j)) refl

-- an entry is the sum along its diagonal
diagonal : (c r : Vector) (n t : ℕ) → between c r (n + t) t ≡ sum_to (suc t) (λ k. pair c r (n + k) k)
diagonal c r n zero = start (n + 0)
  where
    start : (i : ℕ) → between c r i 0 ≡ pos 0 +ℤ pair c r i 0
    start zero = sym (+ℤ_idl (pair c r zero 0))
    start (suc i) = sym (+ℤ_idl (pair c r (suc i) 0))
diagonal c r n (suc t) =
    let next : n + suc t ≡ suc (n + t) = omega arith in
    rw (next, diagonal c r n t, ← next) refl

none_in_last_row : (d : ℕ) (c r : Vector) → IsTurned d c r → (j : ℕ) → j ≤ d → between c r d j ≡ pos 0
none_in_last_row d c r h j b =
    let e : d ≡ (d - j) + j = omega arith in
    ap (λ i. between c r i j) e ∙ diagonal c r (d - j) j ∙ h.none j b

none_in_last_column : (d : ℕ) (c r : Vector) → IsTurned d c r → (i : ℕ) → i ≤ d → between c r i d ≡ pos 0
none_in_last_column d c r h i b = between_turns c r i d ∙ none_in_last_row d c r h i b

past_column : (d : ℕ) (c r : Vector) → IsTurned d c r → (i j : ℕ) → i ≤ d → j < d → nat_lt (suc j) d ≡ false → between c r i (suc j) ≡ pos 0
past_column d c r t i j h k e = let last : suc j ≡ d = at_end d j k e in ap (λ n. between c r i n) last ∙ none_in_last_column d c r t i h

past_row : (d : ℕ) (c r : Vector) → IsTurned d c r → (i j : ℕ) → i < d → j ≤ d → nat_lt (suc i) d ≡ false → between c r (suc i) j ≡ pos 0
past_row d c r t i j h k e = let last : suc i ≡ d = at_end d i h e in ap (λ n. between c r n j) last ∙ none_in_last_row d c r t j k

kept_entry : (x a b x' a' b' p : ℤ)
    → x *ℤ x *ℤ p -ℤ a *ℤ b *ℤ (pos 0 -ℤ (x *ℤ x' +ℤ x' *ℤ x)) +ℤ a *ℤ x *ℤ (pos 0 -ℤ (x *ℤ b' +ℤ x' *ℤ b)) +ℤ x *ℤ b *ℤ (pos 0 -ℤ (a *ℤ x' +ℤ a' *ℤ x))
    -ℤ x *ℤ x *ℤ (p +ℤ (pos 0 -ℤ (a *ℤ b' +ℤ a' *ℤ b))) ≡ pos 0
kept_entry x a b x' a' b' p =
    let z = num (pos 0) in
    ring (env (x ∷ a ∷ b ∷ x' ∷ a' ∷ b' ∷ p ∷ []))
    (plus (plus (plus (plus (times (times (var 0) (var 0)) (var 6))
    (minus (times (times (var 1) (var 2)) (plus z (minus (plus (times (var 0) (var 3)) (times (var 3) (var 0))))))))
    (times (times (var 1) (var 0)) (plus z (minus (plus (times (var 0) (var 5)) (times (var 3) (var 2)))))))
    (times (times (var 0) (var 2)) (plus z (minus (plus (times (var 1) (var 3)) (times (var 4) (var 0)))))))
    (minus (times (times (var 0) (var 0)) (plus (var 6) (plus z (minus (plus (times (var 1) (var 5)) (times (var 4) (var 2)))))))))
    z refl

-- a step leaves the form as it is
kept : (d : ℕ) (c r : Vector) → IsTurned d c r → (i j : ℕ) → i < d → j < d → fall_entry d c (between c r) i j ≡ pos 0
kept d c r t i j h k =
    let B = between c r in
    all_terms (nat_lt (suc i) d) (nat_lt (suc j) d) (c 0) (c (suc i)) (c (suc j)) (B i j) (B 0 0) (B 0 (suc j)) (B (suc i) 0) (B (suc i) (suc j))
    (past_column d c r t 0 j (omega arith) k)
    (past_row d c r t i 0 h (omega arith))
    (past_either (nat_lt (suc i) d) (nat_lt (suc j) d) (B (suc i) (suc j)) (past_row d c r t i (suc j) h k) (past_column d c r t (suc i) j h k))
    ∙ kept_entry (c 0) (c (suc i)) (c (suc j)) (r 0) (r (suc i)) (r (suc j)) (B i j)

-- the vector with 1 at the first place
abbrev first_unit : Vector
first_unit zero = pos 1
first_unit (suc i) = pos 0

times_none : (a b : ℤ) → a *ℤ pos 0 *ℤ b ≡ pos 0
times_none a b = ring (env (a ∷ b ∷ [])) (times (times (var 0) (num (pos 0))) (var 1)) (num (pos 0)) refl

times_one : (a : ℤ) → a *ℤ pos 1 *ℤ pos 1 +ℤ pos 0 ≡ a
times_one a = ring (env (a ∷ [])) (plus (times (times (var 0) (num (pos 1))) (num (pos 1))) (num (pos 0))) (var 0) refl

ends_none : (a : ℤ) → a *ℤ pos 0 ≡ pos 0
ends_none a = ring (env (a ∷ [])) (times (var 0) (num (pos 0))) (num (pos 0)) refl

form_at_first : (e : ℕ) (M : Matrix) → form_at (suc e) M first_unit ≡ M 0 0
form_at_first e M =
    let row : sum_to e (λ j. M 0 (suc j) *ℤ pos 1 *ℤ pos 0) ≡ pos 0 = sum_same e (λ j. M 0 (suc j) *ℤ pos 1 *ℤ pos 0) (λ j. pos 0) (λ j b. ends_none (M 0 (suc j) *ℤ pos 1)) ∙ sum_none e in
    let others : sum_to e (λ i. sum_to (suc e) (λ j. M (suc i) j *ℤ pos 0 *ℤ first_unit j)) ≡ pos 0 =
    sum_same e (λ i. sum_to (suc e) (λ j. M (suc i) j *ℤ pos 0 *ℤ first_unit j)) (λ i. pos 0)
    (λ i a. sum_same (suc e) (λ j. M (suc i) j *ℤ pos 0 *ℤ first_unit j) (λ j. pos 0) (λ j b. times_none (M (suc i) j) (first_unit j)) ∙ sum_none (suc e))
    ∙ sum_none e in
    sum_first e (λ i. sum_to (suc e) (λ j. M i j *ℤ first_unit i *ℤ first_unit j))
    ∙ rw others (+ℤ_idr (sum_to (suc e) (λ j. M 0 j *ℤ pos 1 *ℤ first_unit j)))
    ∙ sum_first e (λ j. M 0 j *ℤ pos 1 *ℤ first_unit j)
    ∙ rw row (times_one (M 0 0))

is_negative : (x y : ℤ) → pos 0 <ℤ x → pos 0 <ℤ y → (pos 0 -ℤ (x *ℤ y +ℤ y *ℤ x)) <ℤ pos 0
is_negative x y p q =
    let a = mul_positive x y p q in
    let b = mul_positive y x q p in
    omega (arith, ints, a, b)

pub apart : (x : ℤ) → pos 0 <ℤ x → x ≢ pos 0
apart x p e = absurd (omega (arith, ints, p, e))

pub turned_is_kept_away : (e : ℕ) (c r : Vector) → pos 0 <ℤ c 0 → IsTurned (suc e) c r → HasKeptAwayForm (suc e) c
turned_is_kept_away e c r p t =
    let d = suc e in
    let B = between c r in (
      B,
      first_unit,
      kept_away d (c 0) (companion c) B first_unit (apart (c 0) p)
          (rw (form_at_first e B) (is_negative (c 0) (r 0) p t.first))
          (record {
            scale = pos 1;
            count = 0;
            weights = λ k. pos 1;
            rows = λ k j. pos 0;
            rest = λ i j. pos 0;
            positive = omega (arith, ints);
            identity = λ i j a b. ap (λ z. pos 1 *ℤ z) (companion_fall_form-is e c B i j ∙ kept d c r t i j a b);
            weight = λ k a. absurd (omega arith);
            dominant = nothing_dominant d;
          }),
    )
