-- The form of a polynomial of order 2: what it loses in a step, and how great its entries are.
use Rattle.std.proofs.Common.{◌≡◌, ℕ, zero, suc, ◌+◌, ◌^◌, ◌<◌, ◌≤◌, false, ◌==◌, List, [], ◌∷◌, length, get_or, refl, ◌∙◌, arith}
use Rattle.std.proofs.Math.IntN.{ℤ, pos, neg_ℤ, ◌+ℤ◌, ◌-ℤ◌, ◌*ℤ◌}
use Rattle.dsv_algebra.specs.Vectors.{vector_of, matrix_of}
use Rattle.dsv_algebra.specs.Companion.{fall_entry}
use Rattle.dsv_algebra.proofs.Normaliser.{Expr, ring, env, var, num, plus, times, minus}
use Rattle.dsv_forms.proofs.Passing.{Within, within_times, within_plus, within_neg}
use Rattle.dsv_forms.specs.Padded.{matrix_with}
use Rattle.dsv_closed_forms.specs.SmallCoefficients.{AreSmall}
use Rattle.dsv_closed_forms.specs.ClosedForm.{gap, fall_scale, second_rows, negated_rows, diagonal}
use Rattle.dsv_closed_forms.proofs.RootAccepted.{wider}
use Rattle.dsv_forms.proofs.Padded.{matrix_entry}

-- what holds at the four places holds at each
pub at_two : (Q : ℕ → ℕ → Type 0) → Q 0 0 → Q 0 1 → Q 1 0 → Q 1 1 → (i j : ℕ) → i < 2 → j < 2 → Q i j
at_two Q a b c d zero zero x y = a
at_two Q a b c d zero (suc zero) x y = b
at_two Q a b c d zero (suc (suc j)) x y = absurd (omega arith)
at_two Q a b c d (suc zero) zero x y = c
at_two Q a b c d (suc zero) (suc zero) x y = d
at_two Q a b c d (suc zero) (suc (suc j)) x y = absurd (omega arith)
at_two Q a b c d (suc (suc i)) j x y = absurd (omega arith)

-- ---- entries of matrices of two places

abbrev pub two : ℤ → ℤ → ℤ → ℤ → List (List ℤ)
two a b c d = (a ∷ b ∷ []) ∷ (c ∷ d ∷ []) ∷ []

pub short_rows : (a b c d : ℤ) (k : ℕ) → length (get_or (two a b c d) k []) ≤ 8
short_rows a b c d zero = omega arith
short_rows a b c d (suc zero) = omega arith
short_rows a b c d (suc (suc k)) = omega arith

in_two : (n : ℕ) (a b c d : ℤ) (i j : ℕ) → Within n a → Within n b → Within n c → Within n d → Within n (vector_of (get_or (two a b c d) i []) j)
in_two n a b c d zero zero w x y z = w
in_two n a b c d zero (suc zero) w x y z = x
in_two n a b c d zero (suc (suc j)) w x y z = omega arith
in_two n a b c d (suc zero) zero w x y z = y
in_two n a b c d (suc zero) (suc zero) w x y z = z
in_two n a b c d (suc zero) (suc (suc j)) w x y z = omega arith
in_two n a b c d (suc (suc i)) j w x y z = omega arith

pub two_within : (n : ℕ) (a b c d : ℤ) (i j : ℕ) → Within n a → Within n b → Within n c → Within n d → Within n (matrix_of (matrix_with (two a b c d)) i j)
two_within n a b c d i j w x y z = rw (matrix_entry (two a b c d) i j (omega arith) (short_rows a b c d)) (in_two n a b c d i j w x y z)

diagonal_off : (w : ℤ) (i j : ℕ) → (i == j) ≡ false → vector_of (get_or (diagonal w) i []) j ≡ pos 0
diagonal_off w zero zero e = absurd (cc)
diagonal_off w zero (suc zero) e = refl
diagonal_off w zero (suc (suc j)) e = refl
diagonal_off w (suc zero) zero e = refl
diagonal_off w (suc zero) (suc zero) e = absurd (cc)
diagonal_off w (suc zero) (suc (suc j)) e = refl
diagonal_off w (suc (suc i)) j e = refl

pub off_diagonal : (w : ℤ) (i j : ℕ) → (i == j) ≡ false → matrix_of (matrix_with (diagonal w)) i j ≡ pos 0
off_diagonal w i j e = matrix_entry (diagonal w) i j (omega arith) (short_rows w (pos 0) (pos 0) w) ∙ diagonal_off w i j e

-- ---- polynomials in c0, c1, c2

abbrev pub c0-e : Expr
c0-e = var 0

abbrev pub c1-e : Expr
c1-e = var 1

abbrev pub c2-e : Expr
c2-e = var 2

abbrev pub sum-e : Expr
sum-e = plus c0-e c2-e

abbrev pub gap-e : Expr
gap-e = plus (times sum-e sum-e) (minus (times c1-e c1-e))

abbrev pub scale-e : Expr
scale-e = times (plus c0-e (minus c2-e)) gap-e

abbrev pub r-e : Expr
r-e = times (times (num (pos 2)) sum-e) (times c0-e c0-e)

abbrev pub p-e : Expr
p-e = times (times (num (pos 2)) c0-e) (times c1-e c2-e)

abbrev pub s-e : Expr
s-e = plus (times (times (num (pos 2)) sum-e) (times c2-e c2-e)) scale-e

abbrev loss-e : Expr
loss-e = times (times c0-e c0-e) scale-e

-- the entries of what a form with these entries loses
abbrev first-e : Expr → Expr → Expr → Expr
first-e r p s =
    plus (plus (plus (plus (plus (num (pos 0)) (times (times c0-e c0-e) r)) (times (minus (times c1-e c1-e)) r)) (times (times c1-e c0-e) p)) (times (times c0-e c1-e) p)) (times (minus (times c0-e c0-e)) s)

abbrev upper-e : Expr → Expr → Expr
upper-e r p = plus (plus (plus (num (pos 0)) (times (times c0-e c0-e) p)) (times (minus (times c1-e c2-e)) r)) (times (times c0-e c2-e) p)

abbrev lower-e : Expr → Expr → Expr
lower-e r p = plus (plus (plus (num (pos 0)) (times (times c0-e c0-e) p)) (times (minus (times c2-e c1-e)) r)) (times (times c2-e c0-e) p)

abbrev last-e : Expr → Expr → Expr
last-e r s = plus (plus (num (pos 0)) (times (times c0-e c0-e) s)) (times (minus (times c2-e c2-e)) r)

-- The form of a polynomial loses c0^2 times the scale on the diagonal.
pub record Loses (c0 c1 c2 : ℤ) (rows : List (List ℤ)) (w : ℤ) : Type 0 where
  pub first : fall_entry 2 (vector_of (c0 ∷ c1 ∷ c2 ∷ [])) (matrix_of (matrix_with rows)) 0 0 ≡ w
  pub upper : fall_entry 2 (vector_of (c0 ∷ c1 ∷ c2 ∷ [])) (matrix_of (matrix_with rows)) 0 1 ≡ pos 0
  pub lower : fall_entry 2 (vector_of (c0 ∷ c1 ∷ c2 ∷ [])) (matrix_of (matrix_with rows)) 1 0 ≡ pos 0
  pub last : fall_entry 2 (vector_of (c0 ∷ c1 ∷ c2 ∷ [])) (matrix_of (matrix_with rows)) 1 1 ≡ w

pub loses : (c0 c1 c2 : ℤ) → Loses c0 c1 c2 (second_rows c0 c1 c2) (c0 *ℤ c0 *ℤ fall_scale c0 c1 c2)
loses c0 c1 c2 = record {
  first = ring (env (c0 ∷ c1 ∷ c2 ∷ [])) (first-e r-e p-e s-e) loss-e refl;
  upper = ring (env (c0 ∷ c1 ∷ c2 ∷ [])) (upper-e r-e p-e) (num (pos 0)) refl;
  lower = ring (env (c0 ∷ c1 ∷ c2 ∷ [])) (lower-e r-e p-e) (num (pos 0)) refl;
  last = ring (env (c0 ∷ c1 ∷ c2 ∷ [])) (last-e r-e s-e) loss-e refl;
}

pub loses_negated : (c0 c1 c2 : ℤ) → Loses c0 c1 c2 (negated_rows (second_rows c0 c1 c2)) (neg_ℤ (c0 *ℤ c0 *ℤ fall_scale c0 c1 c2))
loses_negated c0 c1 c2 = record {
  first = ring (env (c0 ∷ c1 ∷ c2 ∷ [])) (first-e (minus r-e) (minus p-e) (minus s-e)) (minus loss-e) refl;
  upper = ring (env (c0 ∷ c1 ∷ c2 ∷ [])) (upper-e (minus r-e) (minus p-e)) (num (pos 0)) refl;
  lower = ring (env (c0 ∷ c1 ∷ c2 ∷ [])) (lower-e (minus r-e) (minus p-e)) (num (pos 0)) refl;
  last = ring (env (c0 ∷ c1 ∷ c2 ∷ [])) (last-e (minus r-e) (minus s-e)) (minus loss-e) refl;
}

-- ---- sizes

pub coefficient_within : (c0 c1 c2 : ℤ) → AreSmall c0 c1 c2 → (k : ℕ) → Within (2 ^ 23) (vector_of (c0 ∷ c1 ∷ c2 ∷ []) k)
coefficient_within c0 c1 c2 h zero = h.first
coefficient_within c0 c1 c2 h (suc zero) = h.second
coefficient_within c0 c1 c2 h (suc (suc zero)) = h.third
coefficient_within c0 c1 c2 h (suc (suc (suc k))) = omega arith

pub record Sizes (c0 c1 c2 : ℤ) : Type 0 where
  pub sum : Within (2 ^ 24) (c0 +ℤ c2)
  pub gap_size : Within (2 ^ 49) (gap c0 c1 c2)
  pub scale : Within (2 ^ 73) (fall_scale c0 c1 c2)
  pub loss : Within (2 ^ 119) (c0 *ℤ c0 *ℤ fall_scale c0 c1 c2)
  pub r : Within (2 ^ 71) (pos 2 *ℤ (c0 +ℤ c2) *ℤ (c0 *ℤ c0))
  pub p : Within (2 ^ 70) (pos 2 *ℤ c0 *ℤ (c1 *ℤ c2))
  pub s : Within (2 ^ 74) (pos 2 *ℤ (c0 +ℤ c2) *ℤ (c2 *ℤ c2) +ℤ fall_scale c0 c1 c2)

pub sizes : (c0 c1 c2 : ℤ) → AreSmall c0 c1 c2 → Sizes c0 c1 c2
sizes c0 c1 c2 h =
    let sum : Within (2 ^ 24) (c0 +ℤ c2) = wider (2 ^ 23 + 2 ^ 23) (2 ^ 24) (c0 +ℤ c2) (within_plus (2 ^ 23) (2 ^ 23) c0 c2 h.first h.third) (omega arith) in
    let difference : Within (2 ^ 24) (c0 -ℤ c2) = wider (2 ^ 23 + 2 ^ 23) (2 ^ 24) (c0 -ℤ c2) (within_plus (2 ^ 23) (2 ^ 23) c0 (neg_ℤ c2) h.first (within_neg (2 ^ 23) c2 h.third)) (omega arith) in
    let own : Within (2 ^ 46) (c0 *ℤ c0) = within_times (2 ^ 23) (2 ^ 23) c0 c0 h.first h.first in
    let its : Within (2 ^ 46) (c2 *ℤ c2) = within_times (2 ^ 23) (2 ^ 23) c2 c2 h.third h.third in
    let middle : Within (2 ^ 46) (c1 *ℤ c1) = within_times (2 ^ 23) (2 ^ 23) c1 c1 h.second h.second in
    let apart : Within (2 ^ 49) (gap c0 c1 c2) = wider (2 ^ 48 + 2 ^ 46) (2 ^ 49) (gap c0 c1 c2) (within_plus (2 ^ 48) (2 ^ 46) ((c0 +ℤ c2) *ℤ (c0 +ℤ c2)) (neg_ℤ (c1 *ℤ c1)) (within_times (2 ^ 24) (2 ^ 24) (c0 +ℤ c2) (c0 +ℤ c2) sum sum) (within_neg (2 ^ 46) (c1 *ℤ c1) middle)) (omega arith) in
    let scale : Within (2 ^ 73) (fall_scale c0 c1 c2) = within_times (2 ^ 24) (2 ^ 49) (c0 -ℤ c2) (gap c0 c1 c2) difference apart in
    let twice : Within (2 ^ 25) (pos 2 *ℤ (c0 +ℤ c2)) = within_times 2 (2 ^ 24) (pos 2) (c0 +ℤ c2) (omega arith) sum in
    let cross : Within (2 ^ 46) (c1 *ℤ c2) = within_times (2 ^ 23) (2 ^ 23) c1 c2 h.second h.third in
    let double : Within (2 ^ 24) (pos 2 *ℤ c0) = within_times 2 (2 ^ 23) (pos 2) c0 (omega arith) h.first in
    let square : Within (2 ^ 71) (pos 2 *ℤ (c0 +ℤ c2) *ℤ (c2 *ℤ c2)) = within_times (2 ^ 25) (2 ^ 46) (pos 2 *ℤ (c0 +ℤ c2)) (c2 *ℤ c2) twice its in
    record {
      sum = sum;
      gap_size = apart;
      scale = scale;
      loss = within_times (2 ^ 46) (2 ^ 73) (c0 *ℤ c0) (fall_scale c0 c1 c2) own scale;
      r = within_times (2 ^ 25) (2 ^ 46) (pos 2 *ℤ (c0 +ℤ c2)) (c0 *ℤ c0) twice own;
      p = within_times (2 ^ 24) (2 ^ 46) (pos 2 *ℤ c0) (c1 *ℤ c2) double cross;
      s = wider (2 ^ 71 + 2 ^ 73) (2 ^ 74) (pos 2 *ℤ (c0 +ℤ c2) *ℤ (c2 *ℤ c2) +ℤ fall_scale c0 c1 c2) (within_plus (2 ^ 71) (2 ^ 73) (pos 2 *ℤ (c0 +ℤ c2) *ℤ (c2 *ℤ c2)) (fall_scale c0 c1 c2) square scale) (omega arith);
    }

pub rows_within : (c0 c1 c2 : ℤ) → AreSmall c0 c1 c2 → (i j : ℕ) → Within (2 ^ 74) (matrix_of (matrix_with (second_rows c0 c1 c2)) i j)
rows_within c0 c1 c2 h i j =
    let z = sizes c0 c1 c2 h in
    let r = pos 2 *ℤ (c0 +ℤ c2) *ℤ (c0 *ℤ c0) in
    let p = pos 2 *ℤ c0 *ℤ (c1 *ℤ c2) in
    let s = pos 2 *ℤ (c0 +ℤ c2) *ℤ (c2 *ℤ c2) +ℤ fall_scale c0 c1 c2 in
    two_within (2 ^ 74) r p p s i j (wider (2 ^ 71) (2 ^ 74) r z.r (omega arith)) (wider (2 ^ 70) (2 ^ 74) p z.p (omega arith)) (wider (2 ^ 70) (2 ^ 74) p z.p (omega arith)) z.s

pub negated_within : (c0 c1 c2 : ℤ) → AreSmall c0 c1 c2 → (i j : ℕ) → Within (2 ^ 74) (matrix_of (matrix_with (negated_rows (second_rows c0 c1 c2))) i j)
negated_within c0 c1 c2 h i j =
    let z = sizes c0 c1 c2 h in
    let r = pos 2 *ℤ (c0 +ℤ c2) *ℤ (c0 *ℤ c0) in
    let p = pos 2 *ℤ c0 *ℤ (c1 *ℤ c2) in
    let s = pos 2 *ℤ (c0 +ℤ c2) *ℤ (c2 *ℤ c2) +ℤ fall_scale c0 c1 c2 in
    let a = within_neg (2 ^ 74) r (wider (2 ^ 71) (2 ^ 74) r z.r (omega arith)) in
    let b = within_neg (2 ^ 74) p (wider (2 ^ 70) (2 ^ 74) p z.p (omega arith)) in
    two_within (2 ^ 74) (neg_ℤ r) (neg_ℤ p) (neg_ℤ p) (neg_ℤ s) i j a b b (within_neg (2 ^ 74) s z.s)
