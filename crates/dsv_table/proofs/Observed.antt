-- A sequence that obeys a polynomial and its reverse over as many steps as the order is 0, where the table's first numbers
-- are positive.
use Rattle.std.proofs.Common.{◌≡◌, ℕ, zero, suc, ◌+◌, ◌-◌, ◌*◌, ◌<◌, [], ◌∷◌, inl, inr, refl, sym, ap, ◌∙◌, arith}
use Rattle.std.proofs.Math.IntN.{ℤ, pos, ◌+ℤ◌, ◌-ℤ◌, ◌*ℤ◌, *ℤ_comm, ℤ_discrete}
use Rattle.std.proofs.lemmas.Int.{ints}
use Rattle.std.proofs.lemmas.Bool.{cases_lt}
use lib.Signed.{◌<ℤ◌}
use Rattle.dsv_algebra.specs.Vectors.{Vector, sum_to}
use Rattle.dsv_algebra.proofs.Normaliser.{ring, env, var, num, plus, times, minus}
use Rattle.dsv_algebra.proofs.Sums.{sum_same, sum_first, sum_scale}
use Rattle.dsv_table.specs.Table.{row_after}
use Rattle.dsv_table.proofs.Sides.{IsInside}
use Rattle.dsv_table.proofs.Identity.{sum_turned, sum_less}
use Rattle.dsv_table.proofs.Positive.{none_from, apart_product}

-- the polynomial, and its reverse, at the beginning of a sequence
abbrev pub down : ℕ → Vector → Vector → ℤ
down d a Y = sum_to (suc d) (λ j. a j *ℤ Y (d - j))

abbrev pub up : ℕ → Vector → Vector → ℤ
up d a Y = sum_to (suc d) (λ j. a j *ℤ Y j)

-- the sequence from a place on
abbrev pub from : ℕ → Vector → Vector
from k Y i = Y (k + i)

-- the reverse of a polynomial, one way and the other
turned : (d : ℕ) (a Y : Vector) → sum_to (suc d) (λ j. a (d - j) *ℤ Y (d - j)) ≡ up d a Y
turned d a Y = sum_turned d (λ j. a j *ℤ Y j)

turned_back : (d : ℕ) (a Y : Vector) → sum_to (suc d) (λ j. a (d - j) *ℤ Y j) ≡ down d a Y
turned_back d a Y =
    sum_same (suc d) (λ j. a (d - j) *ℤ Y j) (λ j. a (d - j) *ℤ Y (d - (d - j))) (λ j b. let e : d - (d - j) ≡ j = omega arith in rw e refl)
    ∙ sum_turned d (λ j. a j *ℤ Y (d - j))

-- a sum over the numbers of the next row, and its last one, which is 0
row_sum : (d : ℕ) (c W V : Vector) → ((j : ℕ) → j < suc d → W j ≡ V j)
    → sum_to (suc d) (λ j. row_after d c j *ℤ W j)
    ≡ c 0 *ℤ sum_to (suc d) (λ j. c j *ℤ W j) -ℤ c d *ℤ sum_to (suc d) (λ j. c (d - j) *ℤ V j)
row_sum d c W V h =
    sum_same (suc d) (λ j. row_after d c j *ℤ W j) (λ j. c 0 *ℤ (c j *ℤ W j) -ℤ c d *ℤ (c (d - j) *ℤ V j))
    (λ j b. rw (← h j b) (parts (c 0) (c j) (c d) (c (d - j)) (W j)))
    ∙ sum_less (suc d) (λ j. c 0 *ℤ (c j *ℤ W j)) (λ j. c d *ℤ (c (d - j) *ℤ V j))
    ∙ rw (sum_scale (suc d) (c 0) (λ j. c j *ℤ W j), sum_scale (suc d) (c d) (λ j. c (d - j) *ℤ V j)) refl
  where
    parts : (x a y u w : ℤ) → (x *ℤ a -ℤ y *ℤ u) *ℤ w ≡ x *ℤ (a *ℤ w) -ℤ y *ℤ (u *ℤ w)
    parts x a y u w = ring (env (x ∷ a ∷ y ∷ u ∷ w ∷ []))
        (times (plus (times (var 0) (var 1)) (minus (times (var 2) (var 3)))) (var 4))
        (plus (times (var 0) (times (var 1) (var 4))) (minus (times (var 2) (times (var 3) (var 4))))) refl

pub last_none : (e : ℕ) (c : Vector) → row_after (suc e) c (suc e) ≡ pos 0
last_none e c =
    let n : suc e - suc e ≡ 0 = omega arith in
    rw (n, *ℤ_comm (c (suc e)) (c 0)) (omega (arith, ints))

less_last : (s a b : ℤ) → a ≡ pos 0 → s +ℤ a *ℤ b ≡ s
less_last s a b h = rw h (ring (env (s ∷ b ∷ [])) (plus (var 0) (times (num (pos 0)) (var 1))) (var 0) refl)

both_none : (x y a b : ℤ) → a ≡ pos 0 → b ≡ pos 0 → x *ℤ a -ℤ y *ℤ b ≡ pos 0
both_none x y a b p q = rw (p, q) (ring (env (x ∷ y ∷ [])) (plus (times (var 0) (num (pos 0))) (minus (times (var 1) (num (pos 0))))) (num (pos 0)) refl)

-- What obeys a row and its reverse obeys the next row, a step later, and its reverse.
down_next : (e : ℕ) (c Y : Vector) → down (suc e) c Y ≡ pos 0 → up (suc e) c Y ≡ pos 0 → down e (row_after (suc e) c) (λ i. Y (suc i)) ≡ pos 0
down_next e c Y p q =
    let d = suc e in
    let R = row_after d c in
    let W : Vector = λ j. Y (d - j) in
    sum_same (suc e) (λ j. R j *ℤ Y (suc (e - j))) (λ j. R j *ℤ W j) (λ j b. let t : suc (e - j) ≡ suc e - j = omega arith in rw t refl)
    ∙ sym (less_last (sum_to (suc e) (λ j. R j *ℤ W j)) (R (suc e)) (W (suc e)) (last_none e c))
    ∙ row_sum d c W W (λ j b. refl)
    ∙ both_none (c 0) (c d) (down d c Y) (sum_to (suc d) (λ j. c (d - j) *ℤ W j)) p (turned d c Y ∙ q)

up_next : (e : ℕ) (c Y : Vector) → down (suc e) c Y ≡ pos 0 → up (suc e) c Y ≡ pos 0 → up e (row_after (suc e) c) Y ≡ pos 0
up_next e c Y p q =
    let d = suc e in
    let R = row_after d c in
    sym (less_last (sum_to (suc e) (λ j. R j *ℤ Y j)) (R (suc e)) (Y (suc e)) (last_none e c))
    ∙ row_sum d c Y Y (λ j b. refl)
    ∙ both_none (c 0) (c d) (up d c Y) (sum_to (suc d) (λ j. c (d - j) *ℤ Y j)) q (turned_back d c Y ∙ p)

pub no_factor : (r y : ℤ) → pos 0 <ℤ r → r *ℤ y ≡ pos 0 → y ≡ pos 0
no_factor r y p e = elim (ℤ_discrete y (pos 0)) [
  | yes q ↦ q
  | no n ↦ absurd (apart_product r y p n e)
]

pub record AreSilent (d : ℕ) (c Y : Vector) : Type 0 where
  pub obeyed : (k : ℕ) → k < d → down d c (from k Y) ≡ pos 0
  pub mirrored : (k : ℕ) → k < d → up d c (from k Y) ≡ pos 0

next_silent : (e : ℕ) (c Y : Vector) → AreSilent (suc e) c Y → AreSilent e (row_after (suc e) c) (λ i. Y (suc i))
next_silent e c Y s = record {
  obeyed = λ k b.
      (let R = row_after (suc e) c in
      sum_same (suc e) (λ j. R j *ℤ Y (suc (k + (e - j)))) (λ j. R j *ℤ Y (k + suc (e - j))) (λ j a. let t : suc (k + (e - j)) ≡ k + suc (e - j) = omega arith in rw t refl)
      ∙ down_next e c (from k Y) (s.obeyed k (omega arith)) (s.mirrored k (omega arith)));
  mirrored = λ k b.
      (let R = row_after (suc e) c in
      sum_same (suc e) (λ j. R j *ℤ Y (suc (k + j))) (λ j. R j *ℤ Y (suc k + j)) (λ j a. let t : suc (k + j) ≡ suc k + j = omega arith in rw t refl)
      ∙ up_next e c (from (suc k) Y) (s.obeyed (suc k) (omega arith)) (s.mirrored (suc k) (omega arith)));
}

-- the first and the last value
first_value : (e : ℕ) (c Y : Vector) → AreSilent (suc e) c Y → pos 0 <ℤ row_after (suc e) c 0
    → ((i : ℕ) → i < 2 * e → Y (suc i) ≡ pos 0) → Y 0 ≡ pos 0
first_value e c Y s p h =
    let R = row_after (suc e) c in
    let all : up e R (from 0 Y) ≡ pos 0 = up_next e c (from 0 Y) (s.obeyed 0 (omega arith)) (s.mirrored 0 (omega arith)) in
    let split = sum_first e (λ j. R j *ℤ Y (0 + j)) in
    let rest : sum_to e (λ j. R (suc j) *ℤ Y (0 + suc j)) ≡ pos 0 = none_from e (λ j. R (suc j)) (λ j. Y (0 + suc j)) (λ j b. (let t : 0 + suc j ≡ suc j = omega arith in rw t (h j (omega arith)))) in
    let none : 0 + 0 ≡ 0 = omega arith in
    no_factor (R 0) (Y 0) p (ap (λ i. R 0 *ℤ Y i) (sym none) ∙ omega (arith, ints, all, split, rest))

last_value : (e : ℕ) (c Y : Vector) → AreSilent (suc e) c Y → pos 0 <ℤ row_after (suc e) c 0
    → ((i : ℕ) → i < 2 * e → Y (suc i) ≡ pos 0) → Y (suc (2 * e)) ≡ pos 0
last_value e c Y s p h =
    let R = row_after (suc e) c in
    let all : down e R (λ i. Y (e + suc i)) ≡ pos 0 = down_next e c (from e Y) (s.obeyed e (omega arith)) (s.mirrored e (omega arith)) in
    let split = sum_first e (λ j. R j *ℤ Y (e + suc (e - j))) in
    let rest : sum_to e (λ j. R (suc j) *ℤ Y (e + suc (e - suc j))) ≡ pos 0 = none_from e (λ j. R (suc j)) (λ j. Y (e + suc (e - suc j))) (λ j b. (let t : e + suc (e - suc j) ≡ suc (2 * e - suc j) = omega arith in rw t (h (2 * e - suc j) (omega arith)))) in
    let none : e + suc (e - 0) ≡ suc (2 * e) = omega arith in
    no_factor (R 0) (Y (suc (2 * e))) p (ap (λ i. R 0 *ℤ Y i) (sym none) ∙ omega (arith, ints, all, split, rest))

every_value : (e : ℕ) (c Y : Vector) → AreSilent (suc e) c Y → pos 0 <ℤ row_after (suc e) c 0
    → ((i : ℕ) → i < 2 * e → Y (suc i) ≡ pos 0) → (i : ℕ) → i < 2 * suc e → Y i ≡ pos 0
every_value e c Y s p inner zero b = first_value e c Y s p inner
every_value e c Y s p inner (suc i) b = elim (cases_lt i (2 * e)) [
  | inl less ↦ inner i less
  | inr more ↦ (let t : i ≡ 2 * e = omega arith in rw t (last_value e c Y s p inner))
]

pub silent_is_none : (d : ℕ) (c Y : Vector) → IsInside d c → AreSilent d c Y → (i : ℕ) → i < 2 * d → Y i ≡ pos 0
silent_is_none zero c Y h s i b = absurd (omega arith)
silent_is_none (suc e) c Y (p, h) s i b =
    every_value e c Y s p
    (λ k a. silent_is_none e (row_after (suc e) c) (λ j. Y (suc j)) h (next_silent e c Y s) k a) i b
