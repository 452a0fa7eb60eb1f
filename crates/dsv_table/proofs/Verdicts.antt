-- What the verdict of a table means, and that a factor of a row doesn't change it.
use Rattle.std.proofs.Common.{◌≡◌, ℕ, zero, suc, ◌+◌, ◌-◌, ◌≤◌, true, int_lt, [], ◌∷◌, inl, inr, refl, sym, ◌∙◌, arith}
use Rattle.std.proofs.Math.IntN.{ℤ, pos, ◌*ℤ◌}
use Rattle.std.proofs.lemmas.Int.{ints}
use lib.Signed.{◌<ℤ◌}
use Rattle.dsv_algebra.specs.Vectors.{Vector}
use Rattle.dsv_algebra.proofs.Normaliser.{ring, env, var, plus, times, minus}
use Rattle.dsv_algebra.proofs.Signs.{mul_positive, positive_factor}
use Rattle.dsv_table.specs.Table.{row_after, verdict_from}
use Rattle.dsv_table.specs.Verdicts.{Decides, FactorsDoNotCount}
use Rattle.dsv_table.proofs.Sides.{reads, positive, either}
use Rattle.dsv_table.proofs.Falls.{inside_falls}
use Rattle.dsv_table.proofs.Outside.{outside_is_kept_away}
use Rattle.dsv_table.proofs.Circle.{apart}

pub decides : Decides
decides d c p = elim (reads d 0 c) [
  | inl (h, e) ↦ rw e (inside_falls d c (apart (c 0) p) h)
  | inr (h, row, e) ↦ rw e (outside_is_kept_away d c p h)
]

-- Of two rows the same up to a place the next ones are the same up to there.
next_same : (d : ℕ) (l m : Vector) → ((i : ℕ) → i ≤ d → l i ≡ m i) → (i : ℕ) → i ≤ d → row_after d l i ≡ row_after d m i
next_same d l m h i b = rw (h 0 (omega arith), h i b, h d (omega arith), h (d - i) (omega arith)) refl

-- The verdict is one of the row's numbers alone.
pub verdict_same : (d number : ℕ) (l m : Vector) → ((i : ℕ) → i ≤ d → l i ≡ m i) → verdict_from d number l ≡ verdict_from d number m
verdict_same zero number l m h = refl
verdict_same (suc d) number l m h =
    rw (
      next_same (suc d) l m h 0 (omega arith),
      verdict_same d (number + 1) (row_after (suc d) l) (row_after (suc d) m) (λ i b. next_same (suc d) l m h i (omega arith)),
    ) refl

row_times : (d : ℕ) (m : ℤ) (l : Vector) (i : ℕ) → row_after d (λ i. m *ℤ l i) i ≡ (m *ℤ m) *ℤ row_after d l i
row_times d m l i =
    ring (env (m ∷ l 0 ∷ l i ∷ l d ∷ l (d - i) ∷ []))
    (plus (times (times (var 0) (var 1)) (times (var 0) (var 2))) (minus (times (times (var 0) (var 3)) (times (var 0) (var 4)))))
    (times (times (var 0) (var 0)) (plus (times (var 1) (var 2)) (minus (times (var 3) (var 4))))) refl

pub lt_true : (x : ℤ) → pos 0 <ℤ x → int_lt (pos 0) x ≡ true
lt_true x h = grind (arith, ints)

-- A positive factor leaves a sign as it is.
pub sign_times : (m x : ℤ) → pos 0 <ℤ m → int_lt (pos 0) (m *ℤ x) ≡ int_lt (pos 0) x
sign_times m x p = elim (either (int_lt (pos 0) x)) [
  | inl h ↦ lt_true (m *ℤ x) (mul_positive m x p (positive x h)) ∙ sym h
  | inr h ↦ elim (either (int_lt (pos 0) (m *ℤ x))) [
    | inl k ↦ k ∙ sym (lt_true x (positive_factor m x p (positive (m *ℤ x) k)))
    | inr k ↦ k ∙ sym h
  ]
]

pub factors_do_not_count : FactorsDoNotCount
factors_do_not_count zero number m l p = refl
factors_do_not_count (suc d) number m l p =
    let R = row_after (suc d) l in
    let s = mul_positive m m p p in
    rw (
      row_times (suc d) m l 0,
      sign_times (m *ℤ m) (R 0) s,
      verdict_same d (number + 1) (row_after (suc d) (λ i. m *ℤ l i)) (λ i. (m *ℤ m) *ℤ R i) (λ i b. row_times (suc d) m l i),
      factors_do_not_count d (number + 1) (m *ℤ m) R s,
    ) refl
