-- Floors by a quotient of numbers that aren't negative, and words by a rest.
use Rattle.std.proofs.Common.{◌≡◌, ℕ, ◌+◌, ◌-◌, ◌^◌, ◌<◌, ◌≤◌, true, [], ◌∷◌, refl, sym, arith}
use Rattle.std.specs.Int.{int_rem_euclid}
use Rattle.std.proofs.Math.IntN.{ℤ, pos, neg_ℤ, ◌+ℤ◌, ◌-ℤ◌, ◌*ℤ◌}
use Rattle.std.proofs.lemmas.Int.{ints, by_lt_z}
use Rattle.std.proofs.lemmas.Nat.{pow_pos}
use lib.Signed.{◌<ℤ◌}
use Rattle.dsv_algebra.specs.Floor.{floor_of}
use Rattle.dsv_algebra.proofs.Floors.{floored_is}
use Rattle.dsv_algebra.proofs.Normaliser.{ring, env, var, num, plus, times, minus}
use Rattle.dsv_word.specs.Quotients.{ceiling_of}
use Rattle.dsv_word.specs.Words.{wrapped_word}
use Rattle.dsv_word.proofs.Meanings.{halves}
use Rattle.dsv_word.proofs.Floors.{is_floored, parted, rest_within}
use Rattle.dsv_c.specs.Meaning.{quotient, bit_flip, has_bits}
use Rattle.dsv_c.proofs.HeldNumbers.{int_lt-true, int_lt-false}

-- ---- products with signs
negative_times : (q d : ℤ) → neg_ℤ q *ℤ d ≡ neg_ℤ (q *ℤ d)
negative_times q d = ring (env (q ∷ d ∷ [])) (times (minus (var 0)) (var 1)) (minus (times (var 0) (var 1))) refl

negative_more : (q d : ℤ) → (neg_ℤ q +ℤ pos 1) *ℤ d ≡ d -ℤ q *ℤ d
negative_more q d = ring (env (q ∷ d ∷ [])) (times (plus (minus (var 0)) (num (pos 1))) (var 1)) (plus (var 1) (minus (times (var 0) (var 1)))) refl

one_more : (q d : ℤ) → (q +ℤ pos 1) *ℤ d ≡ q *ℤ d +ℤ d
one_more q d = ring (env (q ∷ d ∷ [])) (times (plus (var 0) (num (pos 1))) (var 1)) (plus (times (var 0) (var 1)) (var 1)) refl

-- ---- the floor as an exact quotient
pub whole_part : (v : ℤ) (d : ℕ) → 0 < d → v -ℤ int_rem_euclid v (pos d) ≡ floor_of v d *ℤ pos d
whole_part v d p = let e = parted v d p in omega (arith, ints)

floor_multiple : (q : ℤ) (d : ℕ) → 0 < d → floor_of (q *ℤ pos d) d ≡ q
floor_multiple q d p = is_floored (q *ℤ pos d) d q p (record { below = omega (arith, ints); above = rw (one_more q (pos d)) (omega (arith, ints)) })

back : (q : ℤ) → neg_ℤ (neg_ℤ q) ≡ q
back q = omega (arith, ints)

pub quotient_multiple : (q : ℤ) (d : ℕ) → 0 < d → quotient (q *ℤ pos d) d ≡ q
quotient_multiple q d p = by_lt_z (q *ℤ pos d) (pos 0)
    (λ less.
    let n = sym (negative_times q (pos d)) in
    rw (int_lt-true (q *ℤ pos d) (pos 0) less, n, floor_multiple (neg_ℤ q) d p) (back q))
    (λ more. rw (int_lt-false (q *ℤ pos d) (pos 0) more) (floor_multiple q d p))

-- ---- the ceiling as a floor
pub ceiling_as_floor : (v : ℤ) (d : ℕ) → 0 < d → floor_of (v +ℤ pos (d - 1)) d ≡ ceiling_of v d
ceiling_as_floor v d p =
    let q = floor_of (neg_ℤ v) d in
    let f = floored_is (neg_ℤ v) d p in
    let above : neg_ℤ v <ℤ (q *ℤ pos d +ℤ pos d) = rw (← one_more q (pos d)) f.above in
    is_floored (v +ℤ pos (d - 1)) d (neg_ℤ q) p (record {
      below = rw (negative_times q (pos d)) (omega (arith, ints));
      above = rw (negative_more q (pos d)) (omega (arith, ints, f.below));
    })

-- ---- a quotient by 1
times_one : (v : ℤ) → v *ℤ pos 1 ≡ v
times_one v = ring (env (v ∷ [])) (times (var 0) (num (pos 1))) (var 0) refl

pub floor_by_one : (v : ℤ) → floor_of v 1 ≡ v
floor_by_one v = is_floored v 1 v (omega arith) (record {
  below = rw (times_one v) (omega (arith, ints));
  above = rw (times_one (v +ℤ pos 1)) (omega (arith, ints));
})

-- ---- a word by a rest
pub wrapped_by_turn : (n : ℕ) (v : ℤ) → 1 ≤ n → bit_flip (n - 1) (int_rem_euclid v (pos (2 ^ n))) -ℤ pos (2 ^ (n - 1)) ≡ wrapped_word n v
wrapped_by_turn n v p =
    let r = int_rem_euclid v (pos (2 ^ n)) in
    let h = pos (2 ^ (n - 1)) in
    let two = halves n p in
    by_lt_z r h
    (λ less. rw (int_lt-true r h less) (omega (arith, ints)))
    (λ more. rw (int_lt-false r h more) (omega (arith, ints)))

-- the rest of a division by 2^n, with its last bit
pub rest_turns : (n : ℕ) (v : ℤ) → 1 ≤ n → has_bits (n - 1) (int_rem_euclid v (pos (2 ^ n))) ≡ true
rest_turns n v p =
    let r = rest_within v (2 ^ n) (pow_pos n) in
    let e : n - 1 + 1 ≡ n = omega arith in
    rw (r.1, e, int_lt-false (pos r.0) (pos 0) (omega (arith, ints)), int_lt-true (pos r.0) (pos (2 ^ n)) (omega (arith, ints, r.2))) refl
