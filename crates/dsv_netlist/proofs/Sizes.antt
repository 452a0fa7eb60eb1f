-- The sizes of words, of rounded quotients, of products and of sums.
use Rattle.std.proofs.Common.{◌≡◌, ℕ, zero, suc, ◌+◌, ◌-◌, ◌*◌, ◌^◌, ◌==◌, ◌<◌, ◌≤◌, Bool, true, false, inl, inr, refl, arith}
use Rattle.std.specs.Prelude.{if◌then◌else◌}
use Rattle.std.specs.Int.RustNames.{unsigned_abs}
use Rattle.std.proofs.Math.IntN.{ℤ, pos, negsuc, ◌+ℤ◌, ◌-ℤ◌, ◌*ℤ◌, neg_ℤ}
use Rattle.std.proofs.Math.Nat.{pow-suc}
use Rattle.std.proofs.lemmas.Int.{ints, unsigned_abs-mul}
use Rattle.std.proofs.lemmas.Nat.{pow_pos, mul-le}
use Rattle.std.proofs.lemmas.Bool.{cases_lt}
use lib.Signed.{◌<ℤ◌, ◌≤ℤ◌}
use Rattle.dsv_algebra.specs.Floor.{IsFloor, floor_of}
use Rattle.dsv_algebra.proofs.Floors.{step_up, floored_is}
use Rattle.dsv_word.specs.declared.format.Format.{Format}
use Rattle.dsv_names.specs.declared.rounding.Rounding.{Rounding}
use Rattle.dsv_names.specs.declared.rounding.Rounding.TheVariants as rounding
use Rattle.dsv_names.specs.declared.overflow_mode.OverflowMode.{OverflowMode}
use Rattle.dsv_names.specs.declared.overflow_mode.OverflowMode.TheVariants as overflow_mode
use Rattle.dsv_word.specs.Words.{width, lo, hi, fit, IsWord}
use Rattle.dsv_word.specs.Quotients.{whole_shift}
use Rattle.dsv_word.proofs.Meanings.{wrapped_is, saturated_is}
use Rattle.dsv_netlist.specs.Bounds.{word_bound}

-- v is at most b in size
pub record IsWithin (b : ℕ) (v : ℤ) : Type 0 where
  pub low : neg_ℤ (pos b) ≤ℤ v
  pub high : v ≤ℤ pos b

pub size_within : (b : ℕ) (v : ℤ) → unsigned_abs v ≤ b → IsWithin b v
size_within b (pos a) h = record { low = omega (arith, ints); high = omega (arith, ints) }
size_within b (negsuc a) h = record { low = omega (arith, ints); high = omega (arith, ints) }

pub within_size : (b : ℕ) (v : ℤ) → IsWithin b v → unsigned_abs v ≤ b
within_size b (pos a) h = omega (arith, ints, h.high)
within_size b (negsuc a) h = omega (arith, ints, h.low)

-- ---- words
fitted : (o : OverflowMode) (n : ℕ) (v : ℤ) → 1 ≤ n → (lo n ≤ℤ fit o n v) × (fit o n v ≤ℤ hi n)
fitted overflow_mode.Wrap n v p = let w = wrapped_is n v p in (w.low, w.high)
fitted overflow_mode.Saturate n v p = let w = saturated_is n v in (w.low, w.high)

pub fit_is_word : (format : Format) (v : ℤ) → IsWord format (fit format.overflow (width format) v)
fit_is_word format v =
    let w = fitted format.overflow (width format) v (omega (arith, format.lawful)) in
    record { low = w.0; high = w.1 }

pub word_size : (format : Format) (v : ℤ) → IsWord format v → unsigned_abs v ≤ word_bound format
word_size format v w = within_size (word_bound format) v (record { low = w.low; high = omega (arith, ints, w.high) })

-- ---- quotients
below_by : (m k d : ℕ) → m * d < k * d → m < k
below_by m k d h = elim (cases_lt m k) [
  | inl less ↦ less
  | inr more ↦ absurd (omega (arith, mul-le k d m d more (omega arith)))
]

-- a floor between -b d and (b + 1) d, over d
floor_size : (u : ℤ) (d b : ℕ) (w : ℤ) → IsFloor u d w → neg_ℤ (pos (b * d)) ≤ℤ u → u <ℤ pos ((b + 1) * d) → unsigned_abs w ≤ b
floor_size u d b (pos m) f l h =
    let e : m * d < (b + 1) * d = omega (arith, ints, f.below) in
    omega (arith, below_by m (b + 1) d e)
floor_size u d b (negsuc m) f l h =
    let s = step_up m d in
    let above : u <ℤ neg_ℤ (pos (m * d)) = rw s at f.above in
    let e : m * d < b * d = omega (arith, ints) in
    below_by m b d e

scaled : (b d : ℕ) → 0 < d → b ≤ b * d
scaled b (suc d) h = omega arith
scaled b zero h = absurd (omega arith)

floored_size : (v : ℤ) (d b : ℕ) → 0 < d → unsigned_abs v ≤ b → unsigned_abs (floor_of v d) ≤ b
floored_size v d b p h =
    let w = size_within b v h in
    let s = scaled b d p in
    let t = scaled (b + 1) d p in
    floor_size v d b (floor_of v d) (floored_is v d p) (omega (arith, ints, w.low)) (omega (arith, ints, w.high))

negative_size : (v : ℤ) → unsigned_abs (neg_ℤ v) ≡ unsigned_abs v
negative_size (pos zero) = refl
negative_size (pos (suc n)) = refl
negative_size (negsuc n) = refl

halves : (f : ℕ) → (f == 0) ≡ false → 2 ^ f ≡ 2 * 2 ^ (f - 1)
halves zero h = absurd cc
halves (suc f) h = let e : suc f - 1 ≡ f = omega arith in rw (pow-suc 2 f, e) (omega arith)

nearest_size : (v : ℤ) (h d b : ℕ) → d ≡ 2 * h → 0 < h → unsigned_abs v ≤ b → unsigned_abs (floor_of (v +ℤ pos h) d) ≤ b
nearest_size v h d b e p l =
    let w = size_within b v l in
    let q : 0 < d = omega arith in
    let s = scaled b d q in
    let t : (b + 1) * d ≡ b * d + d = omega arith in
    floor_size (v +ℤ pos h) d b (floor_of (v +ℤ pos h) d) (floored_is (v +ℤ pos h) d q) (omega (arith, ints, w.low)) (omega (arith, ints, w.high))

-- rounding makes no number greater in size
pub shifted_size : (r : Rounding) (f : ℕ) (v : ℤ) (b : ℕ) → unsigned_abs v ≤ b → unsigned_abs (whole_shift r f v) ≤ b
shifted_size rounding.Floor f v b h = floored_size v (2 ^ f) b (pow_pos f) h
shifted_size rounding.Ceil f v b h =
    rw (negative_size (floor_of (neg_ℤ v) (2 ^ f))) (floored_size (neg_ℤ v) (2 ^ f) b (pow_pos f) (rw (negative_size v) h))
shifted_size rounding.Nearest f v b h = by_places (f == 0) refl
  where
    by_places : (none : Bool) → (f == 0) ≡ none → unsigned_abs (if f == 0 then v else floor_of (v +ℤ pos (2 ^ (f - 1))) (2 ^ f)) ≤ b
    by_places true e = rw e h
    by_places false e = rw e (nearest_size v (2 ^ (f - 1)) (2 ^ f) b (halves f e) (pow_pos (f - 1)) h)

-- ---- products and sums
pub product_size : (c v : ℤ) (b : ℕ) → unsigned_abs v ≤ b → unsigned_abs (c *ℤ v) ≤ unsigned_abs c * b
product_size c v b h = rw (unsigned_abs-mul c v) (mul-le (unsigned_abs c) (unsigned_abs v) (unsigned_abs c) b (omega arith) h)

pub sum_size : (u v : ℤ) (a b : ℕ) → unsigned_abs u ≤ a → unsigned_abs v ≤ b → unsigned_abs (u +ℤ v) ≤ a + b
sum_size u v a b h k =
    let s = size_within a u h in
    let t = size_within b v k in
    within_size (a + b) (u +ℤ v) (record { low = omega (arith, ints, s.low, t.low); high = omega (arith, ints, s.high, t.high) })

pub difference_size : (u v : ℤ) (a b : ℕ) → unsigned_abs u ≤ a → unsigned_abs v ≤ b → unsigned_abs (u -ℤ v) ≤ a + b
difference_size u v a b h k =
    let s = size_within a u h in
    let t = size_within b v k in
    within_size (a + b) (u -ℤ v) (record { low = omega (arith, ints, s.low, t.high); high = omega (arith, ints, s.high, t.low) })
