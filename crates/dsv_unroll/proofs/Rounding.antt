-- Rounding is the floor after an addend.
use Rattle.std.proofs.Common.{◌≡◌, ℕ, suc, ◌+◌, ◌-◌, ◌*◌, ◌/◌, ◌%◌, ◌^◌, ◌==◌, ◌<◌, ◌≤◌, true, false, List, [], ◌∷◌, refl, arith, ap, sym, ◌∙◌}
use Rattle.std.specs.Prelude.{◌<ℤ◌, ◌≤ℤ◌}
use Rattle.std.specs.Int.RustNames.{unsigned_abs}
use Rattle.std.proofs.Math.IntN.{ℤ, pos, negsuc, ◌+ℤ◌, ◌*ℤ◌, neg_ℤ, +ℤ_idr}
use Rattle.std.proofs.lemmas.Int.{ints}
use Rattle.std.proofs.lemmas.Nat.{pow_pos, pow-add, div-add-mod'}
use Rattle.std.proofs.lemmas.Bool.{eqb-true}
use Rattle.std.proofs.lemmas.Bool.Decides.{nat_tests}
use Rattle.dsv_algebra.specs.Floor.{IsFloor, floor_of}
use Rattle.dsv_algebra.proofs.Floors.{floored_is}
use Rattle.dsv_algebra.proofs.Normaliser.{ring, env, var, num, plus, times, minus}
use Rattle.dsv_names.specs.declared.rounding.Rounding.{Rounding}
use Rattle.dsv_names.specs.declared.rounding.Rounding.TheVariants as rounding
use Rattle.dsv_word.specs.Quotients.{ceiling_of, whole_shift}
use Rattle.dsv_word.proofs.Floors.{is_floored}
use Rattle.dsv_word.specs.declared.format.Format.{Format}
use Rattle.dsv_netlist.specs.declared.node.Node.{Node}
use Rattle.dsv_netlist.specs.declared.node.Node.TheVariants as node
use Rattle.dsv_netlist.specs.Nodes.{at, node_value}
use Rattle.dsv_unroll.specs.Rules.{addend_of, is_whole}

-- ---- no bits below the point
floor_one : (v : ℤ) → floor_of v 1 ≡ v
floor_one v = is_floored v 1 v (omega arith) (record { below = omega (arith, ints); above = omega (arith, ints) })

pub shift_none : (r : Rounding) (v : ℤ) → whole_shift r 0 v ≡ v
shift_none rounding.Floor v = floor_one v
shift_none rounding.Ceil v = ap neg_ℤ (floor_one (neg_ℤ v)) ∙ (let e : neg_ℤ (neg_ℤ v) ≡ v = omega (arith, ints) in e)
shift_none rounding.Nearest v = refl

-- ---- some bits
turned : (w d : ℤ) → neg_ℤ w *ℤ d ≡ neg_ℤ (w *ℤ d)
turned w d = ring (env (w ∷ d ∷ [])) (times (minus (var 0)) (var 1)) (minus (times (var 0) (var 1))) refl

next : (w d : ℤ) → (w +ℤ pos 1) *ℤ d ≡ w *ℤ d +ℤ d
next w d = ring (env (w ∷ d ∷ [])) (times (plus (var 0) (num (pos 1))) (var 1)) (plus (times (var 0) (var 1)) (var 1)) refl

-- the ceiling is the floor of a little more
ceiling_by : (v w : ℤ) (d : ℕ) → 0 < d → IsFloor (neg_ℤ v) d w → floor_of (v +ℤ pos (d - 1)) d ≡ neg_ℤ w
ceiling_by v w d p f =
    let b : (w *ℤ pos d) ≤ℤ neg_ℤ v = f.below in
    let a : neg_ℤ v <ℤ (w *ℤ pos d +ℤ pos d) = rw (next w (pos d)) at f.above in
    is_floored (v +ℤ pos (d - 1)) d (neg_ℤ w) p (record {
      below = rw (turned w (pos d)) (omega (arith, ints));
      above = rw (next (neg_ℤ w) (pos d), turned w (pos d)) (omega (arith, ints));
    })

ceiling_shift : (v : ℤ) (d : ℕ) → 0 < d → ceiling_of v d ≡ floor_of (v +ℤ pos (d - 1)) d
ceiling_shift v d p = sym (ceiling_by v (floor_of (neg_ℤ v) d) d p (floored_is (neg_ℤ v) d p))

not_zero : (f : ℕ) → 1 ≤ f → (f == 0) ≡ false
not_zero f h = grind (arith, nat_tests)

pub shift_floor : (r : Rounding) (f : ℕ) (v : ℤ) → 1 ≤ f → whole_shift r f v ≡ floor_of (v +ℤ pos (addend_of r f)) (2 ^ f)
shift_floor rounding.Floor f v h = ap (λ (u : ℤ). floor_of u (2 ^ f)) (sym (+ℤ_idr v))
shift_floor rounding.Ceil f v h = ceiling_shift v (2 ^ f) (pow_pos f)
shift_floor rounding.Nearest f v h = rw (not_zero f h) refl

-- ---- multiples
floor_multiple : (q : ℤ) (d a : ℕ) → 0 < d → a < d → floor_of (q *ℤ pos d +ℤ pos a) d ≡ q
floor_multiple q d a p h = is_floored (q *ℤ pos d +ℤ pos a) d q p (record { below = omega (arith, ints); above = rw (next q (pos d)) (omega (arith, ints)) })

halves : (f : ℕ) → 1 ≤ f → 2 ^ f ≡ 2 * 2 ^ (f - 1)
halves f h = let e : f ≡ 1 + (f - 1) = omega arith in ap (λ (k : ℕ). 2 ^ k) e ∙ pow-add 2 1 (f - 1)

addend_small : (r : Rounding) (f : ℕ) → 1 ≤ f → addend_of r f < 2 ^ f
addend_small rounding.Floor f h = pow_pos f
addend_small rounding.Ceil f h = omega (arith, pow_pos f)
addend_small rounding.Nearest f h = let e = halves f h in omega (arith, pow_pos (f - 1))

-- rounding changes no multiple
shift_multiple : (r : Rounding) (f : ℕ) (q : ℤ) → 1 ≤ f → whole_shift r f (q *ℤ pos (2 ^ f)) ≡ floor_of (q *ℤ pos (2 ^ f) +ℤ pos 0) (2 ^ f)
shift_multiple r f q h =
    shift_floor r f (q *ℤ pos (2 ^ f)) h
    ∙ (floor_multiple q (2 ^ f) (addend_of r f) (pow_pos f) (addend_small r f h) ∙ sym (floor_multiple q (2 ^ f) 0 (pow_pos f) (pow_pos f)))

-- the number is a multiple of d
pub record IsTimes (v : ℤ) (d : ℕ) : Type 0 where
  pub by : ℤ
  pub is : v ≡ by *ℤ pos d

pub shift_times : (r : Rounding) (f : ℕ) (v : ℤ) → 1 ≤ f → IsTimes v (2 ^ f) → whole_shift r f v ≡ floor_of (v +ℤ pos 0) (2 ^ f)
shift_times r f v h t = rw t.is (shift_multiple r f t.by h)

-- a coefficient whose size is a multiple is one
times_of : (c : ℤ) (d : ℕ) → unsigned_abs c % d ≡ 0 → IsTimes c d
times_of (pos n) d h = let e = div-add-mod' n d in record { by = pos (n / d); is = omega (arith, ints) }
times_of (negsuc n) d h = let e = div-add-mod' (suc n) d in record { by = neg_ℤ (pos (suc n / d)); is = (let t = turned (pos (suc n / d)) (pos d) in rw t (omega (arith, ints))) }

product_times : (c y : ℤ) (d : ℕ) → unsigned_abs c % d ≡ 0 → IsTimes (c *ℤ y) d
product_times c y d m =
    let t = times_of c d m in
    record {
      by = t.by *ℤ y;
      is = ap (λ (z : ℤ). z *ℤ y) t.is ∙ ring (env (t.by ∷ pos d ∷ y ∷ [])) (times (times (var 0) (var 1)) (var 2)) (times (times (var 0) (var 2)) (var 1)) refl;
    }

scaled_times : (y : ℤ) (d : ℕ) → IsTimes (pos d *ℤ y) d
scaled_times y d = record { by = y; is = ring (env (pos d ∷ y ∷ [])) (times (var 0) (var 1)) (times (var 1) (var 0)) refl }

-- the value of a node that is a multiple of 2^f
pub whole_value : (f : Format) (rs : List ℤ) (x : ℤ) (vs : List ℤ) (n : Node) → is_whole f.frac_bits n ≡ true → IsTimes (node_value f rs x vs n) (2 ^ f.frac_bits)
whole_value f rs x vs node.Input e = absurd cc
whole_value f rs x vs (node.Reg k) e = absurd cc
whole_value f rs x vs (node.MulConst c i) e = product_times c (at vs i) (2 ^ f.frac_bits) (eqb-true (unsigned_abs c % 2 ^ f.frac_bits) 0 e)
whole_value f rs x vs (node.Round i) e = absurd cc
whole_value f rs x vs (node.Add i j) e = absurd cc
whole_value f rs x vs (node.Sub i j) e = absurd cc
whole_value f rs x vs (node.Fit i) e = absurd cc
whole_value f rs x vs (node.Scale i) e = scaled_times (at vs i) (2 ^ f.frac_bits)
