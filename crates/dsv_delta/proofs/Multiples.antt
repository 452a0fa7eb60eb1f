-- Common denominators.
use Rattle.std.proofs.Common.{◌≡◌, ℕ, zero, suc, ◌+◌, ◌*◌, ◌/◌, ◌^◌, ◌<◌, ◌≤◌, List, [], ◌∷◌, ◌++◌, take, length, get_or, refl, sym, ap, ◌∙◌, arith, Some, None}
use Rattle.std.proofs.Math.IntN.{ℤ, pos}
use Rattle.std.proofs.lemmas.List.{take_more}
use Rattle.std.specs.Int.RustNames.{unsigned_abs}
use Rattle.dsv_algebra.specs.Narrow.{narrow_of}
use Rattle.dsv_algebra.specs.Gcd.{gcd}
use Rattle.dsv_fraction.specs.Ratio.{Ratio}
use Rattle.dsv_algebra.proofs.Gcds.{gcd-is}
use Rattle.dsv_fraction.proofs.Gcds.{divided}
use Rattle.dsv_delta.specs.Deltas.{lcm, common_from, common}

pub some_small : (n : ℕ) (z : ℤ) → narrow_of (pos n) ≡ Some z → (z ≡ pos n) × (n < 2 ^ 126)
some_small n z e = grind arith

pub none_large : (z : ℤ) → narrow_of z ≡ None → 2 ^ 126 ≤ unsigned_abs z
none_large z e = grind arith

pub large_none : (z : ℤ) → 2 ^ 126 ≤ unsigned_abs z → narrow_of z ≡ None
large_none z h = grind arith

times_positive : (n k : ℕ) → 0 < k → n ≤ n * k
times_positive n zero h = absurd (omega arith)
times_positive n (suc k) h = omega arith

pub lcm_grows : (n d : ℕ) → 0 < n → 0 < d → n ≤ lcm n d
lcm_grows n d p q = times_positive n (d / gcd n d) ((divided n d (gcd n d) q (gcd-is n d)).3)

pub multiple_none : (n d : ℕ) → 0 < n → 0 < d → narrow_of (pos n) ≡ None → narrow_of (pos (lcm n d)) ≡ None
multiple_none n d p q e = large_none (pos (lcm n d)) (omega (arith, none_large (pos n) e, lcm_grows n d p q))

pub common_more : (l : ℕ) (qs : List Ratio) (q : Ratio) → common_from l (qs ++ q ∷ []) ≡ lcm (common_from l qs) q.den
common_more l [] q = refl
common_more l (r ∷ qs) q = common_more (lcm l r.den) qs q

pub common_next : (qs : List Ratio) (i : ℕ) (q : Ratio) → i < length qs → q ≡ get_or qs i q → common (take (i + 1) qs) ≡ lcm (common (take i qs)) q.den
common_next qs i q h e = ap common (take_more qs i q h ∙ ap (λ r. take i qs ++ r ∷ []) (sym e)) ∙ common_more 1 (take i qs) q

pub narrowed_only : (z w : ℤ) → Some w ≡ narrow_of z → w ≡ z
narrowed_only z w e = grind arith
