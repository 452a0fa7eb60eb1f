-- The floor of a quotient by a computing division.
use Rattle.std.proofs.Common.{◌≡◌, ℕ, ◌*◌, ◌/◌, ◌%◌, ◌<◌, ap, ◌∙◌, arith}
use Rattle.std.proofs.Math.IntN.{ℤ, pos, negsuc, ◌+ℤ◌, ◌*ℤ◌, neg_ℤ}
use Rattle.std.proofs.lemmas.Int.{ints}
use Rattle.std.proofs.lemmas.Nat.{div-add-mod', mod_below}
use Rattle.dsv_algebra.specs.Floor.{IsFloor, floor_of}
use Rattle.dsv_algebra.proofs.Ring.{same, is_mul, is_neg, is_self}

pub step_up : (q d : ℕ) → (negsuc q +ℤ pos 1) *ℤ pos d ≡ neg_ℤ (pos (q * d))
step_up q d =
    let e : negsuc q +ℤ pos 1 ≡ neg_ℤ (pos q) = omega (arith, ints) in
    let f : neg_ℤ (pos q) *ℤ pos d ≡ neg_ℤ (pos (q * d)) = same (is_mul (is_neg (is_self (pos q))) (is_self (pos d))) (is_neg (is_self (pos (q * d)))) (omega arith) in
    ap (λ t. t *ℤ pos d) e ∙ f

pub floored_is : (v : ℤ) (d : ℕ) → 0 < d → IsFloor v d (floor_of v d)
floored_is (pos n) d p =
    let e = div-add-mod' n d in
    let r : n % d < d = mod_below n d p in
    record { below = omega (arith, ints); above = omega (arith, ints) }
floored_is (negsuc n) d p =
    let e = div-add-mod' n d in
    let r : n % d < d = mod_below n d p in
    let x = step_up (n / d) d in
    record { below = omega (arith, ints); above = rw x (omega (arith, ints)) }
