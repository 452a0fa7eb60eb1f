-- The quotient as a product with the inverse.
use Rattle.std.proofs.Common.{◌≡◌, ◌≢◌, ℕ, zero, suc, ◌*◌, ◌<◌, Bool, true, false, refl, ap, ◌∙◌, arith}
use Rattle.std.proofs.Math.IntN.{ℤ, pos, ◌*ℤ◌, neg_ℤ}
use Rattle.std.proofs.lemmas.Int.{ints}
use Rattle.dsv_fraction.specs.Ratio.{Ratio}
use Rattle.dsv_fraction.specs.Arithmetic.{with_sign, in_lowest_terms, over, quotient}
use Rattle.dsv_fraction.specs.Parts.{ArePartsOf, differ}
use Rattle.dsv_fraction.proofs.Gcds.{positive_product}
use Rattle.dsv_fraction.proofs.Signed.{signed_mul}

over_negative : (n : ℤ) (m : ℕ) → 0 < m → over n (neg_ℤ (pos m)) ≡ in_lowest_terms (neg_ℤ n) m
over_negative n zero p = absurd (omega arith)
over_negative n (suc m) p = refl

other_sign : (p : Bool) (n : ℕ) → neg_ℤ (with_sign (differ p false) n) ≡ with_sign (differ p true) n
other_sign true n = omega (arith, ints)
other_sign false n = refl

over_sizes : (p q : Bool) (a b c d : ℕ) → 0 < b → 0 < c → over (with_sign p a *ℤ pos d) (pos b *ℤ with_sign q c) ≡ in_lowest_terms (with_sign (differ p q) (a * d)) (b * c)
over_sizes p false a b c d x y = rw (signed_mul p false a d) refl
over_sizes p true a b c d x y =
    let e : pos b *ℤ with_sign true c ≡ neg_ℤ (pos (b * c)) = signed_mul false true b c in
    rw (e, signed_mul p false a d) (over_negative (with_sign (differ p false) (a * d)) (b * c) (positive_product b c x y)
    ∙ ap (λ z. in_lowest_terms z (b * c)) (other_sign p (a * d)))

pub quotient_parts : {r s : Ratio} {p q : Bool} {a b c d : ℕ} → ArePartsOf r p a b → ArePartsOf s q c d → 0 < c
    → quotient r s ≡ in_lowest_terms (with_sign (differ p q) (a * d)) (b * c)
quotient_parts {r} {s} {p} {q} {a} {b} {c} {d} f g h =
    rw (f.same_num, f.same_den, g.same_num, g.same_den) (over_sizes p q a b c d f.lowest.positive h)

-- a number of size 0 is 0
none : (q : Bool) → with_sign q 0 ≡ pos 0
none true = refl
none false = refl

positive_size : (q : Bool) (c : ℕ) (z : ℤ) → z ≡ with_sign q c → z ≢ pos 0 → 0 < c
positive_size q zero z e n = absurd (n (e ∙ none q))
positive_size q (suc c) z e n = omega arith

-- a fraction that isn't 0 has an inverse
pub size_positive : {s : Ratio} {q : Bool} {c d : ℕ} → ArePartsOf s q c d → s.num ≢ pos 0 → 0 < c
size_positive {s} {q} {c} {d} g n = positive_size q c s.num g.same_num n
