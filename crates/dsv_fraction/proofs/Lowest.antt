-- Lowest terms.
use Rattle.std.proofs.Common.{◌≡◌, ℕ, zero, suc, ◌*◌, ◌/◌, ◌^◌, ◌<◌, Bool, true, false, refl, sym, ap, ◌∙◌, subst, arith}
use Rattle.std.specs.Int.{IsGcd, ◌∣◌}
use Rattle.std.specs.Int.RustNames.{unsigned_abs}
use Rattle.std.proofs.Math.IntN.{ℤ, pos}
use Rattle.std.proofs.Math.Nat.{dvd-mul_left}
use Rattle.std.proofs.lemmas.Int.{ints}
use lib.Signed.{◌<ℤ◌, lt_z}
use Rattle.dsv_algebra.specs.Gcd.{gcd}
use Rattle.dsv_fraction.specs.Arithmetic.{with_sign, is_negative, in_lowest_terms}
use Rattle.dsv_fraction.specs.Parts.{AreCoprime, Cancels, ArePartsOf}
use Rattle.dsv_fraction.specs.Ratio.{Ratio, IsLowest}
use Rattle.dsv_algebra.proofs.Gcds.{gcd-is}
use Rattle.dsv_fraction.proofs.Gcds.{divided, lowest_only, cancel_left}
use Rattle.dsv_fraction.proofs.Signed.{size_signed, signed_abs, negative_is}

crossed : (g a b n d x y : ℕ) → g * a ≡ n → g * b ≡ d → x * d ≡ n * y → g * (x * b) ≡ g * (a * y)
crossed g a b n d x y p q e =
    let u : x * (g * b) ≡ x * d = ap (λ t. x * t) q in
    let v : g * a * y ≡ n * y = ap (λ t. t * y) p in
    omega arith

-- a pair that has the value of n / d and no common factor is n / d in lowest terms
pub lowest_parts : (n d x y : ℕ) → 0 < d → IsGcd x y 1 → x * d ≡ n * y → (n / gcd n d ≡ x) × (d / gcd n d ≡ y)
lowest_parts n d x y p g e =
    let v = divided n d (gcd n d) p (gcd-is n d) in
    let k : gcd n d * (x * (d / gcd n d)) ≡ gcd n d * (n / gcd n d * y) = crossed (gcd n d) (n / gcd n d) (d / gcd n d) n d x y v.0 v.1 e in
    let l : x * (d / gcd n d) ≡ n / gcd n d * y = cancel_left (gcd n d) (x * (d / gcd n d)) (n / gcd n d * y) v.2 k in
    let m = lowest_only (n / gcd n d) (d / gcd n d) x y v.3 v.4 g l in
    (sym m.0, sym m.1)

no_part : (x d : ℕ) → 0 < d → x * d ≡ 0 → x ≡ 0
no_part zero d p e = refl
no_part (suc x) zero p e = omega arith
no_part (suc x) (suc d) p e = omega arith

pub is_lowest : (negative : Bool) (n d x y : ℕ) → 0 < d → IsGcd x y 1 → x * d ≡ n * y
    → in_lowest_terms (with_sign negative n) d ≡ record { num = with_sign negative x; den = y }
is_lowest false n d x y p g e =
    let m = lowest_parts n d x y p g e in
    rw (m.0, m.1) refl
is_lowest true zero d x y p g e =
    let m = lowest_parts 0 d x y p g e in
    let z : x ≡ 0 = no_part x d p (omega arith) in
    rw (m.0, m.1, z) refl
is_lowest true (suc n) d x y p g e =
    let m = lowest_parts (suc n) d x y p g e in
    rw (m.0, m.1) refl

-- the fields of a fraction of these sizes
pub kept : (negative : Bool) (n d : ℕ) (z e : ℤ) → AreCoprime n d → n < 2 ^ 127 → d < 2 ^ 127 → z ≡ with_sign negative n → e ≡ pos d
    → (pos 0 <ℤ e) × IsLowest (record { num = z; den = unsigned_abs e })
kept negative n d z e h q r x y =
    let p = h.positive in
    let s : unsigned_abs z ≡ n = ap unsigned_abs x ∙ size_signed negative n in
    let t : unsigned_abs e ≡ d = ap unsigned_abs y in
    (omega (arith, ints), record { positive = rw t p; coprime = rw (s, t) h.coprime; narrow_num = rw s q; narrow_den = rw t r })

swapped : (g a b n d : ℕ) → g * a ≡ n → g * b ≡ d → a * d ≡ n * b
swapped g a b n d x y =
    let u : a * (g * b) ≡ a * d = ap (λ t. a * t) y in
    let v : g * a * b ≡ n * b = ap (λ t. t * b) x in
    omega arith

-- both sizes divided by their greatest common divisor
pub cancels : (n d g : ℕ) → 0 < d → IsGcd n d g → Cancels n d (n / g) (d / g)
cancels n d g p h =
    let v = divided n d g p h in
    let a = n / g in
    let b = d / g in
    let x : g * a ≡ n = v.0 in
    let y : g * b ≡ d = v.1 in
    record {
      positive = v.3;
      coprime = v.4;
      divides_num = subst (λ t. a ∣ t) x (dvd-mul_left a g);
      divides_den = subst (λ t. b ∣ t) y (dvd-mul_left b g);
      same = swapped g a b n d x y;
    }

-- the sign and sizes of the fields
pub parts_of : (r : Ratio) (z d : ℤ) (n m : ℕ) (b : Bool) → IsLowest (record { num = z; den = unsigned_abs d }) → record { num = z; den = unsigned_abs d } ≡ r
    → n ≡ unsigned_abs z → m ≡ unsigned_abs d → b ≡ lt_z z (pos 0) → ArePartsOf r b n m
parts_of r z d n m b h e p q s =
    let a : r.num ≡ z = ap (λ (t : Ratio). t.num) (sym e) in
    let k : r.den ≡ unsigned_abs d = ap (λ (t : Ratio). t.den) (sym e) in
    record {
      same_num = a ∙ signed_abs z ∙ rw (s, p, negative_is z) refl;
      same_den = k ∙ sym q;
      sign = s ∙ negative_is z ∙ ap is_negative (sym a);
      lowest = record { positive = rw q h.positive; coprime = rw (p, q) h.coprime };
      narrow_num = rw p h.narrow_num;
      narrow_den = rw q h.narrow_den;
    }
