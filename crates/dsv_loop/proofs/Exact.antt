-- Exact quotients, and common multiples made by them.
use Rattle.std.proofs.Common.{◌≡◌, ◌≢◌, ℕ, zero, suc, ◌*◌, ◌/◌, ◌<◌, [], ◌∷◌, Option, Some, None, refl, sym, ◌∙◌, arith}
use Rattle.std.proofs.Math.IntN.{ℤ, pos, negsuc, ◌-ℤ◌, ◌*ℤ◌}
use Rattle.std.proofs.Math.Nat.{mul-div_cancel'}
use Rattle.std.proofs.lemmas.Int.{ints}
use Rattle.std.proofs.lemmas.Nat.{mul-le}
use lib.Signed.{◌<ℤ◌}
use Rattle.std.specs.Prelude.{MatchOption}
use Rattle.std.specs.Int.{int_div_euclid, ◌∣◌}
use Rattle.std.specs.Int.RustNames.{unsigned_abs}
use Rattle.dsv_algebra.specs.Gcd.{gcd}
use Rattle.dsv_algebra.proofs.Gcds.{gcd-is}
use Rattle.dsv_algebra.proofs.Normaliser.{ring, env, var, plus, times, minus}
use Rattle.dsv_delta.specs.Deltas.{lcm}
use Rattle.dsv_loop.proofs.Factors.{exact_quotient, only_nought, positive_divisor}

-- ---- the one quotient
difference : (g x y : ℤ) → g *ℤ (x -ℤ y) ≡ x *ℤ g -ℤ g *ℤ y
difference g x y = let a = var 0 in let b = var 1 in let c = var 2 in ring (env (g ∷ x ∷ y ∷ [])) (times a (plus b (minus c))) (plus (times b a) (minus (times a c))) refl

none_apart : (x y : ℤ) → x ≡ y → x -ℤ y ≡ pos 0
none_apart x y e = omega (arith, ints)

not_apart : (x y : ℤ) → x -ℤ y ≡ pos 0 → x ≡ y
not_apart x y e = omega (arith, ints)

same_factor : (g : ℕ) (x y : ℤ) → 0 < g → x *ℤ pos g ≡ pos g *ℤ y → x ≡ y
same_factor g x y p e = not_apart x y (only_nought g (x -ℤ y) p (difference (pos g) x y ∙ none_apart (x *ℤ pos g) (pos g *ℤ y) e))

turned : (x y : ℤ) → x *ℤ y ≡ y *ℤ x
turned x y = ring (env (x ∷ y ∷ [])) (times (var 0) (var 1)) (times (var 1) (var 0)) refl

quotient_is : (n d q : ℤ) → pos 0 <ℤ d → unsigned_abs d ∣ unsigned_abs n → q *ℤ d ≡ n → q ≡ int_div_euclid n d
quotient_is n (pos g) q p h e = same_factor g q (int_div_euclid n (pos g)) (omega (arith, ints)) (e ∙ sym (exact_quotient g n h))
quotient_is n (negsuc g) q p h e = absurd (omega (arith, ints))

quotient_exists : (n d : ℤ) → pos 0 <ℤ d → unsigned_abs d ∣ unsigned_abs n → ((q : ℤ) → q *ℤ d ≢ n) → ⊥
quotient_exists n (pos g) p h none = none (int_div_euclid n (pos g)) (turned (int_div_euclid n (pos g)) (pos g) ∙ exact_quotient g n h)
quotient_exists n (negsuc g) p h none = absurd (omega (arith, ints))

-- what a search for it found
abbrev Found : ℤ → ℤ → Option ℤ → Type 0
Found n d found = MatchOption found ((q : ℤ) → q *ℤ d ≢ n) (λ q. q *ℤ d ≡ n)

pub quotient_found : (n d : ℤ) (found : Option ℤ) → pos 0 <ℤ d → unsigned_abs d ∣ unsigned_abs n → Found n d found → found ≡ None → ⊥
quotient_found n d None p h m e = quotient_exists n d p h m
quotient_found n d (Some q) p h m e = absurd (cc)

pub found_quotient : (n d q : ℤ) (found : Option ℤ) → pos 0 <ℤ d → unsigned_abs d ∣ unsigned_abs n → Found n d found → found ≡ Some q → q ≡ int_div_euclid n d
found_quotient n d q None p h m e = absurd (cc)
found_quotient n d q (Some r) p h m e = let same : r ≡ q = cc in sym same ∙ quotient_is n d r p h m

-- ---- a common divisor, and the multiple that it gives
pub divisor_divides : (a b g : ℤ) → g ≡ pos (gcd (unsigned_abs a) (unsigned_abs b)) → unsigned_abs g ∣ unsigned_abs b
divisor_divides a b g e = rw e ((gcd-is (unsigned_abs a) (unsigned_abs b)).1)

positive_gcd : (m n : ℕ) → 0 < n → 0 < gcd m n
positive_gcd m n h = positive_divisor (gcd m n) n ((gcd-is m n).1) h

size_positive : (b : ℤ) → pos 0 <ℤ b → 0 < unsigned_abs b
size_positive b h = omega (arith, ints)

number_positive : (n : ℕ) → 0 < n → pos 0 <ℤ pos n
number_positive n h = omega (arith, ints)

pub divisor_positive : (a b g : ℤ) → g ≡ pos (gcd (unsigned_abs a) (unsigned_abs b)) → pos 0 <ℤ b → pos 0 <ℤ g
divisor_positive a b g e h = rw e (number_positive (gcd (unsigned_abs a) (unsigned_abs b)) (positive_gcd (unsigned_abs a) (unsigned_abs b) (size_positive b h)))

some_factor : (q g n : ℕ) → g * q ≡ n → 0 < n → 0 < q
some_factor zero g n e h = absurd (omega arith)
some_factor (suc q) g n e h = omega arith

pub quotient_positive : (g n : ℕ) → g ∣ n → 0 < n → 0 < n / g
quotient_positive g n d h = some_factor (n / g) g n (mul-div_cancel' g d) h

pub lcm_positive : (a b : ℕ) → 0 < a → 0 < b → 0 < lcm a b
lcm_positive a b p q =
    let r = quotient_positive (gcd a b) b ((gcd-is a b).1) q in
    let m = mul-le 1 1 a (b / gcd a b) p r in
    omega arith
