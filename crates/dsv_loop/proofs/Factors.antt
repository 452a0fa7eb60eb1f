-- The greatest common factor of a list's numbers.
use Rattle.std.proofs.Common.{◌≡◌, ℕ, zero, suc, ◌+◌, ◌*◌, ◌/◌, ◌-◌, ◌<◌, Bool, true, false, List, [], ◌∷◌, length, map, All, refl, ap, ◌∙◌, arith}
use Rattle.std.proofs.Math.IntN.{ℤ, pos, negsuc, ◌*ℤ◌, neg_ℤ}
use Rattle.std.proofs.Math.Nat.{mul-div_cancel', eq-zero_of_zero-dvd}
use Rattle.std.proofs.lemmas.Int.{ints}
use Rattle.std.proofs.lemmas.Nat.{div-mul-add}
use Rattle.std.proofs.lemmas.List.Elements.{All-cons}
use Rattle.std.proofs.lemmas.Nat.Gcd.{dvd_refl, dvd_trans}
use lib.Signed.{◌<ℤ◌}
use Rattle.std.specs.Prelude.{if◌then◌else◌, int_lt, slice_index_or, Result, Ok, Err, IfOk}
use Rattle.std.specs.Int.{int_div_euclid, ◌∣◌}
use Rattle.std.specs.Int.RustNames.{unsigned_abs}
use Rattle.dsv_algebra.specs.Gcd.{gcd}
use Rattle.dsv_algebra.proofs.Gcds.{gcd-is}
use Rattle.dsv_tested.specs.Lead.{lead_size}
use Rattle.dsv_tested.specs.Tested.{with_positive_lead}
use Rattle.dsv_loop.specs.Loops.{factor_with, without_common_factor}

-- ---- the factor divides all
factor-first : (g : ℕ) (cs : List ℤ) → factor_with g cs ∣ g
factor-first g [] = dvd_refl g
factor-first g (c ∷ cs) =
    let d = gcd g (unsigned_abs c) in dvd_trans (factor_with d cs) (factor-first d cs) ((gcd-is g (unsigned_abs c)).0)

pub factor-all : (g : ℕ) (cs : List ℤ) → All (λ c. factor_with g cs ∣ unsigned_abs c) cs
factor-all g [] = λ k d h. absurd (omega arith)
factor-all g (c ∷ cs) =
    let d = gcd g (unsigned_abs c) in
    All-cons (λ x. factor_with d cs ∣ unsigned_abs x) c cs (dvd_trans (factor_with d cs) (factor-first d cs) ((gcd-is g (unsigned_abs c)).1)) (factor-all d cs)

-- ---- quotients that are exact
less_turn : (g k n : ℕ) → g * suc k ≡ suc n → n ≡ k * g + (g - 1)
less_turn zero k n e = absurd (omega arith)
less_turn (suc g) k n e = omega arith

less_below : (g k n : ℕ) → g * suc k ≡ suc n → g - 1 < g
less_below zero k n e = absurd (omega arith)
less_below (suc g) k n e = omega arith

negative_product : (g k n : ℕ) → g * suc k ≡ suc n → pos g *ℤ negsuc k ≡ negsuc n
negative_product g k n e = omega (arith, ints)

negative_exact : (g k n : ℕ) → g * k ≡ suc n → pos g *ℤ int_div_euclid (negsuc n) (pos g) ≡ negsuc n
negative_exact g zero n e = absurd (omega arith)
negative_exact g (suc k) n e =
    let q : n / g ≡ k = ap (λ x. x / g) (less_turn g k n e) ∙ div-mul-add k g (g - 1) (less_below g k n e) in
    ap (λ x. pos g *ℤ negsuc x) q ∙ negative_product g k n e

-- what a factor divides is the factor times the quotient
pub exact_quotient : (g : ℕ) (c : ℤ) → g ∣ unsigned_abs c → pos g *ℤ int_div_euclid c (pos g) ≡ c
exact_quotient g (pos n) h = let e : g * (n / g) ≡ n = mul-div_cancel' g h in ap pos e
exact_quotient g (negsuc n) h = negative_exact g (suc n / g) n (mul-div_cancel' g h)

-- ---- a product that is 0
natural_none : (g n : ℕ) → 0 < g → g * suc n ≡ 0 → ⊥
natural_none zero n p e = absurd (omega arith)
natural_none (suc g) n p e = absurd (omega arith)

pub only_nought : (g : ℕ) (x : ℤ) → 0 < g → pos g *ℤ x ≡ pos 0 → x ≡ pos 0
only_nought g (pos zero) p e = refl
only_nought g (pos (suc n)) p e = let f : g * suc n ≡ 0 = ap unsigned_abs e in absurd (natural_none g n p f)
only_nought g (negsuc n) p e = let f : g * suc n ≡ 0 = omega (arith, ints) in absurd (natural_none g n p f)

-- ---- a list whose lead isn't 0
pub positive_divisor : (d n : ℕ) → d ∣ n → 0 < n → 0 < d
positive_divisor zero n h p = let e : n ≡ 0 = eq-zero_of_zero-dvd h in absurd (omega arith)
positive_divisor (suc d) n h p = omega arith

pub factor_positive : (cs : List ℤ) → 0 < lead_size cs → 0 < factor_with 0 cs
factor_positive [] h = absurd (omega arith)
factor_positive (c ∷ cs) h = positive_divisor (factor_with 0 (c ∷ cs)) (unsigned_abs c) (factor-all 0 (c ∷ cs) 0 (pos 0) (omega arith)) h

quotient_apart : (g : ℕ) (c q : ℤ) → pos g *ℤ q ≡ c → 0 < unsigned_abs c → 0 < unsigned_abs q
quotient_apart g c (pos zero) e p = let z : pos g *ℤ pos 0 ≡ pos 0 = omega (arith, ints) in absurd (omega (arith, ints))
quotient_apart g c (pos (suc n)) e p = omega arith
quotient_apart g c (negsuc n) e p = omega arith

pub quotient_lead : (cs : List ℤ) → 0 < lead_size cs → 0 < lead_size (without_common_factor cs)
quotient_lead [] h = absurd (omega arith)
quotient_lead (c ∷ cs) h =
    let g = factor_with 0 (c ∷ cs) in
    quotient_apart g c (int_div_euclid c (pos g)) (exact_quotient g c (factor-all 0 (c ∷ cs) 0 (pos 0) (omega arith))) h

-- ---- the sign
lead_by : (b : Bool) (c : ℤ) (cs : List ℤ) → int_lt c (pos 0) ≡ b → 0 < unsigned_abs c → pos 0 <ℤ slice_index_or (if b then map neg_ℤ (c ∷ cs) else c ∷ cs) 0 (pos 0)
lead_by true (pos n) cs e h = absurd (grind (arith, ints))
lead_by true (negsuc n) cs e h = omega (arith, ints)
lead_by false (pos n) cs e h = omega (arith, ints)
lead_by false (negsuc n) cs e h = absurd (grind (arith, ints))

positive_lead : (cs : List ℤ) → 0 < lead_size cs → pos 0 <ℤ slice_index_or (with_positive_lead cs) 0 (pos 0)
positive_lead [] h = absurd (omega arith)
positive_lead (c ∷ cs) h = lead_by (int_lt c (pos 0)) c cs refl h

pub some_lead : (cs : List ℤ) → pos 0 <ℤ slice_index_or cs 0 (pos 0) → 0 < length cs
some_lead [] h = absurd (omega (arith, ints))
some_lead (c ∷ cs) h = omega arith

pub positive_result : {E : Type 0} (r : Result (List ℤ) E) (cs : List ℤ) → 0 < lead_size cs → IfOk r (λ f. f ≡ with_positive_lead cs) → IfOk r (λ f. pos 0 <ℤ slice_index_or f 0 (pos 0))
positive_result (Ok f) cs h e = rw e (positive_lead cs h)
positive_result (Err x) cs h e = tt
