-- Fractions times a common multiple of their denominators.
use Rattle.std.proofs.Common.{◌≡◌, ℕ, suc, ◌+◌, ◌*◌, ◌/◌, ◌<◌, List, [], ◌∷◌, ◌++◌, length, drop, get_or, All, add-one, drop-cons, refl, sym, ap, subst, ◌∙◌, arith, length-append}
use Rattle.std.proofs.Math.IntN.{ℤ, pos, negsuc, ◌*ℤ◌}
use Rattle.std.proofs.Math.Nat.{mul-div_cancel', dvd-mul_left}
use Rattle.std.proofs.Math.ListN.{get_or-append}
use Rattle.std.proofs.lemmas.List.Elements.{All-cons}
use Rattle.std.proofs.lemmas.Nat.Gcd.{dvd_refl, dvd_trans}
use Rattle.std.proofs.lemmas.Int.{ints}
use lib.Signed.{◌<ℤ◌}
use Rattle.std.specs.Int.{int_div_euclid, ◌∣◌}
use Rattle.std.specs.Int.RustNames.{unsigned_abs}
use Rattle.dsv_algebra.specs.Gcd.{gcd}
use Rattle.dsv_algebra.proofs.Gcds.{gcd-is}
use Rattle.dsv_algebra.proofs.Normaliser.{ring, env, var, times}
use Rattle.dsv_fraction.specs.Ratio.{Ratio}
use Rattle.dsv_delta.specs.Deltas.{lcm, common_from, common, numerators}
use Rattle.dsv_reader.specs.Plants.{PlantView}
use Rattle.dsv_loop.specs.Loops.{plant_transfer}
use Rattle.dsv_loop.specs.Recursion.{AreTimes}
use Rattle.dsv_loop.proofs.Exact.{lcm_positive}

-- ---- common multiples
first-divides : (a b : ℕ) → a ∣ lcm a b
first-divides a b = let e : a * (b / gcd a b) ≡ b / gcd a b * a = omega arith in rw e (dvd-mul_left a (b / gcd a b))

second-divides : (a b : ℕ) → b ∣ lcm a b
second-divides a b =
    let g = gcd a b in
    let x : g * (a / g) ≡ a = mul-div_cancel' g ((gcd-is a b).0) in
    let y : g * (b / g) ≡ b = mul-div_cancel' g ((gcd-is a b).1) in
    let e : a * (b / g) ≡ a / g * b = ap (λ n. n * (b / g)) (sym x) ∙ moved g (a / g) (b / g) ∙ ap (λ n. a / g * n) y in
    rw e (dvd-mul_left b (a / g)) where
      moved : (g m n : ℕ) → g * m * n ≡ m * (g * n)
      moved g m n = omega arith

common-first : (l : ℕ) (qs : List Ratio) → l ∣ common_from l qs
common-first l [] = dvd_refl l
common-first l (q ∷ qs) = dvd_trans l (first-divides l q.den) (common-first (lcm l q.den) qs)

pub common-append : (l : ℕ) (qs rs : List Ratio) → common_from l (qs ++ rs) ≡ common_from (common_from l qs) rs
common-append l [] rs = refl
common-append l (q ∷ qs) rs = common-append (lcm l q.den) qs rs

pub first-common : (qs rs : List Ratio) (r : Ratio) → r.den ∣ common (qs ++ r ∷ rs)
first-common qs rs r =
    let l = common qs in
    rw (common-append 1 qs (r ∷ rs)) (dvd_trans r.den (second-divides l r.den) (common-first (lcm l r.den) rs))

-- ---- all denominators divide it
abbrev Divides : ℕ → Ratio → Type 0
Divides l q = q.den ∣ l

common-all : (l : ℕ) (qs : List Ratio) → All (Divides (common_from l qs)) qs
common-all l [] = λ k d h. absurd (omega arith)
common-all l (q ∷ qs) =
    All-cons (Divides (common_from l (q ∷ qs))) q qs (dvd_trans q.den (second-divides l q.den) (common-first (lcm l q.den) qs)) (common-all (lcm l q.den) qs)

-- of two lists
pub first-all : (bs qs : List Ratio) → All (λ q. q.den ∣ common (bs ++ qs)) bs
first-all bs qs = λ k d h.
    let l = common (bs ++ qs) in
    let less : k < length (bs ++ qs) = omega (arith, length-append bs qs) in
    let is : get_or (bs ++ qs) k d ≡ get_or bs k d = get_or-append bs qs d k h in
    subst (Divides l) is (common-all 1 (bs ++ qs) k d less)

pub second-all : (bs qs : List Ratio) → All (λ q. q.den ∣ common (bs ++ qs)) qs
second-all bs qs = rw (common-append 1 bs qs) (common-all (common bs) qs)

-- ---- what is made whole
one_whole : (z : ℤ) (m d l : ℕ) → d * m ≡ l → (z *ℤ pos m) *ℤ pos d ≡ z *ℤ pos l
one_whole z m d l e =
    (let x = var 0 in let y = var 1 in let w = var 2 in ring (env (z ∷ pos m ∷ pos d ∷ [])) (times (times x y) w) (times x (times w y)) refl) ∙ ap (λ n. z *ℤ pos n) e

are_times : (l : ℕ) (qs : List Ratio) → All (Divides l) qs → AreTimes l qs (numerators l qs)
are_times l [] h = tt
are_times l (q ∷ qs) h = (one_whole q.num (l / q.den) q.den l (mul-div_cancel' q.den (h 0 q (omega arith))), are_times l qs (λ k d p. h (suc k) d (omega arith)))

pub plant_whole : (p : PlantView) → AreTimes (common (p.b ++ p.a)) p.b (plant_transfer p).b × AreTimes (common (p.b ++ p.a)) p.a (plant_transfer p).a
plant_whole p = let l = common (p.b ++ p.a) in (are_times l p.b (first-all p.b p.a), are_times l p.a (second-all p.b p.a))

-- ---- with whole numbers of any size
pub number_positive : (x : ℤ) (n : ℕ) → x ≡ pos n → 0 < n → pos 0 <ℤ x
number_positive x n e h = omega (arith, ints)

pub more_positive : (c x m : ℤ) → pos 0 <ℤ c → pos 0 <ℤ x → m ≡ pos (lcm (unsigned_abs c) (unsigned_abs x)) → pos 0 <ℤ m
more_positive c x m p h e =
    let size : (z : ℤ) → pos 0 <ℤ z → 0 < unsigned_abs z = λ z q. omega (arith, ints) in
    number_positive m (lcm (unsigned_abs c) (unsigned_abs x)) e (lcm_positive (unsigned_abs c) (unsigned_abs x) (size c p) (size x h))

-- one denominator more
pub common_more : (qs : List Ratio) (i : ℕ) (q d : Ratio) (c x m : ℤ) (l : ℕ) → i < length qs → q ≡ get_or qs i d → x ≡ pos q.den → m ≡ pos (lcm (unsigned_abs c) (unsigned_abs x))
    → common_from (unsigned_abs c) (drop i qs) ≡ l → common_from (unsigned_abs m) (drop (i + 1) qs) ≡ l
common_more qs i q d c x m l less is at made before =
    ap (λ z. common_from (unsigned_abs z) (drop (i + 1) qs)) (made ∙ ap (λ z. pos (lcm (unsigned_abs c) (unsigned_abs z))) (at ∙ ap (λ r. pos r.den) is))
    ∙ ap (λ k. common_from (lcm (unsigned_abs c) (get_or qs i d).den) (drop k qs)) (add-one i)
    ∙ ap (common_from (unsigned_abs c)) (sym (drop-cons qs i d less)) ∙ before

pub factor_is : (c x f : ℤ) (d : ℕ) → pos 0 <ℤ c → x ≡ pos d → f ≡ int_div_euclid c x → f ≡ pos (unsigned_abs c / d)
factor_is (pos n) x f d p e h = h ∙ ap (int_div_euclid (pos n)) e
factor_is (negsuc n) x f d p e h = absurd (omega (arith, ints))
