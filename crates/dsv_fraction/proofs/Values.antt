-- What the definitions mean, by cross multiplication.
use Rattle.std.proofs.Common.{◌≡◌, ◌≢◌, ℕ, zero, suc, ◌*◌, ◌/◌, ◌^◌, ◌<◌, true, false, [], ◌∷◌, refl, sym, ap, ◌∙◌, arith}
use Rattle.std.specs.Prelude.{Result, Ok, Err, IfOk, if◌then◌else◌, nat_lt}
use Rattle.std.specs.Int.RustNames.{unsigned_abs}
use Rattle.std.proofs.Math.IntN.{ℤ, pos, negsuc, ◌+ℤ◌, ◌*ℤ◌, ◌-ℤ◌, neg_ℤ}
use Rattle.std.proofs.lemmas.Int.{ints}
use Rattle.dsv_algebra.proofs.Normaliser.{ring, env, var, plus, times as product, minus}
use Rattle.dsv_algebra.specs.Gcd.{gcd}
use Rattle.dsv_fraction.specs.Ratio.{Ratio}
use Rattle.dsv_text.specs.Stages.{and_then}
use Rattle.dsv_fraction.specs.Arithmetic.{in_lowest_terms, over, times, quotient, opposite, is_bounded, bounded_ratio, bounded_size, bounded_whole, too_wide, sum_of}
use Rattle.dsv_fraction.specs.declared.fraction.TooWide.{TooWide}
use Rattle.dsv_algebra.proofs.Gcds.{gcd-is}
use Rattle.dsv_fraction.proofs.Gcds.{divided, positive_product}
use Rattle.dsv_fraction.proofs.Lowest.{cancels}
use Rattle.dsv_fraction.proofs.Signed.{signed_same}

pub lowest_exact : (n : ℤ) (d : ℕ) → 0 < d → (in_lowest_terms n d).num *ℤ pos d ≡ n *ℤ pos (in_lowest_terms n d).den
lowest_exact (pos m) d p = signed_same false m d (m / gcd m d) (d / gcd m d) ((cancels m d (gcd m d) p (gcd-is m d)).same)
lowest_exact (negsuc m) d p = signed_same true (suc m) d (suc m / gcd (suc m) d) (d / gcd (suc m) d) ((cancels (suc m) d (gcd (suc m) d) p (gcd-is (suc m) d)).same)

turned : (x y n : ℤ) (d : ℕ) → x *ℤ pos (suc d) ≡ neg_ℤ n *ℤ y → x *ℤ negsuc d ≡ n *ℤ y
turned x y n d e =
    let a : x *ℤ negsuc d ≡ neg_ℤ (x *ℤ pos (suc d)) = ring (env (x ∷ pos (suc d) ∷ [])) (product (var 0) (minus (var 1))) (minus (product (var 0) (var 1))) refl in
    let b : neg_ℤ (neg_ℤ n *ℤ y) ≡ n *ℤ y = ring (env (n ∷ y ∷ [])) (minus (product (minus (var 0)) (var 1))) (product (var 0) (var 1)) refl in
    a ∙ ap neg_ℤ e ∙ b

pub over_exact : (n d : ℤ) → d ≢ pos 0 → (over n d).num *ℤ d ≡ n *ℤ pos (over n d).den
over_exact n (pos zero) p = absurd (p refl)
over_exact n (pos (suc d)) p = lowest_exact n (suc d) (omega arith)
over_exact n (negsuc d) p = let r = in_lowest_terms (neg_ℤ n) (suc d) in turned r.num (pos r.den) n d (lowest_exact (neg_ℤ n) (suc d) (omega arith))

-- ---- after the refusals
pub narrowed_is : (r : Ratio) (P : Ratio → Type 0) → P r → IfOk (bounded_ratio r) P
narrowed_is r P p = elim (is_bounded r) as (λ b. IfOk {E = TooWide} (if b then Ok r else Err too_wide) P) [ true ↦ p | false ↦ tt ]

pub narrowed_only : (r x : Ratio) → Ok x ≡ bounded_ratio r → x ≡ r
narrowed_only r x = elim (is_bounded r) as (λ b. ◌≡◌ {A = Result Ratio TooWide} (Ok x) (if b then Ok r else Err too_wide) → x ≡ r) [ true ↦ (λ e. cc) | false ↦ (λ e. cc) ]

size_is : {B : Type 0} (n : ℕ) (f : ℕ → Result B TooWide) (P : B → Type 0) → IfOk (f n) P → IfOk (and_then (bounded_size n) f) P
size_is {B} n f P p = elim (nat_lt n (2 ^ 127)) as (λ b. IfOk (and_then (if b then Ok n else Err too_wide) f) P) [ true ↦ p | false ↦ tt ]

whole_is : {B : Type 0} (z : ℤ) (f : ℤ → Result B TooWide) (P : B → Type 0) → IfOk (f z) P → IfOk (and_then (bounded_whole z) f) P
whole_is {B} z f P p = elim (nat_lt (unsigned_abs z) (2 ^ 127)) as (λ b. IfOk (and_then (if b then Ok z else Err too_wide) f) P) [ true ↦ p | false ↦ tt ]

-- ---- the operations
pub over_value : (n d : ℤ) → d ≢ pos 0 → IfOk (bounded_ratio (over n d)) (λ r. r.num *ℤ d ≡ n *ℤ pos r.den)
over_value n d p = narrowed_is (over n d) (λ r. r.num *ℤ d ≡ n *ℤ pos r.den) (over_exact n d p)

pub times_value : (r s : Ratio) → 0 < r.den → 0 < s.den → IfOk (bounded_ratio (times r s)) (λ t. t.num *ℤ pos (r.den * s.den) ≡ r.num *ℤ s.num *ℤ pos t.den)
times_value r s p q = narrowed_is (times r s) (λ t. t.num *ℤ pos (r.den * s.den) ≡ r.num *ℤ s.num *ℤ pos t.den)
    (lowest_exact (r.num *ℤ s.num) (r.den * s.den) (positive_product r.den s.den p q))

apart : (d : ℕ) (z : ℤ) → 0 < d → z ≢ pos 0 → pos d *ℤ z ≢ pos 0
apart d (pos zero) p n e = n refl
apart d (pos (suc m)) p n e = let h = positive_product d (suc m) p (omega arith) in absurd (omega (arith, ints))
apart d (negsuc m) p n e = let h = positive_product d (suc m) p (omega arith) in absurd (omega (arith, ints))

pub quotient_value : (r s : Ratio) → 0 < r.den → s.num ≢ pos 0 → IfOk (bounded_ratio (quotient r s)) (λ t. t.num *ℤ (pos r.den *ℤ s.num) ≡ r.num *ℤ pos s.den *ℤ pos t.den)
quotient_value r s p n = narrowed_is (quotient r s) (λ t. t.num *ℤ (pos r.den *ℤ s.num) ≡ r.num *ℤ pos s.den *ℤ pos t.den)
    (over_exact (r.num *ℤ pos s.den) (pos r.den *ℤ s.num) (apart r.den s.num p n))

-- a sum over the least common denominator b y, where b = g x and d = g y, is the sum over b d
over_both : (n c t : ℤ) (b d e g x y : ℕ) → b ≡ g * x → d ≡ g * y
    → t *ℤ pos (b * y) ≡ (n *ℤ pos y +ℤ c *ℤ pos x) *ℤ pos e → t *ℤ pos (b * d) ≡ (n *ℤ pos d +ℤ c *ℤ pos b) *ℤ pos e
over_both n c t b d e g x y p q h =
    rw (p, q) (
    ring (env (t ∷ pos g ∷ pos x ∷ pos y ∷ [])) (product (var 0) (product (product (var 1) (var 2)) (product (var 1) (var 3)))) (product (var 1) (product (var 0) (product (product (var 1) (var 2)) (var 3)))) refl
    ∙ ap (λ k. pos g *ℤ k) (rw p at h)
    ∙ ring (env (n ∷ c ∷ pos g ∷ pos x ∷ pos y ∷ pos e ∷ [])) (product (var 2) (product (plus (product (var 0) (var 4)) (product (var 1) (var 3))) (var 5)))
    (product (plus (product (var 0) (product (var 2) (var 4))) (product (var 1) (product (var 2) (var 3)))) (var 5)) refl)

abbrev pub IsSum : Ratio → Ratio → Ratio → Type 0
IsSum r s t = t.num *ℤ pos (r.den * s.den) ≡ (r.num *ℤ pos s.den +ℤ s.num *ℤ pos r.den) *ℤ pos t.den

pub sum_value : (r s : Ratio) → 0 < r.den → 0 < s.den
    → IfOk (sum_of r s) (λ t. t.num *ℤ pos (r.den * s.den) ≡ (r.num *ℤ pos s.den +ℤ s.num *ℤ pos r.den) *ℤ pos t.den)
sum_value r s p q =
    let g = gcd r.den s.den in
    let x = r.den / g in
    let y = s.den / g in
    let v = divided r.den s.den g q (gcd-is r.den s.den) in
    let total = r.num *ℤ pos y +ℤ s.num *ℤ pos x in
    let t = in_lowest_terms total (r.den * y) in
    size_is (r.den * y) _ (IsSum r s) (whole_is (r.num *ℤ pos y) _ (IsSum r s) (whole_is (s.num *ℤ pos x) _ (IsSum r s) (whole_is total _ (IsSum r s)
    (over_both r.num s.num t.num r.den s.den t.den g x y (sym v.0) (sym v.1) (lowest_exact total (r.den * y) (positive_product r.den y p v.3))))))

if_then : (o : Result Ratio TooWide) (P Q : Ratio → Type 0) → ((t : Ratio) → P t → Q t) → IfOk o P → IfOk o Q
if_then (Ok t) P Q f p = f t p
if_then (Err e) P Q f p = p

-- a sum with the negated fraction is a difference
pub difference_value : (r s : Ratio) (o : Result Ratio TooWide) → IfOk o (IsSum r (opposite s))
    → IfOk o (λ t. t.num *ℤ pos (r.den * s.den) ≡ (r.num *ℤ pos s.den -ℤ s.num *ℤ pos r.den) *ℤ pos t.den)
difference_value r s o = if_then o (IsSum r (opposite s)) (λ t. t.num *ℤ pos (r.den * s.den) ≡ (r.num *ℤ pos s.den -ℤ s.num *ℤ pos r.den) *ℤ pos t.den)
    (λ t h. h ∙ ring (env (r.num ∷ pos s.den ∷ s.num ∷ pos r.den ∷ pos t.den ∷ []))
    (product (plus (product (var 0) (var 1)) (product (minus (var 2)) (var 3))) (var 4))
    (product (plus (product (var 0) (var 1)) (minus (product (var 2) (var 3)))) (var 4)) refl)
