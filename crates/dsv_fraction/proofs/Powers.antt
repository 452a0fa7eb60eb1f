-- Fractions times and over powers of ten.
use Rattle.std.proofs.Common.{◌≡◌, ℕ, suc, ◌-◌, ◌*◌, ◌/◌, ◌^◌, ◌<◌, ◌≤◌, Bool, true, false, [], ◌∷◌, refl, sym, ap, ◌∙◌, arith, inl, inr}
use Rattle.std.specs.Prelude.{Result, Ok, Err, IsErr}
use Rattle.std.specs.Int.{◌∣◌}
use Rattle.std.specs.Int.RustNames.{unsigned_abs}
use Rattle.std.proofs.Math.IntN.{ℤ, pos, negsuc, ◌*ℤ◌}
use Rattle.std.proofs.Math.Nat.{one-dvd, dvd-mul_left, pow-suc, pow-succ', one-le-pow}
use Rattle.std.proofs.lemmas.Int.{ints, unsigned_abs-mul}
use Rattle.std.proofs.lemmas.Bool.{cases_lt}
use Rattle.std.proofs.lemmas.Nat.{mul-le, le-div}
use Rattle.std.proofs.lemmas.Nat.Gcd.{dvd_trans, le_of_dvd}
use lib.Signed.{◌<ℤ◌}
use Rattle.dsv_algebra.proofs.Normaliser.{ring, env, var, num, times as product}
use Rattle.dsv_algebra.specs.Gcd.{gcd}
use Rattle.dsv_fraction.specs.Ratio.{Ratio, IsLowest}
use Rattle.dsv_fraction.specs.Arithmetic.{with_sign, is_negative, in_lowest_terms, times, bounded_ratio, too_wide}
use Rattle.dsv_fraction.specs.Parts.{AreCoprime}
use Rattle.dsv_fraction.specs.Decimal.{whole_ratio, IsWhole, ten_to, tenth_to}
use Rattle.dsv_fraction.specs.declared.fraction.TooWide.{TooWide}
use Rattle.dsv_algebra.proofs.Gcds.{gcd-is, gcd-scaled}
use Rattle.dsv_fraction.proofs.Gcds.{divided, positive_product, cancel_left, quotient_smaller}
use Rattle.dsv_fraction.proofs.Signed.{signed_mul, size_signed}
use Rattle.dsv_fraction.proofs.Lowest.{lowest_parts, cancels, is_lowest}
use Rattle.dsv_fraction.proofs.Values.{lowest_exact, narrowed_only}

-- 1 / d is in lowest terms, and so is z / 1
pub one_over : (d : ℕ) → 0 < d → AreCoprime 1 d
one_over d p = record { positive = p; coprime = (one-dvd 1, one-dvd d, λ e u v. u) }

pub over_one : (n : ℕ) → AreCoprime n 1
over_one n = record { positive = omega arith; coprime = (one-dvd n, one-dvd 1, λ e u v. v) }

pub whole_kept : (z : ℤ) → unsigned_abs z < 2 ^ 127 → (pos 0 <ℤ pos 1) × IsLowest (record { num = z; den = 1 })
whole_kept z h = (omega (arith, ints), record { positive = omega arith; coprime = (one-dvd (unsigned_abs z), one-dvd 1, λ e u v. v); narrow_num = h; narrow_den = omega arith })

pub lowest_positive : (n : ℤ) (d : ℕ) → 0 < d → 0 < (in_lowest_terms n d).den
lowest_positive n d p = (divided (unsigned_abs n) d (gcd (unsigned_abs n) d) p (gcd-is (unsigned_abs n) d)).3

-- ---- equal values have equal lowest terms
crosswise : (a b d e x y : ℕ) → 0 < e → a * e ≡ b * d → x * e ≡ b * y → x * d ≡ a * y
crosswise a b d e x y p q r =
    let u : e * (x * d) ≡ x * e * d = omega arith in
    let v : x * e * d ≡ b * y * d = ap (λ t. t * d) r in
    let w : a * e * y ≡ b * d * y = ap (λ t. t * y) q in
    cancel_left e (x * d) (a * y) p (omega arith)

same_sizes : (a b d e : ℕ) → 0 < d → 0 < e → a * e ≡ b * d → (a / gcd a d ≡ b / gcd b e) × (d / gcd a d ≡ e / gcd b e)
same_sizes a b d e p q h =
    let k = cancels b e (gcd b e) q (gcd-is b e) in
    lowest_parts a d (b / gcd b e) (e / gcd b e) p k.coprime (crosswise a b d e (b / gcd b e) (e / gcd b e) q h k.same)

size_mul : (p : Bool) (a d : ℕ) → with_sign p a *ℤ pos d ≡ with_sign p (a * d)
size_mul true a d = signed_mul true false a d
size_mul false a d = refl

unequal : (a b d e : ℕ) → 0 < d → pos (a * e) ≡ with_sign true (suc b * d) → ⊥
unequal a b d e p h = let q = positive_product (suc b) d (omega arith) p in omega (arith, ints)

pub lowest_same : (n m : ℤ) (d e : ℕ) → 0 < d → 0 < e → n *ℤ pos e ≡ m *ℤ pos d → in_lowest_terms n d ≡ in_lowest_terms m e
lowest_same (pos a) (pos b) d e p q h =
    let s = same_sizes a b d e p q (omega (arith, ints)) in rw (s.0, s.1) refl
lowest_same (negsuc a) (negsuc b) d e p q h =
    let k : with_sign true (suc a * e) ≡ with_sign true (suc b * d) = sym (size_mul true (suc a) e) ∙ h ∙ size_mul true (suc b) d in
    let s = same_sizes (suc a) (suc b) d e p q (omega (arith, ints)) in rw (s.0, s.1) refl
lowest_same (pos a) (negsuc b) d e p q h = absurd (unequal a b d e p (h ∙ size_mul true (suc b) d))
lowest_same (negsuc a) (pos b) d e p q h = absurd (unequal b a e d q (sym h ∙ size_mul true (suc a) e))

-- ---- a product with one factor more
stepped : (a t r s n c e w : ℤ) → a *ℤ (r *ℤ s) ≡ (n *ℤ c) *ℤ e → (a *ℤ t) *ℤ (r *ℤ (s *ℤ w)) ≡ (n *ℤ (c *ℤ t)) *ℤ (e *ℤ w)
stepped a t r s n c e w h =
    ring (env (a ∷ t ∷ r ∷ s ∷ w ∷ [])) (product (product (var 0) (var 1)) (product (var 2) (product (var 3) (var 4)))) (product (product (var 0) (product (var 2) (var 3))) (product (var 1) (var 4))) refl
    ∙ ap (λ z. z *ℤ (t *ℤ w)) h
    ∙ ring (env (n ∷ c ∷ e ∷ t ∷ w ∷ [])) (product (product (product (var 0) (var 1)) (var 2)) (product (var 3) (var 4)))
    (product (product (var 0) (product (var 1) (var 3))) (product (var 2) (var 4))) refl

-- a product times t is the product with the other factor times t
times_times : (r s t : Ratio) → 0 < r.den → 0 < s.den → 0 < t.den
    → times (times r s) t ≡ times r (record { num = s.num *ℤ t.num; den = s.den * t.den })
times_times r s t p q k =
    let d : 0 < r.den * s.den = positive_product r.den s.den p q in
    let m = times r s in
    lowest_same (m.num *ℤ t.num) (r.num *ℤ (s.num *ℤ t.num)) (m.den * t.den) (r.den * (s.den * t.den))
    (positive_product m.den t.den (lowest_positive (r.num *ℤ s.num) (r.den * s.den) d) k)
    (positive_product r.den (s.den * t.den) p (positive_product s.den t.den q k))
    (stepped m.num t.num (pos r.den) (pos s.den) r.num s.num (pos m.den) (pos t.den) (lowest_exact (r.num *ℤ s.num) (r.den * s.den) d))

ten_positive : (k : ℕ) → 0 < 10 ^ k
ten_positive k = omega (arith, one-le-pow k 10 (omega arith))

whole_positive : (r : Ratio) → IsWhole r → 0 < r.den
whole_positive r w = rw w.is (omega arith)

tenth_more : (r : Ratio) (k : ℕ) → IsWhole r → times (times r (tenth_to k)) (tenth_to 1) ≡ times r (tenth_to (suc k))
tenth_more r k w = times_times r (tenth_to k) (tenth_to 1) (whole_positive r w) (ten_positive k) (omega arith) ∙ rw (pow-suc 10 k) refl

ten_more : (r : Ratio) (k : ℕ) → IsWhole r → times (times r (ten_to k)) (ten_to 1) ≡ times r (ten_to (suc k))
ten_more r k w = times_times r (ten_to k) (ten_to 1) (whole_positive r w) (omega arith) (omega arith) ∙ rw (pow-suc 10 k) refl

-- ---- whole numbers
lowest_whole : (z : ℤ) → in_lowest_terms z 1 ≡ whole_ratio z
lowest_whole (pos n) = is_lowest false n 1 n 1 (omega arith) (one-dvd n, one-dvd 1, λ e u v. v) refl
lowest_whole (negsuc n) = is_lowest true (suc n) 1 (suc n) 1 (omega arith) (one-dvd (suc n), one-dvd 1, λ e u v. v) refl

ten_whole : (r : Ratio) (k : ℕ) → IsWhole r → times r (ten_to k) ≡ whole_ratio (r.num *ℤ pos (10 ^ k))
ten_whole r k w = rw w.is (lowest_whole (r.num *ℤ pos (10 ^ k)))

times_one : (z : ℤ) → z *ℤ pos 1 ≡ z
times_one z = ring (env (z ∷ [])) (product (var 0) (num (pos 1))) (var 0) refl

whole_is : (r : Ratio) → IsWhole r → whole_ratio r.num ≡ r
whole_is r w = ap (λ (d : ℕ). let t : Ratio = record { num = r.num; den = d } in t) (sym w.is)

narrow_is : (r : Ratio) → unsigned_abs r.num < 2 ^ 127 → r.den < 2 ^ 127 → Ok r ≡ bounded_ratio r
narrow_is r p q = grind arith

-- times and over 10^0
pub unit_is : (r : Ratio) (k : ℕ) → IsWhole r → k ≡ 0 → Ok r ≡ bounded_ratio (times r (ten_to k))
unit_is r k w e = rw e (narrow_is r w.narrow (rw w.is (omega arith)) ∙ ap bounded_ratio (sym (ten_whole r 0 w ∙ ap whole_ratio (times_one r.num) ∙ whole_is r w)))

pub units_is : (r : Ratio) (k : ℕ) → IsWhole r → k ≡ 0 → Ok r ≡ bounded_ratio (times r (tenth_to k))
units_is r k w e = rw e (unit_is r 0 w refl)

-- ---- one factor more
last_factor : (k : ℕ) → (k ≡ 0 → ⊥) → suc (k - 1) ≡ k
last_factor k h = omega arith

pub ten_given : {r x t : Ratio} {k : ℕ} {o : Result Ratio TooWide} → IsWhole r → (k ≡ 0 → ⊥) → Ok x ≡ bounded_ratio (times r (ten_to (k - 1)))
    → t ≡ ten_to 1 → o ≡ bounded_ratio (times x t) → o ≡ bounded_ratio (times r (ten_to k))
ten_given {r} {x} {t} {k} {o} w h e f g =
    let a : x ≡ times r (ten_to (k - 1)) = narrowed_only (times r (ten_to (k - 1))) x e in
    g ∙ ap bounded_ratio (ap (λ y. times y t) a ∙ ap (λ y. times (times r (ten_to (k - 1))) y) f ∙ ten_more r (k - 1) w ∙ ap (λ j. times r (ten_to j)) (last_factor k h))

pub tenth_given : {r x t : Ratio} {k : ℕ} {o : Result Ratio TooWide} → IsWhole r → (k ≡ 0 → ⊥) → Ok x ≡ bounded_ratio (times r (tenth_to (k - 1)))
    → t ≡ tenth_to 1 → o ≡ bounded_ratio (times x t) → o ≡ bounded_ratio (times r (tenth_to k))
tenth_given {r} {x} {t} {k} {o} w h e f g =
    let a : x ≡ times r (tenth_to (k - 1)) = narrowed_only (times r (tenth_to (k - 1))) x e in
    g ∙ ap bounded_ratio (ap (λ y. times y t) a ∙ ap (λ y. times (times r (tenth_to (k - 1))) y) f ∙ tenth_more r (k - 1) w ∙ ap (λ j. times r (tenth_to j)) (last_factor k h))

-- ---- a refusal on the way is one at the end
-- a fraction over m more has no smaller denominator
den_grows : (n d m : ℕ) → 0 < d → 0 < m → d / gcd n d ≤ m * d / gcd n (m * d)
den_grows n d m p q =
    let g = gcd n d in
    let h = gcd n (m * d) in
    let r : 0 < m * d = positive_product m d q p in
    let u = divided n d g p (gcd-is n d) in
    let v = divided n (m * d) h r (gcd-is n (m * d)) in
    let w : h ∣ m * g = (gcd-scaled m n d q).2 h (dvd_trans h (gcd-is n (m * d)).0 (dvd-mul_left n m)) (gcd-is n (m * d)).1 in
    let x : h ≤ m * g = le_of_dvd (positive_product m g q u.2) w in
    let y : d / g * h ≤ d / g * (m * g) = mul-le (d / g) h (d / g) (m * g) (omega arith) x in
    let z : m * (g * (d / g)) ≡ m * d = ap (λ t. m * t) u.1 in
    le-div (d / g) (m * d) h v.2 (omega arith)

size_lowest : (n : ℤ) (d : ℕ) → unsigned_abs (in_lowest_terms n d).num ≤ unsigned_abs n
size_lowest n d = rw (size_signed (is_negative n) (unsigned_abs n / gcd (unsigned_abs n) d)) (quotient_smaller (unsigned_abs n) (gcd (unsigned_abs n) d))

wide_den : (r : Ratio) → unsigned_abs r.num < 2 ^ 127 → Err too_wide ≡ bounded_ratio r → 2 ^ 127 ≤ r.den
wide_den r h e = elim (cases_lt r.den (2 ^ 127)) [ inl less ↦ (let k : Ok r ≡ bounded_ratio r = narrow_is r h less in absurd (cc)) | inr more ↦ more ]

wide_num : (r : Ratio) → r.den < 2 ^ 127 → Err too_wide ≡ bounded_ratio r → 2 ^ 127 ≤ unsigned_abs r.num
wide_num r h e = elim (cases_lt (unsigned_abs r.num) (2 ^ 127)) [ inl less ↦ (let k : Ok r ≡ bounded_ratio r = narrow_is r less h in absurd (cc)) | inr more ↦ more ]

den_refused : (r : Ratio) → 2 ^ 127 ≤ r.den → Err too_wide ≡ bounded_ratio r
den_refused r h = grind arith

num_refused : (r : Ratio) → 2 ^ 127 ≤ unsigned_abs r.num → Err too_wide ≡ bounded_ratio r
num_refused r h = grind arith

err_is : (o : Result Ratio TooWide) → IsErr o → o ≡ Err too_wide
err_is (Ok r) h = cc
err_is (Err e) h = refl

over_more : (n : ℤ) (d : ℕ) → 0 < d → unsigned_abs n < 2 ^ 127 → Err too_wide ≡ bounded_ratio (in_lowest_terms n d) → Err too_wide ≡ bounded_ratio (in_lowest_terms n (10 * d))
over_more n d p h e =
    let a : 2 ^ 127 ≤ (in_lowest_terms n d).den = wide_den (in_lowest_terms n d) (omega (arith, size_lowest n d)) e in
    den_refused (in_lowest_terms n (10 * d)) (omega (arith, den_grows (unsigned_abs n) d 10 p (omega arith)))

tenth_is : (r : Ratio) (k : ℕ) → IsWhole r → times r (tenth_to k) ≡ in_lowest_terms r.num (10 ^ k)
tenth_is r k w = let e : 1 * 10 ^ k ≡ 10 ^ k = omega arith in rw (times_one r.num, w.is, e) refl

tenth_wide : (r : Ratio) (k : ℕ) → IsWhole r → Err too_wide ≡ bounded_ratio (times r (tenth_to k)) → Err too_wide ≡ bounded_ratio (times r (tenth_to (suc k)))
tenth_wide r k w e =
    let a : Err too_wide ≡ bounded_ratio (in_lowest_terms r.num (10 * 10 ^ k)) = over_more r.num (10 ^ k) (ten_positive k) w.narrow (e ∙ ap bounded_ratio (tenth_is r k w)) in
    a ∙ ap (λ y. bounded_ratio (in_lowest_terms r.num y)) (sym (pow-succ' 10 k)) ∙ ap bounded_ratio (sym (tenth_is r (suc k) w))

ten_wide : (r : Ratio) (k : ℕ) → IsWhole r → Err too_wide ≡ bounded_ratio (times r (ten_to k)) → Err too_wide ≡ bounded_ratio (times r (ten_to (suc k)))
ten_wide r k w e =
    let a : 2 ^ 127 ≤ unsigned_abs (r.num *ℤ pos (10 ^ k)) = wide_num (whole_ratio (r.num *ℤ pos (10 ^ k))) (omega arith) (e ∙ ap bounded_ratio (ten_whole r k w)) in
    let b : unsigned_abs (r.num *ℤ pos (10 ^ k)) ≡ unsigned_abs r.num * 10 ^ k = unsigned_abs-mul r.num (pos (10 ^ k)) in
    let d : unsigned_abs (r.num *ℤ pos (10 ^ suc k)) ≡ unsigned_abs r.num * (10 ^ k * 10) = unsigned_abs-mul r.num (pos (10 ^ suc k)) ∙ rw (pow-suc 10 k) refl in
    num_refused (whole_ratio (r.num *ℤ pos (10 ^ suc k))) (omega arith) ∙ ap bounded_ratio (sym (ten_whole r (suc k) w))

pub ten_refused : {r : Ratio} {k : ℕ} {e : TooWide} {o : Result Ratio TooWide} → IsWhole r → (k ≡ 0 → ⊥) → Err e ≡ bounded_ratio (times r (ten_to (k - 1))) → IsErr o
    → o ≡ bounded_ratio (times r (ten_to k))
ten_refused {r} {k} {e} {o} w h f i =
    let a : Err too_wide ≡ bounded_ratio (times r (ten_to (suc (k - 1)))) = ten_wide r (k - 1) w f in err_is o i ∙ rw (last_factor k h) at a

pub tenth_refused : {r : Ratio} {k : ℕ} {e : TooWide} {o : Result Ratio TooWide} → IsWhole r → (k ≡ 0 → ⊥) → Err e ≡ bounded_ratio (times r (tenth_to (k - 1))) → IsErr o
    → o ≡ bounded_ratio (times r (tenth_to k))
tenth_refused {r} {k} {e} {o} w h f i =
    let a : Err too_wide ≡ bounded_ratio (times r (tenth_to (suc (k - 1)))) = tenth_wide r (k - 1) w f in err_is o i ∙ rw (last_factor k h) at a
