-- What the definitions of words and of rounding mean.
use Rattle.std.proofs.Common.{◌≡◌, ℕ, zero, suc, ◌-◌, ◌*◌, ◌^◌, ◌==◌, ◌<◌, ◌≤◌, true, false, inl, inr, [], ◌∷◌, refl, sym, ap, ◌∙◌, arith}
use Rattle.std.specs.Prelude.{Result, Ok, Err, IfOk, MatchBool, if◌then◌else◌, int_lt}
use Rattle.std.proofs.Math.IntN.{ℤ, pos, ◌+ℤ◌, ◌*ℤ◌, ◌-ℤ◌, neg_ℤ}
use Rattle.std.proofs.Math.Nat.{pow-suc}
use Rattle.std.proofs.lemmas.Int.{ints, by_lt_z}
use Rattle.std.proofs.lemmas.Nat.{pow_pos}
use Rattle.std.proofs.lemmas.Bool.{cases_lt}
use lib.Signed.{◌<ℤ◌, ◌≤ℤ◌}
use Rattle.dsv_algebra.proofs.Normaliser.{ring, env, var, num, plus, times as product}
use Rattle.dsv_fraction.specs.Ratio.{Ratio}
use Rattle.dsv_text.specs.Stages.{and_then}
use Rattle.dsv_fraction.specs.Arithmetic.{times, bounded_ratio}
use Rattle.dsv_fraction.specs.declared.fraction.TooWide.{TooWide}
use Rattle.dsv_fraction.proofs.Values.{lowest_exact, narrowed_only}
use Rattle.dsv_fraction.proofs.Powers.{lowest_positive}
use Rattle.dsv_names.specs.declared.rounding.Rounding.{Rounding}
use Rattle.dsv_names.specs.declared.rounding.Rounding.TheVariants as rounding
use Rattle.dsv_names.specs.declared.overflow_mode.OverflowMode.{OverflowMode}
use Rattle.dsv_names.specs.declared.overflow_mode.OverflowMode.TheVariants as overflow_mode
use Rattle.dsv_word.specs.Words.{lo, hi, wrapped_word, saturated_word, IsWrapped, IsNearest, IsFitted, IsWord, width}
use Rattle.dsv_algebra.specs.Floor.{floor_of, IsFloor}
use Rattle.dsv_word.specs.Quotients.{ceiling_of, whole_shift, rounded_quotient, word_of, IsCeiling, IsShifted, IsRounded}
use Rattle.dsv_algebra.proofs.Floors.{floored_is}
use Rattle.dsv_word.proofs.Floors.{parted, rest_within}
use Rattle.dsv_word.specs.declared.format.Format.{Format}

-- ---- rounding
double_negative : (z : ℤ) → neg_ℤ (neg_ℤ z) ≡ z
double_negative z = omega (arith, ints)

pub ceiled_is : (v : ℤ) (d : ℕ) → 0 < d → IsCeiling v d (ceiling_of v d)
ceiled_is v d p = rw (double_negative (floor_of (neg_ℤ v) d)) (floored_is (neg_ℤ v) d p)

pub shifted_is : (r : Rounding) (f : ℕ) (v : ℤ) → IsShifted r f v (whole_shift r f v)
shifted_is rounding.Floor f v = floored_is v (2 ^ f) (pow_pos f)
shifted_is rounding.Ceil f v = ceiled_is v (2 ^ f) (pow_pos f)
shifted_is rounding.Nearest f v =
    let w = floor_of (v +ℤ pos (2 ^ (f - 1))) (2 ^ f) in
    elim (f == 0) as (λ b. let x = if b then v else w in MatchBool b (x ≡ v) (IsFloor (v +ℤ pos (2 ^ (f - 1))) (2 ^ f) x))
    [ true ↦ refl | false ↦ floored_is (v +ℤ pos (2 ^ (f - 1))) (2 ^ f) (pow_pos f) ]

rounded_is : (r : Rounding) (n : ℤ) (d : ℕ) → 0 < d → IsRounded r n d (rounded_quotient r n d)
rounded_is rounding.Floor n d p = floored_is n d p
rounded_is rounding.Ceil n d p = ceiled_is n d p
rounded_is rounding.Nearest n d p = floored_is (pos 2 *ℤ n +ℤ pos d) (2 * d) (omega arith)

-- ---- a fraction times 2^f, made whole
-- a function of the value of n / d alone
abbrev pub IsOfValue : (ℤ → ℕ → ℤ) → Type 0
IsOfValue whole = (n m : ℤ) (d e : ℕ) → 0 < d → 0 < e → n *ℤ pos e ≡ m *ℤ pos d → whole n d ≡ whole m e

pub word_is : (whole : ℤ → ℕ → ℤ) (f : ℕ) (q r : Ratio) (w : ℤ) → IsOfValue whole → 0 < q.den
    → Ok r ≡ bounded_ratio (times q (record { num = pos (2 ^ f); den = 1 })) → w ≡ whole r.num r.den → Ok w ≡ word_of whole f q
word_is whole f q r w h p e g =
    let n = q.num *ℤ pos (2 ^ f) in
    let t = times q (record { num = pos (2 ^ f); den = 1 }) in
    let one : q.den * 1 ≡ q.den = omega arith in
    let exact : t.num *ℤ pos q.den ≡ n *ℤ pos t.den = ap (λ k. t.num *ℤ pos k) (sym one) ∙ lowest_exact n (q.den * 1) (omega arith) in
    let a : r ≡ t = narrowed_only t r e in
    let b : whole t.num t.den ≡ whole n q.den = h t.num n t.den q.den (lowest_positive n (q.den * 1) (omega arith)) p exact in
    ap Ok (g ∙ ap (λ (s : Ratio). whole s.num s.den) a ∙ b) ∙ ap (λ o. and_then o (λ s. Ok (whole n q.den))) e

within_narrow : (t : Result Ratio TooWide) (z : ℤ) (P : ℤ → Type 0) → P z → IfOk (and_then t (λ s. Ok z)) P
within_narrow (Ok s) z P p = p
within_narrow (Err e) z P p = tt

-- what holds of the whole number holds of the answer
within_word : (whole : ℤ → ℕ → ℤ) (f : ℕ) (q : Ratio) (P : ℤ → Type 0) (o : Result ℤ TooWide)
    → P (whole (q.num *ℤ pos (2 ^ f)) q.den) → o ≡ word_of whole f q → IfOk o P
within_word whole f q P o p e =
    rw e (within_narrow (bounded_ratio (times q (record { num = pos (2 ^ f); den = 1 }))) (whole (q.num *ℤ pos (2 ^ f)) q.den) P p)

pub floor_meant : (f : ℕ) (q : Ratio) (o : Result ℤ TooWide) → 0 < q.den → o ≡ word_of floor_of f q → IfOk o (IsFloor (q.num *ℤ pos (2 ^ f)) q.den)
floor_meant f q o p = within_word floor_of f q (IsFloor (q.num *ℤ pos (2 ^ f)) q.den) o (floored_is (q.num *ℤ pos (2 ^ f)) q.den p)

pub ceiling_meant : (f : ℕ) (q : Ratio) (o : Result ℤ TooWide) → 0 < q.den → o ≡ word_of ceiling_of f q → IfOk o (IsCeiling (q.num *ℤ pos (2 ^ f)) q.den)
ceiling_meant f q o p = within_word ceiling_of f q (IsCeiling (q.num *ℤ pos (2 ^ f)) q.den) o (ceiled_is (q.num *ℤ pos (2 ^ f)) q.den p)

pub rounded_meant : (r : Rounding) (f : ℕ) (q : Ratio) (o : Result ℤ TooWide) → 0 < q.den → o ≡ word_of (rounded_quotient r) f q
    → IfOk o (IsRounded r (q.num *ℤ pos (2 ^ f)) q.den)
rounded_meant r f q o p = within_word (rounded_quotient r) f q (IsRounded r (q.num *ℤ pos (2 ^ f)) q.den) o (rounded_is r (q.num *ℤ pos (2 ^ f)) q.den p)

-- ---- wrapping
pub halves : (n : ℕ) → 1 ≤ n → 2 ^ n ≡ 2 * 2 ^ (n - 1)
halves zero h = absurd (omega arith)
halves (suc n) h = let e : suc n - 1 ≡ n = omega arith in rw (pow-suc 2 n, e) (omega arith)

kept : (n m : ℕ) (v k : ℤ) → v ≡ k *ℤ pos (2 ^ n) +ℤ pos m → m < 2 ^ (n - 1) → IsWrapped n v (pos m)
kept n m v k e h = record { low = omega (arith, ints); high = omega (arith, ints); turns = (k, omega (arith, ints)) }

lowered : (n m : ℕ) (v k : ℤ) → 1 ≤ n → v ≡ k *ℤ pos (2 ^ n) +ℤ pos m → m < 2 ^ n → 2 ^ (n - 1) ≤ m → IsWrapped n v (pos m -ℤ pos (2 ^ n))
lowered n m v k p e h j =
    let two = halves n p in
    let one_more : (k +ℤ pos 1) *ℤ pos (2 ^ n) ≡ k *ℤ pos (2 ^ n) +ℤ pos (2 ^ n) =
    ring (env (k ∷ pos (2 ^ n) ∷ [])) (product (plus (var 0) (num (pos 1))) (var 1)) (plus (product (var 0) (var 1)) (var 1)) refl in
    record { low = omega (arith, ints); high = omega (arith, ints); turns = (k +ℤ pos 1, omega (arith, ints)) }

either : (n m : ℕ) (v k : ℤ) → 1 ≤ n → v ≡ k *ℤ pos (2 ^ n) +ℤ pos m → m < 2 ^ n
    → IsWrapped n v (if int_lt (pos m) (pos (2 ^ (n - 1))) then pos m else pos m -ℤ pos (2 ^ n))
either n m v k p e h = elim (cases_lt m (2 ^ (n - 1))) [
  | inl less ↦ (let t : int_lt (pos m) (pos (2 ^ (n - 1))) ≡ true = grind (arith, ints) in rw t (kept n m v k e less))
  | inr more ↦ (let t : int_lt (pos m) (pos (2 ^ (n - 1))) ≡ false = grind (arith, ints) in rw t (lowered n m v k p e h more))
]

pub wrapped_is : (n : ℕ) (v : ℤ) → 1 ≤ n → IsWrapped n v (wrapped_word n v)
wrapped_is n v p =
    let r = rest_within v (2 ^ n) (pow_pos n) in
    rw r.1 (either n r.0 v (floor_of v (2 ^ n)) p (rw r.1 at (parted v (2 ^ n) (pow_pos n))) r.2)

pub wrapped_meant : (o : OverflowMode) (n m : ℕ) (v w : ℤ) → o ≡ overflow_mode.Wrap → m ≡ n → 2 ≤ m → w ≡ wrapped_word m v → IsFitted o n v w
wrapped_meant o n m v w e f h g = rw (e, ← f, g) (wrapped_is m v (omega arith))

-- ---- saturating
-- one of the words lies between the ends
ends : (n : ℕ) → lo n ≤ℤ hi n
ends n = let h = pow_pos (n - 1) in omega (arith, ints)

held_low : (n : ℕ) (v w : ℤ) → v <ℤ lo n → w ≡ lo n → IsNearest n v w
held_low n v w h e =
    let k = ends n in
    record { low = omega (arith, ints); high = omega (arith, ints); inside = λ p q. absurd (omega (arith, ints)); below = λ p. e; above = λ p. absurd (omega (arith, ints)) }

held_high : (n : ℕ) (v w : ℤ) → hi n <ℤ v → w ≡ hi n → IsNearest n v w
held_high n v w h e =
    let k = ends n in
    record { low = omega (arith, ints); high = omega (arith, ints); inside = λ p q. absurd (omega (arith, ints)); below = λ p. absurd (omega (arith, ints)); above = λ p. e }

held_inside : (n : ℕ) (v w : ℤ) → lo n ≤ℤ v → v ≤ℤ hi n → w ≡ v → IsNearest n v w
held_inside n v w h j e =
    record { low = omega (arith, ints); high = omega (arith, ints); inside = λ p q. e; below = λ p. absurd (omega (arith, ints)); above = λ p. absurd (omega (arith, ints)) }

is_less : (a b : ℤ) → a <ℤ b → int_lt a b ≡ true
is_less a b h = grind (arith, ints)

not_less : (a b : ℤ) → b ≤ℤ a → int_lt a b ≡ false
not_less a b h = grind (arith, ints)

pub saturated_is : (n : ℕ) (v : ℤ) → IsNearest n v (saturated_word n v)
saturated_is n v = by_lt_z v (lo n)
    (λ less. held_low n v (saturated_word n v) less (rw (is_less v (lo n) less) refl))
    (λ not_low. by_lt_z (hi n) v
    (λ more. held_high n v (saturated_word n v) more (rw (not_less v (lo n) not_low, is_less (hi n) v more) refl))
    (λ not_high. held_inside n v (saturated_word n v) not_low not_high (rw (not_less v (lo n) not_low, not_less (hi n) v not_high) refl)))

pub saturated_meant : (o : OverflowMode) (n m : ℕ) (v w a b : ℤ) → o ≡ overflow_mode.Saturate → m ≡ n → a ≡ lo m → b ≡ hi m
    → w ≡ (if int_lt v a then a else if int_lt b v then b else v) → IsFitted o n v w
saturated_meant o n m v w a b e f x y g = rw (e, ← f, g, x, y) (saturated_is m v)

-- ---- words
pub zero_word : (f : Format) → IsWord f (pos 0)
zero_word f = let p = pow_pos (width f - 1) in record { low = omega (arith, ints); high = omega (arith, ints) }
