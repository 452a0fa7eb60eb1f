-- Words that stay the same, the errors of quotients, and facts that are true.
use Rattle.std.proofs.Common.{◌≡◌, ℕ, zero, suc, ◌+◌, ◌*◌, ◌/◌, ◌<◌, ◌≤◌, ◌-◌, ◌^◌, ◌==◌, Bool, true, false, ◌&&◌, not, if◌then◌else◌, [], ◌∷◌, refl, sym, ap, ◌∙◌, arith, rules}
use Rattle.std.specs.Prelude.{MatchBool, Option, Some, None, int_lt}
use Rattle.std.proofs.Math.IntN.{ℤ, pos, negsuc, ◌+ℤ◌, ◌-ℤ◌, ◌*ℤ◌, neg_ℤ}
use Rattle.std.proofs.Math.Nat.{mul-div_cancel_left}
use Rattle.std.proofs.lemmas.Nat.{pow_pos, pow-add}
use Rattle.std.proofs.lemmas.Int.{ints}
use lib.Signed.{◌<ℤ◌, ◌≤ℤ◌}
use Rattle.dsv_algebra.specs.Floor.{IsFloor}
use Rattle.dsv_algebra.proofs.Normaliser.{ring, env, var, num, plus, times, minus}
use Rattle.dsv_names.specs.declared.rounding.Rounding.{Rounding}
use Rattle.dsv_names.specs.declared.rounding.Rounding.TheVariants as rounding
use Rattle.dsv_names.specs.declared.overflow_mode.OverflowMode.{OverflowMode}
use Rattle.dsv_names.specs.declared.overflow_mode.OverflowMode.TheVariants as overflow
use Rattle.dsv_word.specs.declared.format.Format.{Format}
use Rattle.dsv_word.specs.Words.{width, lo, hi, fit, IsWord}
use Rattle.dsv_word.specs.Quotients.{whole_shift}
use Rattle.dsv_word.proofs.Meanings.{wrapped_is, saturated_is, shifted_is, halves}
use Rattle.dsv_linear.specs.Facts.{Between, HoldsOf}
use Rattle.dsv_linear.specs.declared.fact.Fact.TheVariants as fact
use Rattle.dsv_linear.specs.declared.range.Range.{Range}
use Rattle.dsv_linear.specs.Forms.{scale, range}
use Rattle.dsv_linear.specs.Known.{error_range, is_word, are_words, inside_fact, fact_of}

-- ---- a word stays the same

no_turn : (h t : ℕ) (v w k : ℤ) → t ≡ 2 * h → neg_ℤ (pos h) ≤ℤ v → v <ℤ pos h → neg_ℤ (pos h) ≤ℤ w → w <ℤ pos h → v ≡ w +ℤ k *ℤ pos t → w ≡ v
no_turn h t v w (pos zero) e a b c d s = let z : pos zero *ℤ pos t ≡ pos 0 = ring (env (pos t ∷ [])) (times (num (pos 0)) (var 0)) (num (pos 0)) refl in omega (arith, ints)
no_turn h t v w (pos (suc k)) e a b c d s = absurd (let m : pos (suc k) *ℤ pos t ≡ pos (k * t) +ℤ pos t = omega (arith, ints) in omega (arith, ints))
no_turn h t v w (negsuc k) e a b c d s = absurd (let m : negsuc k *ℤ pos t ≡ neg_ℤ (pos (k * t) +ℤ pos t) = omega (arith, ints) in omega (arith, ints))

fit_word : (o : OverflowMode) (n : ℕ) (v : ℤ) → 1 ≤ n → lo n ≤ℤ v → v ≤ℤ hi n → fit o n v ≡ v
fit_word overflow.Wrap n v p l h =
    let w = wrapped_is n v p in
    no_turn (2 ^ (n - 1)) (2 ^ n) v (fit overflow.Wrap n v) w.turns.0 (halves n p) (omega (arith, ints)) (omega (arith, ints)) (omega (arith, ints, w.low)) (omega (arith, ints, w.high)) w.turns.1
fit_word overflow.Saturate n v p l h = (saturated_is n v).inside l h

pub fit_same : (format : Format) (v : ℤ) → IsWord format v → fit format.overflow (width format) v ≡ v
fit_same format v w = fit_word format.overflow (width format) v (omega (arith, format.lawful)) w.low w.high

-- ---- the errors of quotients
error_floor : (v w : ℤ) (d : ℕ) → IsFloor v d w → Between (pos 1 -ℤ pos d) (pos 0) (pos d *ℤ w -ℤ v)
error_floor v w d f =
    let e : pos d *ℤ w ≡ w *ℤ pos d = ring (env (pos d ∷ w ∷ [])) (times (var 0) (var 1)) (times (var 1) (var 0)) refl in
    let g : (w +ℤ pos 1) *ℤ pos d ≡ w *ℤ pos d +ℤ pos d = ring (env (pos d ∷ w ∷ [])) (times (plus (var 1) (num (pos 1))) (var 0)) (plus (times (var 1) (var 0)) (var 0)) refl in
    let below = f.below in let above = f.above in
    record { least = omega (arith, ints); most = omega (arith, ints) }

error_ceil : (v w : ℤ) (d : ℕ) → IsFloor (neg_ℤ v) d (neg_ℤ w) → Between (pos 0) (pos d -ℤ pos 1) (pos d *ℤ w -ℤ v)
error_ceil v w d f =
    let e : neg_ℤ w *ℤ pos d ≡ neg_ℤ (pos d *ℤ w) = ring (env (pos d ∷ w ∷ [])) (times (minus (var 1)) (var 0)) (minus (times (var 0) (var 1))) refl in
    let g : (neg_ℤ w +ℤ pos 1) *ℤ pos d ≡ pos d -ℤ pos d *ℤ w = ring (env (pos d ∷ w ∷ [])) (times (plus (minus (var 1)) (num (pos 1))) (var 0)) (plus (var 0) (minus (times (var 0) (var 1)))) refl in
    let below = f.below in let above = f.above in
    record { least = omega (arith, ints); most = omega (arith, ints) }

error_near : (v w : ℤ) (d h : ℕ) → d ≡ 2 * h → IsFloor (v +ℤ pos h) d w → Between (pos 1 -ℤ pos h) (pos h) (pos d *ℤ w -ℤ v)
error_near v w d h s f =
    let e : pos d *ℤ w ≡ w *ℤ pos d = ring (env (pos d ∷ w ∷ [])) (times (var 0) (var 1)) (times (var 1) (var 0)) refl in
    let g : (w +ℤ pos 1) *ℤ pos d ≡ w *ℤ pos d +ℤ pos d = ring (env (pos d ∷ w ∷ [])) (times (plus (var 1) (num (pos 1))) (var 0)) (plus (times (var 1) (var 0)) (var 0)) refl in
    let below = f.below in let above = f.above in
    record { least = omega (arith, ints); most = omega (arith, ints) }

itself : (v : ℤ) → pos 1 *ℤ v -ℤ v ≡ pos 0
itself v = ring (env (v ∷ [])) (plus (times (num (pos 1)) (var 0)) (minus (var 0))) (num (pos 0)) refl

second_of : (b : Bool) (A B : Type 0) → b ≡ false → MatchBool b A B → B
second_of true A B e m = absurd cc
second_of false A B e m = m

other_range : (b : Bool) (r s : Range) (x : ℤ) → b ≡ false → Between s.low s.high x → Between (if b then r else s).low (if b then r else s).high x
other_range true r s x e h = absurd cc
other_range false r s x e h = h

not_zero : (f : ℕ) → (suc f == 0) ≡ false
not_zero f = search rules

near_of : (f : ℕ) (v w : ℤ) → MatchBool (f == 0) (w ≡ v) (IsFloor (v +ℤ pos (2 ^ (f - 1))) (2 ^ f) w)
    → Between (error_range rounding.Nearest f).low (error_range rounding.Nearest f).high (pos (2 ^ f) *ℤ w -ℤ v)
near_of zero v w m = rw (m, itself v) (record { least = omega (arith, ints); most = omega (arith, ints) })
near_of (suc f) v w m =
    let half = pos (2 ^ (suc f - 1)) in
    other_range (suc f == 0) (range (pos 0) (pos 0)) (range (pos 1 -ℤ half) half) (pos (2 ^ suc f) *ℤ w -ℤ v) (not_zero f)
    (error_near v w (2 ^ suc f) (2 ^ (suc f - 1)) (halves (suc f) (omega arith)) (second_of (suc f == 0) (w ≡ v) (IsFloor (v +ℤ half) (2 ^ suc f) w) (not_zero f) m))

-- an error lies in its range
pub errors_lie : (r : Rounding) (f : ℕ) (v : ℤ) → Between (error_range r f).low (error_range r f).high (pos (2 ^ f) *ℤ whole_shift r f v -ℤ v)
errors_lie rounding.Floor f v = error_floor v (whole_shift rounding.Floor f v) (2 ^ f) (shifted_is rounding.Floor f v)
errors_lie rounding.Ceil f v = error_ceil v (whole_shift rounding.Ceil f v) (2 ^ f) (shifted_is rounding.Ceil f v)
errors_lie rounding.Nearest f v = near_of f v (whole_shift rounding.Nearest f v) (shifted_is rounding.Nearest f v)

-- ---- the scale over a power of two
power_parts : (f : ℕ) → f ≤ 53 → 2 ^ f * 2 ^ (53 - f) ≡ scale
unfolding scale
power_parts f h = let g : f + (53 - f) ≡ 53 = omega arith in sym (pow-add 2 f (53 - f)) ∙ ap (λ n. 2 ^ n) g

step_is : (f : ℕ) → f ≤ 53 → scale / 2 ^ f ≡ 2 ^ (53 - f)
step_is f h = ap (λ n. n / 2 ^ f) (sym (power_parts f h)) ∙ mul-div_cancel_left (2 ^ (53 - f)) {n = 2 ^ f} (pow_pos f)

pub steps_are : (f : ℕ) → f ≤ 53 → pos scale ≡ pos (2 ^ f) *ℤ pos (scale / 2 ^ f)
steps_are f h = let e = power_parts f h in let g = step_is f h in rw g (omega (arith, ints))

pub step_positive : (f : ℕ) → f ≤ 53 → pos 0 <ℤ pos (scale / 2 ^ f)
step_positive f h = let p : 0 < 2 ^ (53 - f) = pow_pos (53 - f) in rw (step_is f h) (omega (arith, ints))

-- ---- facts
pub few_bits : (format : Format) → format.frac_bits ≤ 53
few_bits format = omega (arith, format.lawful)

word_cases : (a b : Bool) (format : Format) (v : ℤ) → int_lt v (lo (width format)) ≡ a → int_lt (hi (width format)) v ≡ b → (not a && not b) ≡ true → IsWord format v
word_cases true b format v p q e = absurd cc
word_cases false true format v p q e = absurd cc
word_cases false false format v p q e = record { low = omega (arith, ints); high = omega (arith, ints) }

pub is_word-true : (format : Format) (v : ℤ) → is_word format v ≡ true → IsWord format v
is_word-true format v e = word_cases (int_lt v (lo (width format))) (int_lt (hi (width format)) v) format v refl refl e

pub between_words : (format : Format) (low high v : ℤ) → IsWord format low → IsWord format high → Between low high v → IsWord format v
between_words format low high v a b c = record { low = omega (arith, ints, a.low, c.least); high = omega (arith, ints, b.high, c.most) }

inside_is_true : (b : Bool) (format : Format) (low high v : ℤ) → IsWord format low → IsWord format high → Between low high v
    → HoldsOf format (if b then fact.Within low high else fact.Inside) v
inside_is_true true format low high v a b c = record { low_word = a; high_word = b; between = c }
inside_is_true false format low high v a b c = between_words format low high v a b c

inside_fact_is_true : (format : Format) (ends : Range) (interval : Option Range) (v : ℤ) → IsWord format ends.low → IsWord format ends.high → Between ends.low ends.high v
    → HoldsOf format (inside_fact format ends interval) v
inside_fact_is_true format ends None v a b c = between_words format ends.low ends.high v a b c
inside_fact_is_true format ends (Some interval) v a b c = inside_is_true (are_words format interval) format ends.low ends.high v a b c

ranged_cases : (p q : Bool) (format : Format) (ends : Range) (interval : Option Range) (v : ℤ) → is_word format ends.low ≡ p → is_word format ends.high ≡ q → Between ends.low ends.high v
    → HoldsOf format (if p && q then inside_fact format ends interval else fact.Open) v
ranged_cases true true format ends interval v a b c = inside_fact_is_true format ends interval v (is_word-true format ends.low a) (is_word-true format ends.high b) c
ranged_cases true false format ends interval v a b c = tt
ranged_cases false q format ends interval v a b c = tt

-- the fact of a value that lies in its form's range
pub fact_is_true : (format : Format) (ends interval : Option Range) (v : ℤ) → ((r : Range) → ends ≡ Some r → Between r.low r.high v) → HoldsOf format (fact_of format ends interval) v
fact_is_true format None interval v h = tt
fact_is_true format (Some ends) interval v h = ranged_cases (is_word format ends.low) (is_word format ends.high) format ends interval v refl refl (h ends refl)
