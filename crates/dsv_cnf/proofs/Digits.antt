-- Decimal digits: what they write, and that they are read.
use Rattle.std.proofs.Common.{◌≡◌, ℕ, ◌+◌, ◌-◌, ◌*◌, ◌/◌, ◌%◌, ◌^◌, ◌<◌, ◌≤◌, ◌==◌, Bool, true, false, List, [], ◌∷◌, ◌++◌, Some, Ok, Err, cond, length, get_or, decimal, zero, suc, refl, arith, ap, ◌∙◌, nat_lt}
use Rattle.std.proofs.lemmas.Bool.Decides.{nat_tests}
use Rattle.std.proofs.lemmas.Fmt.{decimal_by_steps, decimal_digit, first_decimal, decimal_nonempty}
use Rattle.dsv_text.specs.Bytes.{is_blank, is_digit}
use Rattle.dsv_cnf.specs.Reading.{digits_from, digits_end, number_of, number_end, part_of}
use Rattle.dsv_cnf.specs.declared.reader.CnfRefusal.TheVariants as refusal
use Rattle.dsv_cnf.specs.declared.reader.Piece.TheVariants as part

-- ---- digits

-- each byte is a digit
abbrev pub AreDigits : List ℕ → Type 0
AreDigits [] = Unit {0}
AreDigits (b ∷ bs) = (48 ≤ b) × (b ≤ 57) × AreDigits bs

pub digit-is : (b : ℕ) → 48 ≤ b → b ≤ 57 → is_digit b ≡ true
digit-is b h k = grind (arith, nat_tests)

pub digit-no_blank : (b : ℕ) → 48 ≤ b → is_blank b ≡ false
digit-no_blank b h = grind (arith, nat_tests)

digits-push : (ds : List ℕ) (d : ℕ) → AreDigits ds → 48 ≤ d → d ≤ 57 → AreDigits (ds ++ d ∷ [])
digits-push [] d h lo hi = (lo, hi, tt)
digits-push (b ∷ bs) d h lo hi = (h.0, h.1, digits-push bs d h.2 lo hi)

-- what the digits write after a value
abbrev pub value_after : ℕ → List ℕ → ℕ
value_after value [] = value
value_after value (b ∷ bs) = value_after (10 * value + (b - 48)) bs

value_after-push : (value : ℕ) (ds : List ℕ) (d : ℕ) → value_after value (ds ++ d ∷ []) ≡ 10 * value_after value ds + (d - 48)
value_after-push value [] d = refl
value_after-push value (b ∷ bs) d = value_after-push (10 * value + (b - 48)) bs d

value_after-le : (value : ℕ) (ds : List ℕ) → value ≤ value_after value ds
value_after-le value [] = omega arith
value_after-le value (b ∷ bs) = omega (arith, value_after-le (10 * value + (b - 48)) bs)

-- These bytes are digits and spell the number.
pub record Spells (n : ℕ) (ds : List ℕ) : Type 0 where
  pub digits : AreDigits ds
  pub value : value_after 0 ds ≡ n

spells-one : (n : ℕ) → n < 10 → Spells n ((48 + n) ∷ [])
spells-one n h = record { digits = (omega arith, omega arith, tt); value = omega arith }

spells-more : (n : ℕ) (ds : List ℕ) → 10 ≤ n → Spells (n / 10) ds → Spells n (ds ++ ((48 + n % 10) ∷ []))
spells-more n ds h w = record {
  digits = digits-push ds (48 + n % 10) w.digits (omega arith) (omega arith);
  value = omega (arith, value_after-push 0 ds (48 + n % 10), w.value);
}

pub spells-decimal : (n : ℕ) → n < 2 ^ 64 → Spells n (decimal n)
spells-decimal n h = decimal_by_steps Spells spells-one spells-more n h

-- ---- numbers

digits_from-value : (limit value : ℕ) (ds : List ℕ) → AreDigits ds → value_after value ds ≤ limit → digits_from limit value ds ≡ Some (value_after value ds)
digits_from-value limit value [] h le = refl
digits_from-value limit value (b ∷ bs) h le =
    let fits : nat_lt limit (10 * value + (b - 48)) ≡ false = let k = value_after-le (10 * value + (b - 48)) bs in grind (arith, nat_tests) in
    rw (digit-is b h.0 h.1, fits) (digits_from-value limit (10 * value + (b - 48)) bs h.2 le)

pub digits_end-value : (limit start value : ℕ) (ds : List ℕ) (b : ℕ) (rest : List ℕ) (at : ℕ) → AreDigits ds → value_after value ds ≤ limit → is_digit b ≡ false
    → digits_end limit start value (ds ++ b ∷ rest) at ≡ Ok (record { value = value_after value ds; end = at + length ds })
digits_end-value limit start value [] b rest at h le stop = let e : at ≡ at + 0 = omega arith in rw stop (ap (λ (k : ℕ). Ok (record { value = value; end = k })) e)
digits_end-value limit start value (d ∷ ds) b rest at h le stop =
    let fits : nat_lt limit (10 * value + (d - 48)) ≡ false = let k = value_after-le (10 * value + (d - 48)) ds in grind (arith, nat_tests) in
    let e : at + 1 + length ds ≡ at + length (d ∷ ds) = omega arith in
    rw (digit-is d h.0 h.1, fits) (digits_end-value limit start (10 * value + (d - 48)) ds b rest (at + 1) h.2 le stop ∙ ap (λ (k : ℕ). Ok (record { value = value_after (10 * value + (d - 48)) ds; end = k })) e)

number_of-digits : (limit n : ℕ) (ds : List ℕ) → Spells n ds → 0 < length ds → 48 < get_or ds 0 0 → n ≤ limit → number_of limit ds ≡ Some n
number_of-digits limit n [] w some first le = absurd (omega arith)
number_of-digits limit n (b ∷ bs) w some first le =
    let other : (b == 48) ≡ false = grind (arith, nat_tests) in
    rw other (digits_from-value limit 0 (b ∷ bs) w.digits (omega (arith, w.value)) ∙ ap Some w.value)

-- ---- literals

pub part-positive : (vars n : ℕ) (ds : List ℕ) → Spells (n + 1) ds → 0 < length ds → 48 < get_or ds 0 0 → n < vars → part_of vars ds ≡ part.Is (record { var = n; positive = true })
part-positive vars n [] w some first lt = absurd (omega arith)
part-positive vars n (b ∷ bs) w some first lt =
    let other : (b == 45) ≡ false = grind (arith, nat_tests) in
    let number = number_of-digits vars (n + 1) (b ∷ bs) w some first (omega arith) in
    let pos : (n + 1 == 0) ≡ false = grind (arith, nat_tests) in
    let same : n + 1 - 1 ≡ n = omega arith in
    rw (other, number, pos, same) refl

pub part-negative : (vars n : ℕ) (ds : List ℕ) → Spells (n + 1) ds → 0 < length ds → 48 < get_or ds 0 0 → n < vars → part_of vars (45 ∷ ds) ≡ part.Is (record { var = n; positive = false })
part-negative vars n ds w some first lt =
    let number = number_of-digits vars (n + 1) ds w some first (omega arith) in
    let pos : (n + 1 == 0) ≡ false = grind (arith, nat_tests) in
    let same : n + 1 - 1 ≡ n = omega arith in
    rw (number, pos, same) refl

-- ---- numbers of the header

pub number-starts : (limit d : ℕ) (rest : List ℕ) (at : ℕ) (a b : Bool) → a ≡ true → b ≡ false
    → cond a (cond b (Ok (record { value = 0; end = at + 1 })) (digits_end limit at 0 (d ∷ rest) at)) (Err (refusal.Header at)) ≡ digits_end limit at 0 (d ∷ rest) at
number-starts limit d rest at a b e f = rw (e, f) refl

reads-digits : (limit n b : ℕ) (ds rest : List ℕ) (at : ℕ) → Spells n ds → 0 < length ds → 48 < get_or ds 0 0 → n ≤ limit → is_digit b ≡ false
    → number_end limit (ds ++ b ∷ rest) at ≡ Ok (record { value = n; end = at + length ds })
reads-digits limit n b [] rest at w some first le stop = absurd (omega arith)
reads-digits limit n b (d ∷ ds) rest at w some first le stop =
    let other : (d == 48) ≡ false = grind (arith, nat_tests) in
    number-starts limit d (ds ++ b ∷ rest) at (is_digit d) (d == 48) (digit-is d w.digits.0 w.digits.1) other
    ∙ digits_end-value limit at 0 (d ∷ ds) b rest at w.digits (omega (arith, w.value)) stop
    ∙ ap (λ (k : ℕ). Ok (record { value = k; end = at + length (d ∷ ds) })) w.value

pub reads-number : (limit n b : ℕ) (rest : List ℕ) (at : ℕ) → n < 2 ^ 64 → n ≤ limit → is_digit b ≡ false
    → number_end limit (decimal n ++ b ∷ rest) at ≡ Ok (record { value = n; end = at + length (decimal n) })
reads-number limit zero b rest at h le stop = rw (decimal_digit 0 (omega arith)) refl
reads-number limit (suc n) b rest at h le stop =
    reads-digits limit (suc n) b (decimal (suc n)) rest at (spells-decimal (suc n) h) (decimal_nonempty (suc n) h) (first_decimal (suc n) (omega arith) h) le stop
