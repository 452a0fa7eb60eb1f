-- What bits have to do with numbers in two's complement.
use Rattle.std.proofs.Common.{◌≡◌, ℕ, zero, suc, ◌+◌, ◌-◌, ◌*◌, ◌/◌, ◌%◌, ◌^◌, ◌<◌, ◌≤◌, Bool, true, false, not, cond, List, ◌++◌, refl, arith, ap, sym, ◌∙◌, length, map, take, drop, replicate, get_or, inl, inr, ◌⊎◌, ℤ, pos, negsuc, neg_ℤ, ◌+ℤ◌, ◌-ℤ◌, ◌*ℤ◌}
use Rattle.std.specs.Prelude.{nat_lt, int_lt, int_le}
use Rattle.std.proofs.lemmas.Nat.{pow_pos, pow-add, mod_below, mod-mul-add, div-add-mod', mul-mod_first}
use Rattle.std.proofs.lemmas.Int.{ints}
use Rattle.std.proofs.lemmas.Bool.Decides.{nat_tests}
use Rattle.std.proofs.Math.Nat.{mod-eq_of_lt}
use Rattle.dsv_term.specs.declared.word.Word.{Word}
use Rattle.dsv_term.specs.Word.{residue, signed_of}
use Rattle.dsv_term.proofs.Wrapping.{residue_is}
use Rattle.dsv_term.proofs.Complement.{test_false, test_true}
use Rattle.dsv_blast.specs.Words.{bit, number_of}
use Rattle.dsv_blast.proofs.Bits.{number-append, number-top, number-difference, add_bits, carry_bits, number-zeros, number-ones}

-- a number below the power that differs from it by it
cut : (c : Bool) (n w : ℕ) → n < w → (n + w * bit c) % w ≡ n
cut c n w h = let e : n + w * bit c ≡ bit c * w + n = omega arith in ap (λ k. k % w) e ∙ mod-mul-add (bit c) w n h

residue_difference : (w x y n : ℕ) (c : Bool) → n < 2 ^ w → n + 2 ^ w * bit c + y ≡ x + 2 ^ w → residue w (pos x -ℤ pos y) ≡ n
residue_difference w x y n c h e = residue_is w (pos x -ℤ pos y) 1 (n + 2 ^ w * bit c) (omega (arith, ints)) ∙ cut c n (2 ^ w) h

residue_negation : (w y n : ℕ) (c : Bool) → n < 2 ^ w → n + 2 ^ w * bit c + y ≡ 2 ^ w → residue w (neg_ℤ (pos y)) ≡ n
residue_negation w y n c h e = residue_is w (neg_ℤ (pos y)) 1 (n + 2 ^ w * bit c) (omega (arith, ints)) ∙ cut c n (2 ^ w) h

pub number-subtract : (xs ys : List Bool) → length ys ≡ length xs → number_of (add_bits xs (map not ys) true) ≡ residue (length xs) (pos (number_of xs) -ℤ pos (number_of ys))
number-subtract xs ys e =
    let d = number-difference xs ys e in
    sym (residue_difference (length xs) (number_of xs) (number_of ys) (number_of (add_bits xs (map not ys) true)) (carry_bits xs (map not ys) true) d.below d.whole)

pub number-negate : (xs ys : List Bool) → length ys ≡ length xs → number_of xs ≡ 0 → number_of (add_bits xs (map not ys) true) ≡ residue (length xs) (neg_ℤ (pos (number_of ys)))
number-negate xs ys e z =
    let d = number-difference xs ys e in
    sym (residue_negation (length xs) (number_of ys) (number_of (add_bits xs (map not ys) true)) (carry_bits xs (map not ys) true) d.below (omega (arith, d.whole, z)))

-- ---- reading

pub two_halves : (n : ℕ) → 2 ^ (n + 1) ≡ 2 * 2 ^ n
two_halves n = pow-add 2 n 1 ∙ omega arith

-- what so many bits more leave of a number in two's complement
extended_number : (n d m : ℕ) (top : Bool) → m < 2 ^ n → residue (n + 1 + d) (signed_of (record { width = n + 1; number = m + 2 ^ n * bit top })) ≡ m + 2 ^ n * bit top + 2 ^ (n + 1) * cond top (2 ^ d - 1) 0
extended_number n d m true h =
    let t = two_halves n in
    let e : n + 1 - 1 ≡ n = omega arith in
    let p = pow-add 2 (n + 1) d in
    let q = pow_pos d in
    let r = pow_pos n in
    let big : 2 ^ (n + 1) ≤ 2 ^ (n + 1 + d) = wider (2 ^ (n + 1)) (2 ^ d) (2 ^ (n + 1 + d)) p q in
    let x = 2 ^ (n + 1) - 1 - (m + 2 ^ n * 1) in
    let s : x % 2 ^ (n + 1 + d) ≡ x = mod-eq_of_lt (omega arith) in
    rw (e, test_false (m + 2 ^ n * 1) (2 ^ n) (omega arith), s) (spread (2 ^ (n + 1)) (2 ^ d) (2 ^ (n + 1 + d)) (m + 2 ^ n * 1) p q (omega arith))
  where
    wider : (a b c : ℕ) → c ≡ a * b → 0 < b → a ≤ c
    wider a zero c e p = absurd (omega arith)
    wider a (suc b) c e p = omega arith

    spread : (a b c m : ℕ) → c ≡ a * b → 0 < b → m < a → c - 1 - (a - 1 - m) ≡ m + a * (b - 1)
    spread a zero c m e p h = absurd (omega arith)
    spread a (suc b) c m e p h = let i : suc b - 1 ≡ b = omega arith in rw i (omega arith)
extended_number n d m false h =
    let t = two_halves n in
    let e : n + 1 - 1 ≡ n = omega arith in
    let p = pow-add 2 (n + 1) d in
    let big : 2 ^ (n + 1) ≤ 2 ^ (n + 1 + d) = wider (2 ^ (n + 1)) (2 ^ d) (2 ^ (n + 1 + d)) p (pow_pos d) in
    let s : (m + 2 ^ n * 0) % 2 ^ (n + 1 + d) ≡ m + 2 ^ n * 0 = mod-eq_of_lt (omega arith) in
    rw (e, test_true (m + 2 ^ n * 0) (2 ^ n) (omega arith), s) (omega arith)
  where
    wider : (a b c : ℕ) → c ≡ a * b → 0 < b → a ≤ c
    wider a zero c e p = absurd (omega arith)
    wider a (suc b) c e p = omega arith

same_again : (d : ℕ) (top : Bool) → number_of (replicate d top) ≡ cond top (2 ^ d - 1) 0
same_again d true = omega (arith, number-ones d)
same_again d false = number-zeros d

pub number-extended : (xs : List Bool) (n w : ℕ) (d : Bool) → length xs ≡ n + 1 → n + 1 ≤ w → number_of (xs ++ replicate (w - length xs) (get_or xs n d)) ≡ residue w (signed_of (record { width = n + 1; number = number_of xs }))
number-extended xs n w d h le =
    let t = number-top xs n d h in
    let top = get_or xs n d in
    let more = w - (n + 1) in
    let e : w ≡ n + 1 + more = omega arith in
    let f : w - length xs ≡ more = omega arith in
    rw (f, number-append xs (replicate more top), same_again more top, h, t.number)
    (sym (ap (λ k. residue k (signed_of (record { width = n + 1; number = number_of (take n xs) + 2 ^ n * bit top }))) e ∙ extended_number n more (number_of (take n xs)) top t.split.below))

-- ---- order

-- a number with its highest bit turned over
pub record IsTurned (n x t : ℕ) : Type 0 where
  pub bound : x < 2 ^ (n + 1)
  pub either : ((x < 2 ^ n) × (t ≡ x + 2 ^ n)) ⊎ ((2 ^ n ≤ x) × (t + 2 ^ n ≡ x))

turned_by : (n x low : ℕ) (top : Bool) → low < 2 ^ n → x ≡ low + 2 ^ n * bit top → IsTurned n x (low + 2 ^ n * bit (not top))
turned_by n x low true h e = let t = two_halves n in record { bound = omega arith; either = inr (omega arith, omega arith) }
turned_by n x low false h e = let t = two_halves n in record { bound = omega arith; either = inl (omega arith, omega arith) }

pub number-turned : (xs : List Bool) (n : ℕ) → length xs ≡ n + 1 → IsTurned n (number_of xs) (number_of (take n xs ++ map not (drop n xs)))
number-turned xs n h =
    let t = number-top xs n false h in
    let top = get_or xs n false in
    let one : number_of (map not (drop n xs)) ≡ bit (not top) = ap (λ ys. number_of (map not ys)) t.last ∙ omega arith in
    rw (number-append (take n xs) (map not (drop n xs)), t.split.low, one) (turned_by n (number_of xs) (number_of (take n xs)) top t.split.below t.number)

abbrev word : ℕ → ℕ → Word
word n x = record { width = n + 1; number = x }

read_low : (n x : ℕ) → x < 2 ^ n → signed_of (word n x) ≡ pos x
read_low n x h = let e : n + 1 - 1 ≡ n = omega arith in rw (e, test_true x (2 ^ n) h) refl

read_high : (n x : ℕ) → 2 ^ n ≤ x → signed_of (word n x) ≡ negsuc (2 ^ (n + 1) - 1 - x)
read_high n x h = let e : n + 1 - 1 ≡ n = omega arith in rw (e, test_false x (2 ^ n) h) refl

pub less-turned : (n x y t u : ℕ) → IsTurned n x t → IsTurned n y u → int_lt (signed_of (word n x)) (signed_of (word n y)) ≡ nat_lt t u
less-turned n x y t u a b =
    let p = a.bound in
    let q = b.bound in
    let h = two_halves n in
    elim a.either [
      | inl k ↦ elim b.either [
        | inl l ↦ rw (read_low n x k.0, read_low n y l.0) (let i = k.1 in let j = l.1 in grind (arith, nat_tests))
        | inr l ↦ rw (read_low n x k.0, read_high n y l.0) (sym (test_false t u (omega (arith, k.0, k.1, l.0, l.1))))
      ]
      | inr k ↦ elim b.either [
        | inl l ↦ rw (read_high n x k.0, read_low n y l.0) (sym (test_true t u (omega (arith, k.0, k.1, l.0, l.1))))
        | inr l ↦ rw (read_high n x k.0, read_high n y l.0) (let i = k.1 in let j = l.1 in grind (arith, nat_tests))
      ]
    ]

pub at_most-turned : (n x y t u : ℕ) → IsTurned n x t → IsTurned n y u → int_le (signed_of (word n x)) (signed_of (word n y)) ≡ not (nat_lt u t)
at_most-turned n x y t u a b =
    let p = a.bound in
    let q = b.bound in
    let h = two_halves n in
    elim a.either [
      | inl k ↦ elim b.either [
        | inl l ↦ rw (read_low n x k.0, read_low n y l.0) (let i = k.1 in let j = l.1 in grind (arith, nat_tests))
        | inr l ↦ rw (read_low n x k.0, read_high n y l.0) (sym (ap not (test_true u t (omega (arith, k.0, k.1, l.0, l.1)))))
      ]
      | inr k ↦ elim b.either [
        | inl l ↦ rw (read_high n x k.0, read_low n y l.0) (sym (ap not (test_false u t (omega (arith, k.0, k.1, l.0, l.1)))))
        | inr l ↦ rw (read_high n x k.0, read_high n y l.0) (let i = k.1 in let j = l.1 in grind (arith, nat_tests))
      ]
    ]

-- ---- products

negative_product : (m n w q r : ℕ) → q * w + r ≡ m → r < w → (w - 1 - r) * n + suc m * n ≡ (1 + q) * n * w
negative_product m n w q r e h =
    let k : (w - 1 - r) + suc m ≡ (1 + q) * w = omega arith in
    factored (w - 1 - r) (suc m) n ((1 + q) * w) k ∙ omega arith
  where
    factored : (a b n c : ℕ) → a + b ≡ c → a * n + b * n ≡ c * n
    factored a b n c e = rw (← e) (omega arith)

-- the factor may be replaced by its residue
pub residue_product : (w : ℕ) (z : ℤ) (n : ℕ) → residue w (z *ℤ pos n) ≡ (residue w z * n) % 2 ^ w
residue_product w (pos m) n = sym (mul-mod_first m n (2 ^ w))
residue_product w (negsuc m) n =
    let d = div-add-mod' m (2 ^ w) in
    let b = mod_below m (2 ^ w) (pow_pos w) in
    let e = negative_product m n (2 ^ w) (m / 2 ^ w) (m % 2 ^ w) d b in
    residue_is w (negsuc m *ℤ pos n) ((1 + m / 2 ^ w) * n) ((2 ^ w - 1 - m % 2 ^ w) * n) (whole (suc m * n) ((1 + m / 2 ^ w) * n * 2 ^ w) ((2 ^ w - 1 - m % 2 ^ w) * n) (negsuc m *ℤ pos n) (omega (arith, ints)) e)
  where
    whole : (a b c : ℕ) (z : ℤ) → z ≡ neg_ℤ (pos a) → c + a ≡ b → z +ℤ pos b ≡ pos c
    whole a b c z e f = rw e (omega (arith, ints))
