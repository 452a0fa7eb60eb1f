-- Lists of bits and the numbers that they spell.
use Rattle.std.proofs.Common.{◌≡◌, ℕ, zero, suc, ◌+◌, ◌*◌, ◌/◌, ◌%◌, ◌^◌, ◌<◌, ◌≤◌, Bool, true, false, not, ◌&&◌, ◌||◌, cond, List, [], ◌∷◌, ◌++◌, refl, arith, ap, sym, ◌∙◌, length, map, take, drop, replicate, get_or, bit_and, bit_or}
use Rattle.std.specs.Prelude.{◌==◌, nat_lt}
use Rattle.std.proofs.Math.Nat.{div-add-mod, pow-suc, mul_comm, mul-add-mod_self_left, mod-eq_of_lt}
use Rattle.std.proofs.lemmas.Nat.{mod_below, and_block, or_block, div-mul-add, mod-mul-add}
use Rattle.std.proofs.lemmas.List.{take-append-drop, length-take-le, length-map}
use Rattle.std.proofs.lemmas.Bool.{ne_eqb}
use Rattle.std.proofs.lemmas.Bool.Decides.{nat_tests}
use Rattle.dsv_blast.specs.Gates.{exclusive, majority}
use Rattle.dsv_blast.specs.Words.{bit, number_of}

pub bit-small : (x : Bool) → bit x < 2
bit-small true = omega arith
bit-small false = omega arith

pub two_pow : (n : ℕ) → 2 ^ suc n ≡ 2 * 2 ^ n
two_pow n = pow-suc 2 n ∙ mul_comm (2 ^ n) 2

pub number-small : (xs : List Bool) → number_of xs < 2 ^ length xs
number-small [] = omega arith
number-small (x ∷ xs) = rw (two_pow (length xs)) (omega (arith, bit-small x, number-small xs))

pub number-append : (xs ys : List Bool) → number_of (xs ++ ys) ≡ number_of xs + 2 ^ length xs * number_of ys
number-append [] ys = omega arith
number-append (x ∷ xs) ys = rw (two_pow (length xs), number-append xs ys) (omega arith)

-- ---- parts

-- the lowest bits and those above them
pub record IsSplit (xs : List Bool) (n : ℕ) : Type 0 where
  pub low : length (take n xs) ≡ n
  pub number : number_of xs ≡ number_of (take n xs) + 2 ^ n * number_of (drop n xs)
  pub below : number_of (take n xs) < 2 ^ n

pub number-split : (xs : List Bool) (n : ℕ) → n ≤ length xs → IsSplit xs n
number-split xs n h =
    let l = length-take-le n xs h in
    record {
      low = l;
      number = ap number_of (sym (take-append-drop n xs)) ∙ (number-append (take n xs) (drop n xs) ∙ ap (λ k. number_of (take n xs) + 2 ^ k * number_of (drop n xs)) l);
      below = rw l at (number-small (take n xs));
    }

pub number-take : (xs : List Bool) (n : ℕ) → n ≤ length xs → number_of (take n xs) ≡ number_of xs % 2 ^ n
number-take xs n h =
    let s = number-split xs n h in
    let e : number_of xs ≡ number_of (drop n xs) * 2 ^ n + number_of (take n xs) = omega (arith, s.number) in
    sym (ap (λ k. k % 2 ^ n) e ∙ mod-mul-add (number_of (drop n xs)) (2 ^ n) (number_of (take n xs)) s.below)

pub number-drop : (xs : List Bool) (n : ℕ) → n ≤ length xs → number_of (drop n xs) ≡ number_of xs / 2 ^ n
number-drop xs n h =
    let s = number-split xs n h in
    let e : number_of xs ≡ number_of (drop n xs) * 2 ^ n + number_of (take n xs) = omega (arith, s.number) in
    sym (ap (λ k. k / 2 ^ n) e ∙ div-mul-add (number_of (drop n xs)) (2 ^ n) (number_of (take n xs)) s.below)

-- ---- the same bit over and over

pub number-zeros : (n : ℕ) → number_of (replicate n false) ≡ 0
number-zeros zero = refl
number-zeros (suc n) = omega (arith, number-zeros n)

pub number-ones : (n : ℕ) → number_of (replicate n true) + 1 ≡ 2 ^ n
number-ones zero = refl
number-ones (suc n) = rw (two_pow n) (omega (arith, number-ones n))

-- ---- bits turned over

bit-not : (b : Bool) → bit (not b) + bit b ≡ 1
bit-not true = refl
bit-not false = refl

pub number-not : (xs : List Bool) → number_of (map not xs) + number_of xs + 1 ≡ 2 ^ length xs
number-not [] = refl
number-not (x ∷ xs) = rw (two_pow (length xs)) (omega (arith, number-not xs, bit-not x))

-- ---- the highest bit

pub record IsTopped (xs : List Bool) (n : ℕ) (top : Bool) : Type 0 where
  pub split : IsSplit xs n
  pub last : drop n xs ≡ top ∷ []
  pub number : number_of xs ≡ number_of (take n xs) + 2 ^ n * bit top

last_one : (xs : List Bool) (n : ℕ) (d : Bool) → length xs ≡ n + 1 → drop n xs ≡ get_or xs n d ∷ []
last_one [] n d h = absurd (omega arith)
last_one (x ∷ []) zero d h = refl
last_one (x ∷ y ∷ xs) zero d h = absurd (omega arith)
last_one (x ∷ xs) (suc n) d h = last_one xs n d (omega arith)

pub number-top : (xs : List Bool) (n : ℕ) (d : Bool) → length xs ≡ n + 1 → IsTopped xs n (get_or xs n d)
number-top xs n d h =
    let s = number-split xs n (omega arith) in
    let e = last_one xs n d h in
    let one : number_of (drop n xs) ≡ bit (get_or xs n d) = ap number_of e ∙ omega arith in
    record { split = s; last = e; number = s.number ∙ ap (λ k. number_of (take n xs) + 2 ^ n * k) one }

-- ---- bit by bit

abbrev pub zip_bits : (Bool → Bool → Bool) → List Bool → List Bool → List Bool
zip_bits f [] ys = []
zip_bits f (x ∷ xs) [] = []
zip_bits f (x ∷ xs) (y ∷ ys) = f x y ∷ zip_bits f xs ys

and_bit : (x y : Bool) → bit_and (bit x) (bit y) ≡ bit (x && y)
and_bit true true = refl
and_bit true false = refl
and_bit false true = refl
and_bit false false = refl

or_bit : (x y : Bool) → bit_or (bit x) (bit y) ≡ bit (x || y)
or_bit true true = refl
or_bit true false = refl
or_bit false true = refl
or_bit false false = refl

pub number-and : (xs ys : List Bool) → length ys ≡ length xs → number_of (zip_bits (λ x y. x && y) xs ys) ≡ bit_and (number_of xs) (number_of ys)
number-and [] [] e = refl
number-and [] (y ∷ ys) e = absurd (omega arith)
number-and (x ∷ xs) [] e = absurd (omega arith)
number-and (x ∷ xs) (y ∷ ys) e =
    let a : bit x + 2 * number_of xs ≡ number_of xs * 2 ^ 1 + bit x = omega arith in
    let b : bit y + 2 * number_of ys ≡ number_of ys * 2 ^ 1 + bit y = omega arith in
    rw (a, b, and_block 1 (number_of xs) (number_of ys) (bit x) (bit y) (bit-small x) (bit-small y), number-and xs ys (omega arith), and_bit x y) (omega arith)

pub number-or : (xs ys : List Bool) → length ys ≡ length xs → number_of (zip_bits (λ x y. x || y) xs ys) ≡ bit_or (number_of xs) (number_of ys)
number-or [] [] e = refl
number-or [] (y ∷ ys) e = absurd (omega arith)
number-or (x ∷ xs) [] e = absurd (omega arith)
number-or (x ∷ xs) (y ∷ ys) e =
    let a : bit x + 2 * number_of xs ≡ number_of xs * 2 ^ 1 + bit x = omega arith in
    let b : bit y + 2 * number_of ys ≡ number_of ys * 2 ^ 1 + bit y = omega arith in
    rw (a, b, or_block 1 (number_of xs) (number_of ys) (bit x) (bit y) (bit-small x) (bit-small y), number-or xs ys (omega arith), or_bit x y) (omega arith)

-- ---- sums

abbrev pub add_bits : List Bool → List Bool → Bool → List Bool
add_bits [] ys k = []
add_bits (x ∷ xs) [] k = []
add_bits (x ∷ xs) (y ∷ ys) k = exclusive (exclusive x y) k ∷ add_bits xs ys (majority x y k)

abbrev pub carry_bits : List Bool → List Bool → Bool → Bool
carry_bits [] ys k = k
carry_bits (x ∷ xs) [] k = k
carry_bits (x ∷ xs) (y ∷ ys) k = carry_bits xs ys (majority x y k)

full-adder : (x y k : Bool) → bit x + bit y + bit k ≡ bit (exclusive (exclusive x y) k) + 2 * bit (majority x y k)
full-adder true true true = refl
full-adder true true false = refl
full-adder true false true = refl
full-adder true false false = refl
full-adder false true true = refl
full-adder false true false = refl
full-adder false false true = refl
full-adder false false false = refl

-- the bits of a sum, and its carry above them
pub number-add : (xs ys : List Bool) (k : Bool) → length ys ≡ length xs → number_of (add_bits xs ys k) + 2 ^ length xs * bit (carry_bits xs ys k) ≡ number_of xs + number_of ys + bit k
number-add [] [] k e = omega arith
number-add [] (y ∷ ys) k e = absurd (omega arith)
number-add (x ∷ xs) [] k e = absurd (omega arith)
number-add (x ∷ xs) (y ∷ ys) k e =
    let ih = number-add xs ys (majority x y k) (omega arith) in
    rw (two_pow (length xs)) (omega (arith, full-adder x y k, ih))

pub length-add : (xs ys : List Bool) (k : Bool) → length ys ≡ length xs → length (add_bits xs ys k) ≡ length xs
length-add [] [] k e = refl
length-add [] (y ∷ ys) k e = refl
length-add (x ∷ xs) [] k e = absurd (omega arith)
length-add (x ∷ xs) (y ∷ ys) k e = ap suc (length-add xs ys (majority x y k) (omega arith))

pub number-sum : (xs ys : List Bool) → length ys ≡ length xs → number_of (add_bits xs ys false) ≡ (number_of xs + number_of ys) % 2 ^ length xs
number-sum xs ys e =
    let w = number-add xs ys false e in
    let s = number-small (add_bits xs ys false) in
    let l : number_of (add_bits xs ys false) < 2 ^ length xs = rw (length-add xs ys false e) at s in
    let h : bit (carry_bits xs ys false) * 2 ^ length xs + number_of (add_bits xs ys false) ≡ number_of xs + number_of ys = omega (arith, w) in
    sym (ap (λ n. n % 2 ^ length xs) (sym h) ∙ mod-mul-add (bit (carry_bits xs ys false)) (2 ^ length xs) (number_of (add_bits xs ys false)) l)

-- the difference, and whether there was no borrow
pub record IsDifference (xs ys : List Bool) : Type 0 where
  pub below : number_of (add_bits xs (map not ys) true) < 2 ^ length xs
  pub whole : number_of (add_bits xs (map not ys) true) + 2 ^ length xs * bit (carry_bits xs (map not ys) true) + number_of ys ≡ number_of xs + 2 ^ length xs

pub number-difference : (xs ys : List Bool) → length ys ≡ length xs → IsDifference xs ys
number-difference xs ys e =
    let m : length (map not ys) ≡ length xs = length-map ys not ∙ e in
    let w = number-add xs (map not ys) true m in
    let s = number-small (add_bits xs (map not ys) true) in
    let n = number-not ys in
    let p : 2 ^ length ys ≡ 2 ^ length xs = ap (λ k. 2 ^ k) e in
    record {
      below = rw (length-add xs (map not ys) true m) at s;
      whole = omega (arith, w, n, p);
    }

carry_by : (c : Bool) (n w x y : ℕ) → n < w → n + w * bit c + y ≡ x + w → not c ≡ nat_lt x y
carry_by true n w x y h e = grind (arith, nat_tests)
carry_by false n w x y h e = grind (arith, nat_tests)

pub carry-less : (xs ys : List Bool) → length ys ≡ length xs → not (carry_bits xs (map not ys) true) ≡ nat_lt (number_of xs) (number_of ys)
carry-less xs ys e =
    let d = number-difference xs ys e in
    carry_by (carry_bits xs (map not ys) true) (number_of (add_bits xs (map not ys) true)) (2 ^ length xs) (number_of xs) (number_of ys) d.below d.whole

-- ---- equality

abbrev pub same_bits : List Bool → List Bool → Bool → Bool
same_bits [] ys k = k
same_bits (x ∷ xs) [] k = k
same_bits (x ∷ xs) (y ∷ ys) k = same_bits xs ys (k && not (exclusive x y))

same-odd : (m n : ℕ) → (m == n) ≡ (1 + 2 * m == 1 + 2 * n)
same-odd m n = grind (arith, nat_tests)

same-even : (m n : ℕ) → (m == n) ≡ (0 + 2 * m == 0 + 2 * n)
same-even m n = grind (arith, nat_tests)

same-place : (x y k : Bool) (m n : ℕ) → ((k && not (exclusive x y)) && (m == n)) ≡ (k && (bit x + 2 * m == bit y + 2 * n))
same-place x y false m n = refl
same-place true true true m n = same-odd m n
same-place false false true m n = same-even m n
same-place true false true m n = sym (ne_eqb (1 + 2 * m) (0 + 2 * n) (λ e. omega arith))
same-place false true true m n = sym (ne_eqb (0 + 2 * m) (1 + 2 * n) (λ e. omega arith))

pub same-number : (xs ys : List Bool) (k : Bool) → length ys ≡ length xs → same_bits xs ys k ≡ (k && (number_of xs == number_of ys))
same-number [] [] true e = refl
same-number [] [] false e = refl
same-number [] (y ∷ ys) k e = absurd (omega arith)
same-number (x ∷ xs) [] k e = absurd (omega arith)
same-number (x ∷ xs) (y ∷ ys) k e = same-number xs ys (k && not (exclusive x y)) (omega arith) ∙ same-place x y k (number_of xs) (number_of ys)

-- ---- choice

abbrev pub choice_bits : Bool → List Bool → List Bool → List Bool
choice_bits k [] ys = []
choice_bits k (x ∷ xs) [] = []
choice_bits k (x ∷ xs) (y ∷ ys) = cond k x y ∷ choice_bits k xs ys

pub choice-bits : (k : Bool) (xs ys : List Bool) → length ys ≡ length xs → choice_bits k xs ys ≡ cond k xs ys
choice-bits true [] [] e = refl
choice-bits false [] [] e = refl
choice-bits k [] (y ∷ ys) e = absurd (omega arith)
choice-bits k (x ∷ xs) [] e = absurd (omega arith)
choice-bits true (x ∷ xs) (y ∷ ys) e = ap (λ zs. x ∷ zs) (choice-bits true xs ys (omega arith))
choice-bits false (x ∷ xs) (y ∷ ys) e = ap (λ zs. y ∷ zs) (choice-bits false xs ys (omega arith))

-- ---- constants

pub bit-odd : (n : ℕ) → bit (n % 2 == 1) ≡ n % 2
bit-odd n = let h : n % 2 < 2 = mod_below n 2 (omega arith) in grind (arith, nat_tests)

-- one place of a number modulo a power
pub mod-place : (s m w : ℕ) → s < 2 → 0 < w → (s + 2 * m) % (2 * w) ≡ s + 2 * (m % w)
mod-place s m w h p =
    let d = div-add-mod m w in
    let lt : m % w < w = mod_below m w p in
    let e : s + 2 * m ≡ 2 * w * (m / w) + (s + 2 * (m % w)) = omega (arith, d) in
    rw (e, mul-add-mod_self_left (2 * w) (m / w) (s + 2 * (m % w))) (mod-eq_of_lt (omega arith))
