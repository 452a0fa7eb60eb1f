-- Laws of words that rules rest on.
use Rattle.std.proofs.Common.{◌≡◌, ℕ, ◌+◌, ◌-◌, ◌%◌, ◌^◌, ◌<◌, true, false, refl, arith, ap, sym, ◌∙◌}
use Rattle.std.specs.Prelude.{◌==◌, nat_lt, int_lt, int_le, bit_and, bit_or}
use Rattle.std.specs.Int.Bits.{and_self, or_self, or_zero_l}
use Rattle.std.proofs.Math.IntN.{ℤ, pos, ◌-ℤ◌}
use Rattle.std.proofs.lemmas.Int.{ints}
use Rattle.std.proofs.lemmas.Nat.{pow_pos, and_le_l, and_comm, or_comm, and_mask, le_or_l, or_lt}
use Rattle.std.proofs.lemmas.Bool.Decides.{nat_tests}
use Rattle.std.proofs.lemmas.Bool.{eqb-true}
use Rattle.dsv_term.specs.declared.word.Word.{Word}
use Rattle.dsv_term.specs.Word.{IsWord, residue, bit_of, sum_of, difference_of, signed_of, signed_less_of, signed_at_most_of, less_of, same_of, and_of, or_of}
use Rattle.dsv_term.proofs.Complement.{residue-small}
use Rattle.dsv_rewrite.specs.Constants.{is_zero, is_full}

pub word_eq : (v w : Word) → v.width ≡ w.width → v.number ≡ w.number → v ≡ w
word_eq v w e f = ap (λ (k : ℕ). record { width = k; number = v.number }) e ∙ ap (λ (k : ℕ). record { width = w.width; number = k }) f

pub zero_is : (x : Word) → is_zero x ≡ true → x.number ≡ 0
zero_is x e = eqb-true x.number 0 e

pub full_is : (x : Word) → is_full x ≡ true → x.number ≡ 2 ^ x.width - 1
full_is x e = eqb-true x.number (2 ^ x.width - 1) e

pub small : (n m : ℕ) → n < m → n % m ≡ n
small n m h = grind (arith, h)

pub zero-sum : (x b : Word) → x.number ≡ 0 → x.width ≡ b.width → IsWord b → b ≡ sum_of x b
zero-sum x b z w h =
    let e : x.number + b.number ≡ b.number = omega arith in
    let s : (x.number + b.number) % 2 ^ x.width ≡ b.number = ap (λ (n : ℕ). n % 2 ^ x.width) e ∙ (ap (λ (k : ℕ). b.number % 2 ^ k) w ∙ small b.number (2 ^ b.width) h.fits) in
    word_eq b (sum_of x b) (sym w) (sym s)

pub sum-zero : (a y : Word) → y.number ≡ 0 → IsWord a → a ≡ sum_of a y
sum-zero a y z h =
    let e : a.number + y.number ≡ a.number = omega arith in
    let s : (a.number + y.number) % 2 ^ a.width ≡ a.number = ap (λ (n : ℕ). n % 2 ^ a.width) e ∙ small a.number (2 ^ a.width) h.fits in
    word_eq a (sum_of a y) refl (sym s)

pub difference-zero : (a y : Word) → y.number ≡ 0 → IsWord a → a ≡ difference_of a y
difference-zero a y z h =
    let e : pos a.number -ℤ pos y.number ≡ pos a.number = omega (arith, ints) in
    let s : residue a.width (pos a.number -ℤ pos y.number) ≡ a.number = ap (residue a.width) e ∙ residue-small a.width a.number h.fits in
    word_eq a (difference_of a y) refl (sym s)

pub difference-self : (a : Word) → difference_of a a ≡ record { width = a.width; number = 0 }
difference-self a =
    let e : pos a.number -ℤ pos a.number ≡ pos 0 = omega (arith, ints) in
    let s : residue a.width (pos a.number -ℤ pos a.number) ≡ 0 = ap (residue a.width) e ∙ residue-small a.width 0 (pow_pos a.width) in
    ap (λ (n : ℕ). record { width = a.width; number = n }) s

not_below : (z : ℤ) → int_lt z z ≡ false
not_below z = grind (arith, ints)

at_most : (z : ℤ) → int_le z z ≡ true
at_most z = grind (arith, ints)

pub signed_less-self : (a : Word) → signed_less_of a a ≡ bit_of false
signed_less-self a = ap bit_of (not_below (signed_of a))

pub signed_at_most-self : (a : Word) → signed_at_most_of a a ≡ bit_of true
signed_at_most-self a = ap bit_of (at_most (signed_of a))

less_self : (n : ℕ) → nat_lt n n ≡ false
less_self n = grind (arith, nat_tests)

same_self : (n : ℕ) → (n == n) ≡ true
same_self n = grind (arith, nat_tests)

pub less-self : (a : Word) → less_of a a ≡ bit_of false
less-self a = ap bit_of (less_self a.number)

pub same-self : (a : Word) → same_of a a ≡ bit_of true
same-self a = ap bit_of (same_self a.number)

-- ---- and, or
pub and-self : (a : Word) → a ≡ and_of a a
and-self a = word_eq a (and_of a a) refl (sym (and_self a.number))

pub and-flip : (a b : Word) → a.width ≡ b.width → and_of a b ≡ and_of b a
and-flip a b e = word_eq (and_of a b) (and_of b a) e (and_comm a.number b.number)

pub or-flip : (a b : Word) → a.width ≡ b.width → or_of a b ≡ or_of b a
or-flip a b e = word_eq (or_of a b) (or_of b a) e (or_comm a.number b.number)

pub zero-and : (x b : Word) → x.number ≡ 0 → x ≡ and_of x b
zero-and x b z = word_eq x (and_of x b) refl (let l = and_le_l x.number b.number in omega arith)

pub full-and : (x b : Word) → x.number ≡ 2 ^ x.width - 1 → x.width ≡ b.width → IsWord b → b ≡ and_of x b
full-and x b f w h =
    let e : bit_and b.number (2 ^ b.width - 1) ≡ b.number = and_mask b.number b.width ∙ small b.number (2 ^ b.width) h.fits in
    let g : x.number ≡ 2 ^ b.width - 1 = f ∙ ap (λ (k : ℕ). 2 ^ k - 1) w in
    let s : bit_and x.number b.number ≡ b.number = and_comm x.number b.number ∙ (ap (bit_and b.number) g ∙ e) in
    word_eq b (and_of x b) (sym w) (sym s)

pub or-self : (a : Word) → a ≡ or_of a a
or-self a = word_eq a (or_of a a) refl (sym (or_self a.number))

pub zero-or : (x b : Word) → x.number ≡ 0 → x.width ≡ b.width → b ≡ or_of x b
zero-or x b z w = word_eq b (or_of x b) (sym w) (sym (ap (λ (n : ℕ). bit_or n b.number) z ∙ or_zero_l b.number))

pub full-or : (x b : Word) → x.number ≡ 2 ^ x.width - 1 → x.width ≡ b.width → IsWord b → x ≡ or_of x b
full-or x b f w h =
    let l = le_or_l x.number b.number in
    let p = pow_pos x.width in
    let q : 2 ^ x.width ≡ 2 ^ b.width = ap (λ (k : ℕ). 2 ^ k) w in
    let u = or_lt x.width x.number b.number (omega arith) (let i = h.fits in omega arith) in
    word_eq x (or_of x b) refl (omega arith)
