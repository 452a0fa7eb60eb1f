use Rattle.std.proofs.Common.{◌≡◌, ℕ, ◌+◌, ◌*◌, refl, ap, arith}
use Rattle.std.proofs.Math.IntN.{ℤ, pos, ◌+ℤ◌, ◌*ℤ◌, neg_ℤ}
use Rattle.std.proofs.lemmas.Int.{ints}
use borrow.Author.Differences.{up, down, same_in}

-- z is p - n
pub record Is (z : ℤ) (p n : ℕ) : Type 0 where
  pub is : up z + n ≡ down z + p

pub is_self : (z : ℤ) → Is z (up z) (down z)
is_self z = record { is = omega arith }

pub same : {a b : ℤ} {p n q m : ℕ} → Is a p n → Is b q m → p + m ≡ q + n → a ≡ b
same {a} {b} f g e = let x = f.is in let y = g.is in same_in a b (omega arith)

pub is_add : {a b : ℤ} {p n q m : ℕ} → Is a p n → Is b q m → Is (a +ℤ b) (p + q) (n + m)
is_add {a} {b} f g = let x = f.is in let y = g.is in record { is = omega (arith, ints) }

pub is_neg : {a : ℤ} {p n : ℕ} → Is a p n → Is (neg_ℤ a) n p
is_neg {a} f = let x = f.is in record { is = omega (arith, ints) }

is_mul_raw : (a b : ℤ) (p n q m : ℕ) → up a + n ≡ down a + p → up b + m ≡ down b + q → up (a *ℤ b) + (p * m + n * q) ≡ down (a *ℤ b) + (p * q + n * m)
is_mul_raw a b p n q m x y =
    let e1 : (up a + n) * q ≡ (down a + p) * q = ap (λ t. t * q) x in
    let e2 : (up a + n) * m ≡ (down a + p) * m = ap (λ t. t * m) x in
    let f1 : up a * (up b + m) ≡ up a * (down b + q) = ap (λ t. up a * t) y in
    let f2 : down a * (up b + m) ≡ down a * (down b + q) = ap (λ t. down a * t) y in
    omega (arith, ints)

pub is_mul : {a b : ℤ} {p n q m : ℕ} → Is a p n → Is b q m → Is (a *ℤ b) (p * q + n * m) (p * m + n * q)
is_mul {a} {b} {p} {n} {q} {m} f g = record { is = is_mul_raw a b p n q m f.is g.is }

pub assoc : (a b c : ℤ) → (a *ℤ b) *ℤ c ≡ a *ℤ (b *ℤ c)
assoc a b c =
    let x = is_self a in let y = is_self b in let z = is_self c in
    same (is_mul (is_mul x y) z) (is_mul x (is_mul y z)) (omega arith)

pub square : (a b : ℤ) → (a +ℤ b) *ℤ (a +ℤ b) ≡ a *ℤ a +ℤ pos 2 *ℤ (a *ℤ b) +ℤ b *ℤ b
square a b =
    let x = is_self a in let y = is_self b in
    let two : Is (pos 2) 2 0 = record { is = refl } in
    same (is_mul (is_add x y) (is_add x y)) (is_add (is_add (is_mul x x) (is_mul two (is_mul x y))) (is_mul y y)) (omega arith)
