-- Two's complement: which bits spell a whole number, and what the functions of words make of them.
use Rattle.std.proofs.Common.{◌≡◌, ◌≢◌, ℕ, zero, suc, ◌+◌, ◌-◌, ◌*◌, ◌/◌, ◌%◌, ◌^◌, ◌<◌, ◌≤◌, Bool, true, false, not, ◌||◌, ◌&&◌, cond, refl, sym, ap, subst, ◌∙◌, inl, inr, arith}
use Rattle.std.specs.Prelude.{◌==◌, nat_lt, int_lt, int_le, bit_and, bit_or, ◌<ℤ◌, ◌≤ℤ◌}
use Rattle.std.proofs.Math.IntN.{ℤ, pos, negsuc, ◌+ℤ◌, ◌-ℤ◌, ◌*ℤ◌, neg_ℤ}
use Rattle.std.proofs.lemmas.Int.{ints}
use Rattle.std.proofs.lemmas.Nat.{pow_pos, pow-add, mod_below, div-add-mod', mod-mul-add, div-mul-add, div_below}
use Rattle.std.proofs.lemmas.Bool.{cases_lt, eqb-true}
use Rattle.std.proofs.lemmas.Bool.Decides.{nat_tests}
use Rattle.std.proofs.Math.Nat.{div-one}
use Rattle.dsv_algebra.specs.Floor.{floor_of}
use Rattle.dsv_algebra.proofs.Ring.{Is, is_add, is_neg, is_mul}
use Rattle.dsv_term.specs.declared.word.Word.{Word}
use Rattle.dsv_term.specs.Word.{residue, signed_of, bit_of, sum_of, difference_of, product_of, signed_less_of, signed_at_most_of, same_of, and_of, or_of, complement_of, extended_of, extract_of, choice_of}
use Rattle.dsv_term.proofs.Words.{residue_fits}

-- so many bits can spell z
pub record IsSpelled (w : ℕ) (z : ℤ) : Type 0 where
  pub low : neg_ℤ (pos (2 ^ (w - 1))) ≤ℤ z
  pub high : z <ℤ pos (2 ^ (w - 1))

-- the word of so many bits that differs from z by a multiple of 2 to their number
abbrev pub spelled : ℕ → ℤ → Word
spelled w z = record { width = w; number = residue w z }

pub two_halves : (w : ℕ) → 1 ≤ w → 2 ^ w ≡ 2 * 2 ^ (w - 1)
two_halves w h = let e : w ≡ 1 + (w - 1) = omega arith in ap (λ (k : ℕ). 2 ^ k) e ∙ pow-add 2 1 (w - 1)

pub test_true : (m h : ℕ) → m < h → nat_lt m h ≡ true
test_true m h l = grind (arith, nat_tests)

pub test_false : (m h : ℕ) → h ≤ m → nat_lt m h ≡ false
test_false m h l = grind (arith, nat_tests)

small_mod : (n m : ℕ) → n < m → n % m ≡ n
small_mod n m h = grind (arith, h)

-- ---- reading
signed_low : (w m : ℕ) → m < 2 ^ (w - 1) → signed_of (record { width = w; number = m }) ≡ pos m
signed_low w m h = rw (test_true m (2 ^ (w - 1)) h) refl

signed_high : (w m : ℕ) → 2 ^ (w - 1) ≤ m → signed_of (record { width = w; number = m }) ≡ negsuc (2 ^ w - 1 - m)
signed_high w m h = rw (test_false m (2 ^ (w - 1)) h) refl

pub signed-spelled : (w : ℕ) (z : ℤ) → 1 ≤ w → IsSpelled w z → signed_of (spelled w z) ≡ z
signed-spelled w (pos n) p h =
    let e = two_halves w p in
    let l : n < 2 ^ (w - 1) = omega (arith, ints, h.high) in
    let s : n % 2 ^ w ≡ n = small_mod n (2 ^ w) (omega (arith, pow_pos (w - 1))) in
    rw s (signed_low w n l)
signed-spelled w (negsuc n) p h =
    let e = two_halves w p in
    let l : n < 2 ^ (w - 1) = omega (arith, ints, h.low) in
    let s : n % 2 ^ w ≡ n = small_mod n (2 ^ w) (omega (arith, pow_pos (w - 1))) in
    let r : 2 ^ w - 1 - (2 ^ w - 1 - n) ≡ n = omega arith in
    rw s (signed_high w (2 ^ w - 1 - n) (omega arith) ∙ ap negsuc r)

-- a word spells its number
pub record Reads (w m : ℕ) (z : ℤ) : Type 0 where
  pub same : residue w z ≡ m
  pub fits : IsSpelled w z

pub signed_reads : (w m : ℕ) → 1 ≤ w → m < 2 ^ w → Reads w m (signed_of (record { width = w; number = m }))
signed_reads w m p h =
    let e = two_halves w p in
    elim (cases_lt m (2 ^ (w - 1))) [
      | inl l ↦ rw (test_true m (2 ^ (w - 1)) l) (record { same = small_mod m (2 ^ w) h; fits = record { low = omega (arith, ints); high = omega (arith, ints) } })
      | inr l ↦ rw (test_false m (2 ^ (w - 1)) l) (record {
        same = (let s : (2 ^ w - 1 - m) % 2 ^ w ≡ 2 ^ w - 1 - m = small_mod (2 ^ w - 1 - m) (2 ^ w) (omega arith) in rw s (omega arith));
        fits = record { low = omega (arith, ints); high = omega (arith, ints) };
      })
    ]

pub only_spelled : (w : ℕ) (a b : ℤ) → 1 ≤ w → IsSpelled w a → IsSpelled w b → residue w a ≡ residue w b → a ≡ b
only_spelled w a b p h k e = sym (signed-spelled w a p h) ∙ (ap (λ (m : ℕ). signed_of (record { width = w; number = m })) e ∙ signed-spelled w b p k)

pub wider_spelled : (v w : ℕ) (z : ℤ) → v ≤ w → IsSpelled v z → IsSpelled w z
wider_spelled v w z h k =
    let e : w - 1 ≡ (w - 1 - (v - 1)) + (v - 1) = omega arith in
    let d : 2 ^ (w - 1) ≡ 2 ^ (w - 1 - (v - 1)) * 2 ^ (v - 1) = ap (λ (i : ℕ). 2 ^ i) e ∙ pow-add 2 (w - 1 - (v - 1)) (v - 1) in
    let l : 2 ^ (v - 1) ≤ 2 ^ (w - 1) = at_least (2 ^ (w - 1 - (v - 1))) (2 ^ (v - 1)) (2 ^ (w - 1)) d (pow_pos (w - 1 - (v - 1))) in
    record { low = omega (arith, ints, k.low); high = omega (arith, ints, k.high) }
  where
    at_least : (a b c : ℕ) → c ≡ a * b → 0 < a → b ≤ c
    at_least zero b c e p = absurd (omega arith)
    at_least (suc a) b c e p = omega arith

-- ---- multiples apart
-- m and z differ by a multiple of p
record Differs (p : ℕ) (z : ℤ) (m : ℕ) : Type 0 where
  k : ℕ
  l : ℕ
  is : Is z (m + k * p) (l * p)

moved : (z : ℤ) (p n q m : ℕ) → Is z p n → p + m ≡ q + n → Is z q m
moved z p n q m i e = let x = i.is in record { is = omega arith }

residue_differs : (w : ℕ) (z : ℤ) → Differs (2 ^ w) z (residue w z)
residue_differs w (pos n) = let d = div-add-mod' n (2 ^ w) in record { k = n / 2 ^ w; l = 0; is = record { is = omega arith } }
residue_differs w (negsuc n) = let d = div-add-mod' n (2 ^ w) in let b = mod_below n (2 ^ w) (pow_pos w) in record { k = 0; l = n / 2 ^ w + 1; is = record { is = omega arith } }

same_residue : (p : ℕ) (z : ℤ) (m n : ℕ) → Differs p z m → Differs p z n → m < p → n < p → m ≡ n
same_residue p z m n s t a b =
    let x = s.is.is in
    let y = t.is.is in
    let e : (s.k + t.l) * p + m ≡ (t.k + s.l) * p + n = omega arith in
    sym (mod-mul-add (s.k + t.l) p m a) ∙ ap (λ (u : ℕ). u % p) e ∙ mod-mul-add (t.k + s.l) p n b

residue_is : (w : ℕ) (z : ℤ) (m : ℕ) → Differs (2 ^ w) z m → m < 2 ^ w → residue w z ≡ m
residue_is w z m s b = same_residue (2 ^ w) z (residue w z) m (residue_differs w z) s (residue_fits w z) b

add_differs : (p : ℕ) (a b : ℤ) (m n : ℕ) → Differs p a m → Differs p b n → Differs p (a +ℤ b) ((m + n) % p)
add_differs p a b m n s t =
    let d = div-add-mod' (m + n) p in
    record { k = s.k + t.k + (m + n) / p; l = s.l + t.l; is = moved (a +ℤ b) (m + s.k * p + (n + t.k * p)) (s.l * p + t.l * p) _ _ (is_add s.is t.is) (omega arith) }

-- what differs from a difference of residues differs from the difference
sub_differs : (p : ℕ) (a b : ℤ) (m n r : ℕ) → Differs p a m → Differs p b n → Differs p (pos m -ℤ pos n) r → Differs p (a -ℤ b) r
sub_differs p a b m n r s t u =
    let y = u.is.is in
    record { k = s.k + t.l + u.k; l = s.l + t.k + u.l; is = moved (a -ℤ b) (m + s.k * p + t.l * p) (s.l * p + (n + t.k * p)) _ _ (is_add s.is (is_neg t.is)) (omega (arith, ints)) }

-- the low bits
low_differs : (q r : ℕ) (z : ℤ) (m : ℕ) → Differs (q * r) z m → Differs r z (m % r)
low_differs q r z m s =
    let d = div-add-mod' m r in
    record { k = m / r + s.k * q; l = s.l * q; is = moved z (m + s.k * (q * r)) (s.l * (q * r)) _ _ s.is (omega arith) }

-- ---- sums
pub sum-spelled : (w : ℕ) (a b : ℤ) → sum_of (spelled w a) (spelled w b) ≡ spelled w (a +ℤ b)
sum-spelled w a b =
    let d = add_differs (2 ^ w) a b (residue w a) (residue w b) (residue_differs w a) (residue_differs w b) in
    ap (λ (m : ℕ). record { width = w; number = m }) (sym (residue_is w (a +ℤ b) ((residue w a + residue w b) % 2 ^ w) d (mod_below (residue w a + residue w b) (2 ^ w) (pow_pos w))))

pub difference-spelled : (w : ℕ) (a b : ℤ) → difference_of (spelled w a) (spelled w b) ≡ spelled w (a -ℤ b)
difference-spelled w a b =
    let r = residue w (pos (residue w a) -ℤ pos (residue w b)) in
    let d = sub_differs (2 ^ w) a b (residue w a) (residue w b) r (residue_differs w a) (residue_differs w b) (residue_differs w (pos (residue w a) -ℤ pos (residue w b))) in
    ap (λ (m : ℕ). record { width = w; number = m }) (sym (residue_is w (a -ℤ b) r d (residue_fits w (pos (residue w a) -ℤ pos (residue w b)))))

-- ---- products
record IsMultiple (c : ℤ) : Type 0 where
  up_ : ℕ
  down_ : ℕ
  is : Is c up_ down_

multiple : (c : ℤ) → IsMultiple c
multiple (pos n) = record { up_ = n; down_ = 0; is = record { is = omega arith } }
multiple (negsuc n) = record { up_ = 0; down_ = suc n; is = record { is = omega arith } }

mul_raw : (c a : ℤ) (p u d m k l r i j : ℕ) → Is c u d → Is a (m + k * p) (l * p) → Is (c *ℤ pos m) (r + i * p) (j * p)
    → Is (c *ℤ a) (r + (i + u * k + d * l) * p) ((j + u * l + d * k) * p)
mul_raw c a p u d m k l r i j hc ha hr =
    let y = (is_mul hc (positive m)).is in
    let z = hr.is in
    let x = (is_mul hc ha).is in
    record { is = joined u d m k l r i j p _ _ _ _ x y z }
  where
    positive : (m : ℕ) → Is (pos m) m 0
    positive m = record { is = omega arith }

    joined : (u d m k l r i j p ca cb cc_ cd : ℕ) → ca + (u * (l * p) + d * (m + k * p)) ≡ cb + (u * (m + k * p) + d * (l * p))
        → cc_ + (u * 0 + d * m) ≡ cd + (u * m + d * 0) → cc_ + j * p ≡ cd + (r + i * p)
        → ca + (j + u * l + d * k) * p ≡ cb + (r + (i + u * k + d * l) * p)
    joined u d m k l r i j p ca cb cc_ cd x y z = omega arith

pub product-spelled : (w : ℕ) (c a : ℤ) → product_of c (spelled w a) ≡ spelled w (c *ℤ a)
product-spelled w c a =
    let m = residue w a in
    let r = residue w (c *ℤ pos m) in
    let s = residue_differs w a in
    let t = residue_differs w (c *ℤ pos m) in
    let u = multiple c in
    let d : Differs (2 ^ w) (c *ℤ a) r = record { k = t.k + u.up_ * s.k + u.down_ * s.l; l = t.l + u.up_ * s.l + u.down_ * s.k; is = mul_raw c a (2 ^ w) u.up_ u.down_ m s.k s.l r t.k t.l u.is s.is t.is } in
    ap (λ (n : ℕ). record { width = w; number = n }) (sym (residue_is w (c *ℤ a) r d (residue_fits w (c *ℤ pos m))))

-- ---- bits of a word
pub extended-spelled : (v w : ℕ) (z : ℤ) → 1 ≤ v → IsSpelled v z → extended_of w (spelled v z) ≡ spelled w z
extended-spelled v w z p h = ap (spelled w) (signed-spelled v z p h)

pub low-spelled : (n w : ℕ) (z : ℤ) → 1 ≤ n → n ≤ w → extract_of (n - 1) 0 (spelled w z) ≡ spelled n z
low-spelled n w z p l =
    let a : n - 1 + 1 - 0 ≡ n = omega arith in
    let d : residue w z / 2 ^ 0 ≡ residue w z = div-one (residue w z) in
    let e : w ≡ w - n + n = omega arith in
    let q : 2 ^ w ≡ 2 ^ (w - n) * 2 ^ n = ap (λ (k : ℕ). 2 ^ k) e ∙ pow-add 2 (w - n) n in
    let s = subst (λ (k : ℕ). Differs k z (residue w z)) q (residue_differs w z) in
    let r = residue_is n z (residue w z % 2 ^ n) (low_differs (2 ^ (w - n)) (2 ^ n) z (residue w z) s) (mod_below (residue w z) (2 ^ n) (pow_pos n)) in
    ap (λ (m : ℕ). record { width = m; number = residue w z / 2 ^ 0 % 2 ^ m }) a
    ∙ ap (λ (m : ℕ). record { width = n; number = m % 2 ^ n }) d
    ∙ ap (λ (m : ℕ). record { width = n; number = m }) (sym r)

row_left : (q s n d k r : ℕ) → d + k + 1 ≡ q → k * s + r ≡ n → r < s → q * s - 1 - n ≡ d * s + (s - 1 - r)
row_left q s n d k r e g l = let h : q * s ≡ d * s + k * s + s = rw (← e) (omega arith) in omega arith

over_row : (q s n : ℕ) → 0 < s → n < q * s → (q * s - 1 - n) / s ≡ q - 1 - n / s
over_row q s n p h =
    let d = div-add-mod' n s in
    let b = mod_below n s p in
    let l : n / s < q = div_below n s q p h in
    let e : q * s - 1 - n ≡ (q - 1 - n / s) * s + (s - 1 - n % s) = row_left q s n (q - 1 - n / s) (n / s) (n % s) (omega arith) (omega arith) b in
    ap (λ (u : ℕ). u / s) e ∙ div-mul-add (q - 1 - n / s) s (s - 1 - n % s) (omega arith)

-- a shift to the right makes the floor
shift_residue : (v f : ℕ) (z : ℤ) → 1 ≤ v → IsSpelled (v + f) z → residue (v + f) z / 2 ^ f ≡ residue v (floor_of z (2 ^ f))
shift_residue v f (pos n) p h =
    let e = pow-add 2 v f in
    let t = two_halves (v + f) (omega arith) in
    let l : n < 2 ^ v * 2 ^ f = omega (arith, ints, h.high) in
    let a : n % 2 ^ (v + f) ≡ n = small_mod n (2 ^ (v + f)) (omega arith) in
    let b : n / 2 ^ f % 2 ^ v ≡ n / 2 ^ f = small_mod (n / 2 ^ f) (2 ^ v) (div_below n (2 ^ f) (2 ^ v) (pow_pos f) l) in
    rw (a, b) refl
shift_residue v f (negsuc n) p h =
    let e = pow-add 2 v f in
    let t = two_halves (v + f) (omega arith) in
    let l : n < 2 ^ v * 2 ^ f = omega (arith, ints, h.low) in
    let a : n % 2 ^ (v + f) ≡ n = small_mod n (2 ^ (v + f)) (omega arith) in
    let b : n / 2 ^ f % 2 ^ v ≡ n / 2 ^ f = small_mod (n / 2 ^ f) (2 ^ v) (div_below n (2 ^ f) (2 ^ v) (pow_pos f) l) in
    rw (a, b, e) (over_row (2 ^ v) (2 ^ f) n (pow_pos f) l)

pub shift-spelled : (v f : ℕ) (z : ℤ) → 1 ≤ v → IsSpelled (v + f) z → extract_of (v + f - 1) f (spelled (v + f) z) ≡ spelled v (floor_of z (2 ^ f))
shift-spelled v f z p h =
    let r : v + f - 1 + 1 - f ≡ v = omega arith in
    ap (λ (m : ℕ). record { width = m; number = residue (v + f) z / 2 ^ f % 2 ^ m }) r
    ∙ ap (λ (m : ℕ). record { width = v; number = m % 2 ^ v }) (shift_residue v f z p h)
    ∙ ap (λ (m : ℕ). record { width = v; number = m }) (small_mod (residue v (floor_of z (2 ^ f))) (2 ^ v) (residue_fits v (floor_of z (2 ^ f))))

-- ---- comparisons
pub signed_less-spelled : (w : ℕ) (a b : ℤ) → 1 ≤ w → IsSpelled w a → IsSpelled w b → signed_less_of (spelled w a) (spelled w b) ≡ bit_of (int_lt a b)
signed_less-spelled w a b p h k = rw (signed-spelled w a p h, signed-spelled w b p k) refl

pub signed_at_most-spelled : (w : ℕ) (a b : ℤ) → 1 ≤ w → IsSpelled w a → IsSpelled w b → signed_at_most_of (spelled w a) (spelled w b) ≡ bit_of (int_le a b)
signed_at_most-spelled w a b p h k = rw (signed-spelled w a p h, signed-spelled w b p k) refl

self_same : (m : ℕ) → (m == m) ≡ true
self_same m = grind (arith, nat_tests)

pub same-spelled : (w : ℕ) (a b : ℤ) → a ≡ b → same_of (spelled w a) (spelled w b) ≡ bit_of true
same-spelled w a b e = rw e (ap bit_of (self_same (residue w b)))

not_same_by : (m n : ℕ) (q : Bool) → (m == n) ≡ q → m ≢ n → q ≡ false
not_same_by m n true e h = absurd (h (eqb-true m n e))
not_same_by m n false e h = refl

pub apart-spelled : (w : ℕ) (a b : ℤ) → 1 ≤ w → IsSpelled w a → IsSpelled w b → a ≢ b → same_of (spelled w a) (spelled w b) ≡ bit_of false
apart-spelled w a b p h k n =
    ap bit_of (not_same_by (residue w a) (residue w b) (residue w a == residue w b) refl (λ e. n (only_spelled w a b p h k e)))

-- ---- single bits
or_number : (a b : Bool) → bit_or (cond a 1 0) (cond b 1 0) ≡ cond (a || b) 1 0
or_number true true = refl
or_number true false = refl
or_number false true = refl
or_number false false = refl

pub or-bits : (a b : Bool) → or_of (bit_of a) (bit_of b) ≡ bit_of (a || b)
or-bits a b = ap (λ (m : ℕ). record { width = 1; number = m }) (or_number a b)

and_number : (a b : Bool) → bit_and (cond a 1 0) (cond b 1 0) ≡ cond (a && b) 1 0
and_number true true = refl
and_number true false = refl
and_number false true = refl
and_number false false = refl

pub and-bits : (a b : Bool) → and_of (bit_of a) (bit_of b) ≡ bit_of (a && b)
and-bits a b = ap (λ (m : ℕ). record { width = 1; number = m }) (and_number a b)

not_number : (b : Bool) → 2 ^ 1 - 1 - cond b 1 0 ≡ cond (not b) 1 0
not_number true = refl
not_number false = refl

pub complement-bit : (b : Bool) → complement_of (bit_of b) ≡ bit_of (not b)
complement-bit b = ap (λ (m : ℕ). record { width = 1; number = m }) (not_number b)

pub choice-bit : (c : Bool) (a b : Word) → choice_of (bit_of c) a b ≡ cond c a b
choice-bit true a b = refl
choice-bit false a b = refl

-- ---- constants and shifts
pub residue-small : (w m : ℕ) → m < 2 ^ w → residue w (pos m) ≡ m
residue-small w m h = small_mod m (2 ^ w) h

-- a shift makes a number fit fewer bits
floor_fits : (q s : ℕ) (z : ℤ) → 0 < s → neg_ℤ (pos (q * s)) ≤ℤ z → z <ℤ pos (q * s) → (neg_ℤ (pos q) ≤ℤ floor_of z s) × (floor_of z s <ℤ pos q)
floor_fits q s (pos n) p l h = let m : n < q * s = omega (arith, ints) in let d = div_below n s q p m in (omega (arith, ints), omega (arith, ints))
floor_fits q s (negsuc n) p l h = let m : n < q * s = omega (arith, ints) in let d = div_below n s q p m in (omega (arith, ints), omega (arith, ints))

pub floor_spelled : (v f : ℕ) (z : ℤ) → 1 ≤ v → IsSpelled (v + f) z → IsSpelled v (floor_of z (2 ^ f))
floor_spelled v f z p h =
    let e : 2 ^ (v + f - 1) ≡ 2 ^ (v - 1) * 2 ^ f = let t : v + f - 1 ≡ v - 1 + f = omega arith in ap (λ (k : ℕ). 2 ^ k) t ∙ pow-add 2 (v - 1) f in
    let k = floor_fits (2 ^ (v - 1)) (2 ^ f) z (pow_pos f) (rw e at h.low) (rw e at h.high) in
    record { low = k.0; high = k.1 }

-- whole turns change no bits
pub residue-turn : (w : ℕ) (z k : ℤ) → residue w (z +ℤ k *ℤ pos (2 ^ w)) ≡ residue w z
residue-turn w z k =
    let s = residue_differs w z in
    let u = multiple k in
    let p = 2 ^ w in
    let whole : Is (pos p) p 0 = record { is = omega arith } in
    let m = residue w z in
    let sum = is_add s.is (is_mul u.is whole) in
    residue_is w (z +ℤ k *ℤ pos p) m
    (record { k = s.k + u.up_; l = s.l + u.down_; is = moved (z +ℤ k *ℤ pos p) (m + s.k * p + (u.up_ * p + u.down_ * 0)) (s.l * p + (u.up_ * 0 + u.down_ * p)) _ _ sum (turned m s.k s.l u.up_ u.down_ p) })
    (residue_fits w z)
  where
    turned : (m k l a b p : ℕ) → m + k * p + (a * p + b * 0) + (l + b) * p ≡ m + (k + a) * p + (l * p + (a * 0 + b * p))
    turned m k l a b p = omega arith

-- a choice between numbers
pub choice-spelled : (c : Bool) (w : ℕ) (a b : ℤ) → choice_of (bit_of c) (spelled w a) (spelled w b) ≡ spelled w (cond c a b)
choice-spelled true w a b = refl
choice-spelled false w a b = refl
