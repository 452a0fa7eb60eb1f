use Rattle.std.proofs.Common.{◌≡◌, ℕ, zero, suc, Bool, true, false, cond, leb, List, [], ◌∷◌, get_or, refl, sym, ap, ◌∙◌, arith, rules}
use Rattle.std.proofs.Math.IntN.{ℤ, pos, negsuc, ◌+ℤ◌, ◌*ℤ◌, neg_ℤ, +ℤ_assoc, +ℤ_idl, +ℤ_idr}
use Rattle.std.proofs.lemmas.Int.{ints}
use Rattle.std.specs.Str.{bytes_eq}
use Rattle.std.proofs.lemmas.Slice.Eq.{bytes_eq-Decides}
use Rattle.dsv_algebra.proofs.Ring.{Is, is_self, same, is_add, is_neg, is_mul, assoc}

pub data Expr : Type 0 where
  var : ℕ → Expr
  num : ℤ → Expr
  plus : Expr → Expr → Expr
  times : Expr → Expr → Expr
  minus : Expr → Expr

abbrev pub Env : Type 0
Env = ℕ → ℤ

abbrev pub eval : Env → Expr → ℤ
eval ρ (var i) = ρ i
eval ρ (num z) = z
eval ρ (plus a b) = eval ρ a +ℤ eval ρ b
eval ρ (times a b) = eval ρ a *ℤ eval ρ b
eval ρ (minus a) = neg_ℤ (eval ρ a)

-- a product of variables, in order
abbrev pub product : Env → List ℕ → ℤ
product ρ [] = pos 1
product ρ (x ∷ xs) = ρ x *ℤ product ρ xs

abbrev pub place : ℕ → List ℕ → List ℕ
place x [] = x ∷ []
place x (y ∷ ys) = cond (leb x y) (x ∷ y ∷ ys) (y ∷ place x ys)

abbrev pub merge : List ℕ → List ℕ → List ℕ
merge [] ys = ys
merge (x ∷ xs) ys = place x (merge xs ys)

abbrev pub Term : Type 0
Term = ℤ × List ℕ

abbrev pub term : Env → Term → ℤ
term ρ t = t.0 *ℤ product ρ t.1

abbrev pub value : Env → List Term → ℤ
value ρ [] = pos 0
value ρ (t ∷ ts) = term ρ t +ℤ value ρ ts

abbrev pub add_term : Term → List Term → List Term
add_term t [] = t ∷ []
add_term t (s ∷ ss) = cond (bytes_eq t.1 s.1) ((t.0 +ℤ s.0, s.1) ∷ ss) (s ∷ add_term t ss)

abbrev pub add_terms : List Term → List Term → List Term
add_terms [] us = us
add_terms (t ∷ ts) us = add_term t (add_terms ts us)

abbrev pub scale : Term → List Term → List Term
scale t [] = []
scale t (u ∷ us) = add_term (t.0 *ℤ u.0, merge t.1 u.1) (scale t us)

abbrev pub mul_terms : List Term → List Term → List Term
mul_terms [] us = []
mul_terms (t ∷ ts) us = add_terms (scale t us) (mul_terms ts us)

abbrev pub norm : Expr → List Term
norm (var i) = (pos 1, i ∷ []) ∷ []
norm (num z) = (z, []) ∷ []
norm (plus a b) = add_terms (norm a) (norm b)
norm (times a b) = mul_terms (norm a) (norm b)
norm (minus a) = scale (negsuc 0, []) (norm a)

abbrev pub is_zero : ℤ → Bool
is_zero (pos zero) = true
is_zero (pos (suc n)) = false
is_zero (negsuc n) = false

abbrev pub all_zero : List Term → Bool
all_zero [] = true
all_zero (t ∷ ts) = cond (is_zero t.0) (all_zero ts) false

-- ---- soundness

swap : (a b c : ℤ) → a *ℤ (b *ℤ c) ≡ b *ℤ (a *ℤ c)
swap a b c = let x = is_self a in let y = is_self b in let z = is_self c in same (is_mul x (is_mul y z)) (is_mul y (is_mul x z)) (omega arith)

product-place : (ρ : Env) (x : ℕ) (ys : List ℕ) → product ρ (place x ys) ≡ ρ x *ℤ product ρ ys
product-place ρ x [] = refl
product-place ρ x (y ∷ ys) = elim (leb x y) as (λ b. product ρ (cond b (x ∷ y ∷ ys) (y ∷ place x ys)) ≡ ρ x *ℤ (ρ y *ℤ product ρ ys))
    [ true ↦ refl | false ↦ ap (λ t. ρ y *ℤ t) (product-place ρ x ys) ∙ swap (ρ y) (ρ x) (product ρ ys) ]

one_times : (w : ℤ) → pos 1 *ℤ w ≡ w
one_times w = let x = is_self w in let one : Is (pos 1) 1 0 = record { is = refl } in same (is_mul one x) x (omega arith)

product-merge : (ρ : Env) (xs ys : List ℕ) → product ρ (merge xs ys) ≡ product ρ xs *ℤ product ρ ys
product-merge ρ [] ys = sym (one_times (product ρ ys))
product-merge ρ (x ∷ xs) ys = product-place ρ x (merge xs ys) ∙ ap (λ t. ρ x *ℤ t) (product-merge ρ xs ys) ∙ sym (assoc (ρ x) (product ρ xs) (product ρ ys))

joined : (a b p v : ℤ) → (a +ℤ b) *ℤ p +ℤ v ≡ a *ℤ p +ℤ (b *ℤ p +ℤ v)
joined a b p v = let x = is_self a in let y = is_self b in let z = is_self p in let w = is_self v in
    same (is_add (is_mul (is_add x y) z) w) (is_add (is_mul x z) (is_add (is_mul y z) w)) (omega arith)

past : (a b c : ℤ) → a +ℤ (b +ℤ c) ≡ b +ℤ (a +ℤ c)
past a b c = omega (arith, ints)

bytes_eq-true : (xs ys : List ℕ) → bytes_eq xs ys ≡ true → xs ≡ ys
bytes_eq-true xs ys e = search (rules, bytes_eq-Decides)

add_step : (ρ : Env) (t s : Term) (ss us : List Term) (b : Bool) → (b ≡ true → t.1 ≡ s.1)
    → value ρ us ≡ term ρ t +ℤ value ρ ss
    → value ρ (cond b ((t.0 +ℤ s.0, s.1) ∷ ss) (s ∷ us)) ≡ term ρ t +ℤ (term ρ s +ℤ value ρ ss)
add_step ρ t s ss us true h ih = rw (h refl) (joined t.0 s.0 (product ρ s.1) (value ρ ss))
add_step ρ t s ss us false h ih = rw ih (past (term ρ s) (term ρ t) (value ρ ss))

value-add_term : (ρ : Env) (t : Term) (ts : List Term) → value ρ (add_term t ts) ≡ term ρ t +ℤ value ρ ts
value-add_term ρ t [] = refl
value-add_term ρ t (s ∷ ss) = add_step ρ t s ss (add_term t ss) (bytes_eq t.1 s.1) (bytes_eq-true t.1 s.1) (value-add_term ρ t ss)

value-add_terms : (ρ : Env) (ts us : List Term) → value ρ (add_terms ts us) ≡ value ρ ts +ℤ value ρ us
value-add_terms ρ [] us = sym (+ℤ_idl (value ρ us))
value-add_terms ρ (t ∷ ts) us =
    value-add_term ρ t (add_terms ts us) ∙ ap (λ v. term ρ t +ℤ v) (value-add_terms ρ ts us) ∙ sym (+ℤ_assoc (term ρ t) (value ρ ts) (value ρ us))

scaled : (c d p q v : ℤ) → (c *ℤ d) *ℤ (p *ℤ q) +ℤ (c *ℤ p) *ℤ v ≡ (c *ℤ p) *ℤ (d *ℤ q +ℤ v)
scaled c d p q v = let x = is_self c in let y = is_self d in let z = is_self p in let w = is_self q in let u = is_self v in
    same (is_add (is_mul (is_mul x y) (is_mul z w)) (is_mul (is_mul x z) u)) (is_mul (is_mul x z) (is_add (is_mul y w) u)) (omega arith)

times_zero : (a : ℤ) → pos 0 ≡ a *ℤ pos 0
times_zero a = let x = is_self a in let nought : Is (pos 0) 0 0 = record { is = refl } in same nought (is_mul x nought) (omega arith)

value-scale : (ρ : Env) (t : Term) (us : List Term) → value ρ (scale t us) ≡ term ρ t *ℤ value ρ us
value-scale ρ t [] = times_zero (term ρ t)
value-scale ρ t (u ∷ us) =
    value-add_term ρ (t.0 *ℤ u.0, merge t.1 u.1) (scale t us)
    ∙ rw (product-merge ρ t.1 u.1, value-scale ρ t us) (scaled t.0 u.0 (product ρ t.1) (product ρ u.1) (value ρ us))

spread : (a b c : ℤ) → a *ℤ c +ℤ b *ℤ c ≡ (a +ℤ b) *ℤ c
spread a b c = let x = is_self a in let y = is_self b in let z = is_self c in same (is_add (is_mul x z) (is_mul y z)) (is_mul (is_add x y) z) (omega arith)

zero_times : (a : ℤ) → pos 0 ≡ pos 0 *ℤ a
zero_times a = let x = is_self a in let nought : Is (pos 0) 0 0 = record { is = refl } in same nought (is_mul nought x) (omega arith)

value-mul_terms : (ρ : Env) (ts us : List Term) → value ρ (mul_terms ts us) ≡ value ρ ts *ℤ value ρ us
value-mul_terms ρ [] us = zero_times (value ρ us)
value-mul_terms ρ (t ∷ ts) us =
    value-add_terms ρ (scale t us) (mul_terms ts us)
    ∙ rw (value-scale ρ t us, value-mul_terms ρ ts us) (spread (term ρ t) (value ρ ts) (value ρ us))

negated : (v : ℤ) → (negsuc 0 *ℤ pos 1) *ℤ v ≡ neg_ℤ v
negated v = let x = is_self v in let minus_one : Is (negsuc 0) 0 1 = record { is = refl } in let one : Is (pos 1) 1 0 = record { is = refl } in
    same (is_mul (is_mul minus_one one) x) (is_neg x) (omega arith)

alone : (z : ℤ) → z *ℤ pos 1 +ℤ pos 0 ≡ z
alone z = let x = is_self z in let one : Is (pos 1) 1 0 = record { is = refl } in let nought : Is (pos 0) 0 0 = record { is = refl } in
    same (is_add (is_mul x one) nought) x (omega arith)

alone_var : (z : ℤ) → pos 1 *ℤ (z *ℤ pos 1) +ℤ pos 0 ≡ z
alone_var z = let x = is_self z in let one : Is (pos 1) 1 0 = record { is = refl } in let nought : Is (pos 0) 0 0 = record { is = refl } in
    same (is_add (is_mul one (is_mul x one)) nought) x (omega arith)

value-norm : (ρ : Env) (e : Expr) → value ρ (norm e) ≡ eval ρ e
value-norm ρ (var i) = alone_var (ρ i)
value-norm ρ (num z) = alone z
value-norm ρ (plus a b) = value-add_terms ρ (norm a) (norm b) ∙ rw (value-norm ρ a, value-norm ρ b) refl
value-norm ρ (times a b) = value-mul_terms ρ (norm a) (norm b) ∙ rw (value-norm ρ a, value-norm ρ b) refl
value-norm ρ (minus a) = value-scale ρ (negsuc 0, []) (norm a) ∙ rw (value-norm ρ a) (negated (eval ρ a))

zero_term : (ρ : Env) (z : ℤ) (p v : ℤ) → is_zero z ≡ true → v ≡ pos 0 → z *ℤ p +ℤ v ≡ pos 0
zero_term ρ (pos zero) p v h e = rw (e, +ℤ_idr (pos 0 *ℤ p)) (sym (zero_times p))
zero_term ρ (pos (suc n)) p v h e = cc
zero_term ρ (negsuc n) p v h e = cc

cond_both : (a b : Bool) → cond a b false ≡ true → (a ≡ true) × (b ≡ true)
cond_both true b h = (refl, h)
cond_both false b h = cc

value-zero : (ρ : Env) (ts : List Term) → all_zero ts ≡ true → value ρ ts ≡ pos 0
value-zero ρ [] h = refl
value-zero ρ (t ∷ ts) h = let b = cond_both (is_zero t.0) (all_zero ts) h in zero_term ρ t.0 (product ρ t.1) (value ρ ts) b.0 (value-zero ρ ts b.1)

difference_zero : (a b : ℤ) → a +ℤ neg_ℤ b ≡ pos 0 → a ≡ b
difference_zero a b e = omega (arith, ints)

-- two expressions are equal where their difference has no term left
pub ring : (ρ : Env) (a b : Expr) → all_zero (norm (plus a (minus b))) ≡ true → eval ρ a ≡ eval ρ b
ring ρ a b h = difference_zero (eval ρ a) (eval ρ b) (sym (value-norm ρ (plus a (minus b))) ∙ value-zero ρ (norm (plus a (minus b))) h)

abbrev pub env : List ℤ → Env
env xs i = get_or xs i (pos 0)
