-- Sums over symbols and samples of coefficients, each times its symbol.
use Rattle.std.proofs.Common.{◌≡◌, ℕ, suc, ◌<◌, Bool, true, false, if◌then◌else◌, [], ◌∷◌, refl, ap, ◌∙◌, arith}
use Rattle.std.specs.Prelude.{◌&&◌, ◌==◌}
use Rattle.std.proofs.Math.IntN.{ℤ, pos, ◌+ℤ◌, ◌*ℤ◌}
use Rattle.std.proofs.lemmas.Bool.{eqb-true}
use Rattle.dsv_algebra.proofs.Normaliser.{ring, env, var, num, plus, times}
use Rattle.dsv_algebra.proofs.Sums.{sum_same, sum_add, sum_scale, sum_none, sum_one, sum_first}
use Rattle.dsv_algebra.specs.Vectors.{sum_to}
use Rattle.dsv_algebra.proofs.Booleans.{and_left, and_right}
use Rattle.dsv_linear.proofs.Numbers.{none_times}
use Rattle.dsv_linear.proofs.ZeroTerms.{added}
use Rattle.dsv_linear.proofs.Meanings.{same_place}

-- ---- sums over m places and n ages
abbrev pub grid : ℕ → ℕ → (ℕ → ℕ → ℤ) → ℤ
grid m n t = sum_to m (λ j. sum_to n (λ a. t a j))

pub grid_same : (m n : ℕ) (s t : ℕ → ℕ → ℤ) → ((a j : ℕ) → a < n → j < m → s a j ≡ t a j) → grid m n s ≡ grid m n t
grid_same m n s t h = sum_same m (λ j. sum_to n (λ a. s a j)) (λ j. sum_to n (λ a. t a j)) (λ j p. sum_same n (λ a. s a j) (λ a. t a j) (λ a q. h a j q p))

pub grid_add : (m n : ℕ) (s t : ℕ → ℕ → ℤ) → grid m n (λ a j. s a j +ℤ t a j) ≡ grid m n s +ℤ grid m n t
grid_add m n s t =
    sum_same m (λ j. sum_to n (λ a. s a j +ℤ t a j)) (λ j. sum_to n (λ a. s a j) +ℤ sum_to n (λ a. t a j)) (λ j p. sum_add n (λ a. s a j) (λ a. t a j))
    ∙ sum_add m (λ j. sum_to n (λ a. s a j)) (λ j. sum_to n (λ a. t a j))

pub grid_scale : (m n : ℕ) (c : ℤ) (t : ℕ → ℕ → ℤ) → grid m n (λ a j. c *ℤ t a j) ≡ c *ℤ grid m n t
grid_scale m n c t =
    sum_same m (λ j. sum_to n (λ a. c *ℤ t a j)) (λ j. c *ℤ sum_to n (λ a. t a j)) (λ j p. sum_scale n c (λ a. t a j))
    ∙ sum_scale m c (λ j. sum_to n (λ a. t a j))

pub grid_none : (m n : ℕ) (t : ℕ → ℕ → ℤ) → ((a j : ℕ) → a < n → j < m → t a j ≡ pos 0) → grid m n t ≡ pos 0
grid_none m n t h =
    sum_same m (λ j. sum_to n (λ a. t a j)) (λ j. pos 0) (λ j p. sum_same n (λ a. t a j) (λ a. pos 0) (λ a q. h a j q p) ∙ sum_none n)
    ∙ sum_none m

-- the newest age is 0
pub grid_shift : (m n : ℕ) (t : ℕ → ℕ → ℤ) → ((j : ℕ) → j < m → t 0 j ≡ pos 0) → grid m (suc n) t ≡ grid m n (λ a j. t (suc a) j)
grid_shift m n t h = sum_same m (λ j. sum_to (suc n) (λ a. t a j)) (λ j. sum_to n (λ a. t (suc a) j)) (λ j p. sum_first n (λ a. t a j) ∙ added (t 0 j) (sum_to n (λ a. t (suc a) j)) (h j p))

-- ---- one place of the newest age
abbrev pub is_here : ℕ → ℕ → ℕ → Bool
is_here own a j = (a == 0) && (j == own)

pub here_age : (own a j : ℕ) → is_here own a j ≡ true → a ≡ 0
here_age own a j e = eqb-true a 0 (and_left (a == 0) (j == own) e)

pub here_place : (own a j : ℕ) → is_here own a j ≡ true → j ≡ own
here_place own a j e = eqb-true j own (and_right (a == 0) (j == own) e)

not_there : (b : Bool) (own a j : ℕ) (x : ℤ) → is_here own a j ≡ b → (a ≡ 0 → j ≡ own → ⊥) → (if b then x else pos 0) ≡ pos 0
not_there true own a j x e h = absurd (h (here_age own a j e) (here_place own a j e))
not_there false own a j x e h = refl

pub grid_here : (m n own : ℕ) (x : ℤ) → own < m → grid m (suc n) (λ a j. if is_here own a j then x else pos 0) ≡ x
grid_here m n own x p =
    let t : ℕ → ℕ → ℤ = λ a j. if is_here own a j then x else pos 0 in
    sum_one m (λ j. sum_to (suc n) (λ a. t a j)) own p (λ j q r. sum_same (suc n) (λ a. t a j) (λ a. pos 0) (λ a s. not_there (is_here own a j) own a j x refl (λ e g. absurd (r g))) ∙ sum_none (suc n))
    ∙ sum_one (suc n) (λ a. t a own) 0 (omega arith) (λ a s r. not_there (is_here own a own) own a own x refl (λ e g. absurd (r e)))
    ∙ ap (λ (b : Bool). if b then x else pos 0) (same_place own)

-- ---- coefficients, each times its symbol
abbrev pub mass : ℕ → ℕ → (ℕ → ℕ → ℤ) → (ℕ → ℕ → ℤ) → ℤ
mass m n c us = grid m n (λ a j. c a j *ℤ us a j)

-- the symbols over a denominator s times as great, and a new one in its place
abbrev pub placed : ℤ → ℕ → (ℕ → ℕ → ℤ) → ℤ → ℕ → ℕ → ℤ
placed s own us u a j = if is_here own a j then u else s *ℤ us a j

turned : (c s v : ℤ) → c *ℤ (s *ℤ v) ≡ s *ℤ (c *ℤ v)
turned c s v = ring (env (c ∷ s ∷ v ∷ [])) (times (var 0) (times (var 1) (var 2))) (times (var 1) (times (var 0) (var 2))) refl

no_product : (c x s v : ℤ) → c ≡ pos 0 → c *ℤ x ≡ s *ℤ (c *ℤ v)
no_product c x s v e = rw e (ring (env (x ∷ s ∷ v ∷ [])) (times (num (pos 0)) (var 0)) (times (var 1) (times (num (pos 0)) (var 2))) refl)

before_term : (b : Bool) (own a j : ℕ) (c s u v : ℤ) → is_here own a j ≡ b → (a ≡ 0 → j ≡ own → c ≡ pos 0) → c *ℤ (if b then u else s *ℤ v) ≡ s *ℤ (c *ℤ v)
before_term true own a j c s u v e h = no_product c u s v (h (here_age own a j e) (here_place own a j e))
before_term false own a j c s u v e h = turned c s v

-- what has no coefficient there only grows
pub placed_before : (m n own : ℕ) (s u : ℤ) (c us : ℕ → ℕ → ℤ) → c 0 own ≡ pos 0 → mass m n c (placed s own us u) ≡ s *ℤ mass m n c us
placed_before m n own s u c us z =
    grid_same m n (λ a j. c a j *ℤ placed s own us u a j) (λ a j. s *ℤ (c a j *ℤ us a j))
    (λ a j p q. before_term (is_here own a j) own a j (c a j) s u (us a j) refl (λ e g. rw (e, g) z))
    ∙ grid_scale m n s (λ a j. c a j *ℤ us a j)

with_none : (c s u v q : ℤ) → q ≡ pos 0 → c *ℤ u ≡ s *ℤ (q *ℤ v) +ℤ c *ℤ u
with_none c s u v q e = rw e (ring (env (c ∷ s ∷ u ∷ v ∷ [])) (times (var 0) (var 2)) (plus (times (var 1) (times (num (pos 0)) (var 3))) (times (var 0) (var 2))) refl)

turned_alone : (q s v : ℤ) → q *ℤ (s *ℤ v) ≡ s *ℤ (q *ℤ v) +ℤ pos 0
turned_alone q s v = ring (env (q ∷ s ∷ v ∷ [])) (times (var 0) (times (var 1) (var 2))) (plus (times (var 1) (times (var 0) (var 2))) (num (pos 0))) refl

value_term : (b : Bool) (own a j : ℕ) (x q s u v : ℤ) → is_here own a j ≡ b → (a ≡ 0 → j ≡ own → q ≡ pos 0) → (if b then x else q) *ℤ (if b then u else s *ℤ v) ≡ s *ℤ (q *ℤ v) +ℤ (if b then x *ℤ u else pos 0)
value_term true own a j x q s u v e h = with_none x s u v q (h (here_age own a j e) (here_place own a j e))
value_term false own a j x q s u v e h = turned_alone q s v

-- a value with a coefficient of its own there
pub placed_value : (m n own : ℕ) (s u x : ℤ) (q us : ℕ → ℕ → ℤ) → own < m → q 0 own ≡ pos 0
    → mass m (suc n) (λ a j. if is_here own a j then x else q a j) (placed s own us u) ≡ s *ℤ mass m (suc n) q us +ℤ x *ℤ u
placed_value m n own s u x q us p z =
    grid_same m (suc n) (λ a j. (if is_here own a j then x else q a j) *ℤ placed s own us u a j) (λ a j. s *ℤ (q a j *ℤ us a j) +ℤ (if is_here own a j then x *ℤ u else pos 0))
    (λ a j r k. value_term (is_here own a j) own a j x (q a j) s u (us a j) refl (λ e g. rw (e, g) z))
    ∙ grid_add m (suc n) (λ a j. s *ℤ (q a j *ℤ us a j)) (λ a j. if is_here own a j then x *ℤ u else pos 0)
    ∙ rw (grid_scale m (suc n) s (λ a j. q a j *ℤ us a j), grid_here m n own (x *ℤ u) p) refl

-- ---- sums, differences and products of coefficients
pub mass_same : (m n : ℕ) (c d us : ℕ → ℕ → ℤ) → ((a j : ℕ) → a < n → j < m → c a j ≡ d a j) → mass m n c us ≡ mass m n d us
mass_same m n c d us h = grid_same m n (λ a j. c a j *ℤ us a j) (λ a j. d a j *ℤ us a j) (λ a j p q. ap (λ x. x *ℤ us a j) (h a j p q))

spread_sum : (c d u : ℤ) → (c +ℤ d) *ℤ u ≡ c *ℤ u +ℤ d *ℤ u
spread_sum c d u = ring (env (c ∷ d ∷ u ∷ [])) (times (plus (var 0) (var 1)) (var 2)) (plus (times (var 0) (var 2)) (times (var 1) (var 2))) refl

pub mass_add : (m n : ℕ) (c d us : ℕ → ℕ → ℤ) → mass m n (λ a j. c a j +ℤ d a j) us ≡ mass m n c us +ℤ mass m n d us
mass_add m n c d us =
    grid_same m n (λ a j. (c a j +ℤ d a j) *ℤ us a j) (λ a j. c a j *ℤ us a j +ℤ d a j *ℤ us a j) (λ a j p q. spread_sum (c a j) (d a j) (us a j))
    ∙ grid_add m n (λ a j. c a j *ℤ us a j) (λ a j. d a j *ℤ us a j)

regrouped : (s c u : ℤ) → (s *ℤ c) *ℤ u ≡ s *ℤ (c *ℤ u)
regrouped s c u = ring (env (s ∷ c ∷ u ∷ [])) (times (times (var 0) (var 1)) (var 2)) (times (var 0) (times (var 1) (var 2))) refl

pub mass_scale : (m n : ℕ) (s : ℤ) (c us : ℕ → ℕ → ℤ) → mass m n (λ a j. s *ℤ c a j) us ≡ s *ℤ mass m n c us
mass_scale m n s c us =
    grid_same m n (λ a j. (s *ℤ c a j) *ℤ us a j) (λ a j. s *ℤ (c a j *ℤ us a j)) (λ a j p q. regrouped s (c a j) (us a j))
    ∙ grid_scale m n s (λ a j. c a j *ℤ us a j)

pub mass_none : (m n : ℕ) (c us : ℕ → ℕ → ℤ) → ((a j : ℕ) → a < n → j < m → c a j ≡ pos 0) → mass m n c us ≡ pos 0
mass_none m n c us h = grid_none m n (λ a j. c a j *ℤ us a j) (λ a j p q. ap (λ x. x *ℤ us a j) (h a j p q) ∙ none_times (us a j))
