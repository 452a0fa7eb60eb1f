-- A table whose first coefficient is greater than the sizes of all others together is inside, and
-- so is a polynomial with its roots divided by a number that is great enough.
use Rattle.std.proofs.Common.{◌≡◌, ℕ, zero, suc, ◌+◌, ◌-◌, ◌<◌, [], ◌∷◌, refl, sym, ap, subst, ◌∙◌, arith}
use Rattle.std.proofs.Math.IntN.{ℤ, pos, ◌+ℤ◌, ◌-ℤ◌, ◌*ℤ◌, *ℤ_comm}
use Rattle.std.proofs.lemmas.Int.{ints}
use lib.Signed.{◌<ℤ◌, ◌≤ℤ◌}
use Rattle.dsv_algebra.specs.Vectors.{Vector, sum_to}
use Rattle.dsv_algebra.specs.Falling.{power}
use Rattle.dsv_algebra.proofs.Normaliser.{ring, env, var, num, plus, times, minus}
use Rattle.dsv_algebra.proofs.Signs.{mul_positive, mul_not_negative}
use Rattle.dsv_algebra.proofs.Sums.{sum_same, sum_add, sum_scale, sum_not_negative}
use Rattle.dsv_algebra.proofs.KeptAway.{power_positive}
use Rattle.dsv_algebra.specs.Squares.{size}
use Rattle.dsv_apart.proofs.Bounds.{times_at_most}
use Rattle.dsv_table.specs.Table.{row_after, verdict_from}
use Rattle.dsv_table.specs.Rates.{scaled}
use Rattle.dsv_table.specs.declared.verdict.TableVerdict.TheVariants as verdict
use Rattle.dsv_table.proofs.Identity.{sum_turned}
use Rattle.dsv_table.proofs.Verdicts.{lt_true}
use Rattle.dsv_table.proofs.Systems.{power_sum}
use Rattle.dsv_table.proofs.Rates.{lead_of}

-- ---- bounds of sizes
-- x is at most b in size
record IsWithin (b x : ℤ) : Type 0 where
  low : (pos 0 -ℤ b) ≤ℤ x
  high : x ≤ℤ b

bound_positive : (b x : ℤ) → IsWithin b x → pos 0 ≤ℤ b
bound_positive b x w = let p = w.low in let q = w.high in omega (arith, ints)

within_times : (a x b y : ℤ) → IsWithin a x → IsWithin b y → IsWithin (a *ℤ b) (x *ℤ y)
within_times a x b y w v =
    let al = w.low in
    let ah = w.high in
    let bl = v.low in
    let bh = v.high in
    let p : pos 0 ≤ℤ (a -ℤ x) = omega (arith, ints) in
    let q : pos 0 ≤ℤ (a +ℤ x) = omega (arith, ints) in
    let r : pos 0 ≤ℤ (b -ℤ y) = omega (arith, ints) in
    let s : pos 0 ≤ℤ (b +ℤ y) = omega (arith, ints) in
    let ps = mul_not_negative (a -ℤ x) (b +ℤ y) p s in
    let qr = mul_not_negative (a +ℤ x) (b -ℤ y) q r in
    let pr = mul_not_negative (a -ℤ x) (b -ℤ y) p r in
    let qs = mul_not_negative (a +ℤ x) (b +ℤ y) q s in
    let e = env (a ∷ x ∷ b ∷ y ∷ []) in
    let less = plus (var 0) (minus (var 1)) in
    let more = plus (var 0) (var 1) in
    let under = plus (var 2) (minus (var 3)) in
    let over = plus (var 2) (var 3) in
    let ab = times (var 0) (var 2) in
    let xy = times (var 1) (var 3) in
    let high : (a -ℤ x) *ℤ (b +ℤ y) +ℤ (a +ℤ x) *ℤ (b -ℤ y) ≡ pos 2 *ℤ (a *ℤ b -ℤ x *ℤ y) =
    ring e (plus (times less over) (times more under)) (times (num (pos 2)) (plus ab (minus xy))) refl in
    let low : (a -ℤ x) *ℤ (b -ℤ y) +ℤ (a +ℤ x) *ℤ (b +ℤ y) ≡ pos 2 *ℤ (a *ℤ b +ℤ x *ℤ y) =
    ring e (plus (times less under) (times more over)) (times (num (pos 2)) (plus ab xy)) refl in
    record { low = omega (arith, ints, pr, qs, low); high = omega (arith, ints, ps, qr, high) }

within_less : (a x b y : ℤ) → IsWithin a x → IsWithin b y → IsWithin (a +ℤ b) (x -ℤ y)
within_less a x b y w v =
    let al = w.low in
    let ah = w.high in
    let bl = v.low in
    let bh = v.high in
    record { low = omega (arith, ints); high = omega (arith, ints) }

within_self : (x : ℤ) → pos 0 ≤ℤ x → IsWithin x x
within_self x h = record { low = omega (arith, ints); high = omega (arith, ints) }

within_size : (z : ℤ) → IsWithin (size z) z
within_size z = record { low = omega (arith, ints); high = omega (arith, ints) }

sum_at_most : (d : ℕ) (f g : ℕ → ℤ) → ((i : ℕ) → i < d → f i ≤ℤ g i) → sum_to d f ≤ℤ sum_to d g
sum_at_most zero f g h = omega (arith, ints)
sum_at_most (suc d) f g h =
    let x = sum_at_most d f g (λ i b. h i (omega arith)) in
    let y = h d (omega arith) in
    omega (arith, ints)

-- ---- a row whose first number leads
sum_back : (d : ℕ) (B : Vector) → sum_to d (λ i. B (d - suc i)) ≡ sum_to d B
sum_back zero B = refl
sum_back (suc n) B =
    sum_same (suc n) (λ i. B (suc n - suc i)) (λ i. B (n - i)) (λ i b. let t : suc n - suc i ≡ n - i = omega arith in ap B t)
    ∙ sum_turned n B

abbrev next_bounds : ℕ → ℤ → Vector → Vector
next_bounds d first B i = first *ℤ B i +ℤ B d *ℤ B (d - suc i)

sum_next : (d : ℕ) (first : ℤ) (B : Vector) → sum_to d (next_bounds d first B) ≡ (first +ℤ B d) *ℤ sum_to d B
sum_next d first B =
    sum_add d (λ i. first *ℤ B i) (λ i. B d *ℤ B (d - suc i))
    ∙ rw (sum_scale d first B, sum_scale d (B d) (λ i. B (d - suc i)), sum_back d B)
    (ring (env (first ∷ B d ∷ sum_to d B ∷ [])) (plus (times (var 0) (var 2)) (times (var 1) (var 2))) (times (plus (var 0) (var 1)) (var 2)) refl)

first_leads : (f a t y : ℤ) → IsWithin a y → pos 0 ≤ℤ t → (t +ℤ a) <ℤ f → ((f +ℤ a) *ℤ t) <ℤ (f *ℤ f -ℤ y *ℤ y)
first_leads f a t y w p h =
    let l = w.low in
    let u = w.high in
    let more : pos 0 <ℤ (f +ℤ a) = omega (arith, ints) in
    let left : pos 0 <ℤ (f -ℤ a -ℤ t) = omega (arith, ints) in
    let x = mul_positive (f +ℤ a) (f -ℤ a -ℤ t) more left in
    let e : (f +ℤ a) *ℤ (f -ℤ a -ℤ t) ≡ f *ℤ f -ℤ a *ℤ a -ℤ (f +ℤ a) *ℤ t =
    ring (env (f ∷ a ∷ t ∷ [])) (times (plus (var 0) (var 1)) (plus (plus (var 0) (minus (var 1))) (minus (var 2))))
    (plus (plus (times (var 0) (var 0)) (minus (times (var 1) (var 1)))) (minus (times (plus (var 0) (var 1)) (var 2)))) refl in
    let s = within_times a y a y w w in
    let v = s.high in
    omega (arith, ints, x, e, v)

-- All others together are less than the first number.
led_inside : (d number : ℕ) (l B : Vector) → ((i : ℕ) → i < d → IsWithin (B i) (l (suc i))) → sum_to d B <ℤ l 0
    → verdict_from d number l ≡ verdict.Inside
led_inside zero number l B w h = refl
led_inside (suc d) number l B w h =
    let f = l 0 in
    let a = B d in
    let y = l (suc d) in
    let t = sum_to d B in
    let R = row_after (suc d) l in
    let z : suc d - 0 ≡ suc d = omega arith in
    let last = w d (omega arith) in
    let tp = sum_not_negative d B (λ i b. bound_positive (B i) (l (suc i)) (w i (omega arith))) in
    let ap0 = bound_positive a y last in
    let leads : ((f +ℤ a) *ℤ t) <ℤ R 0 = subst (λ k. ((f +ℤ a) *ℤ t) <ℤ (f *ℤ f -ℤ y *ℤ l k)) (sym z) (first_leads f a t y last tp h) in
    let some : pos 0 ≤ℤ (f +ℤ a) = omega (arith, ints) in
    let under = mul_not_negative (f +ℤ a) t some tp in
    let over : pos 0 <ℤ R 0 = omega (arith, ints) in
    let next : (i : ℕ) → i < d → IsWithin (next_bounds d f B i) (R (suc i)) =
    λ i b. (let k : suc d - suc i ≡ suc (d - suc i) = omega arith in
    rw k (within_less (f *ℤ B i) (f *ℤ l (suc i)) (a *ℤ B (d - suc i)) (y *ℤ l (suc (d - suc i)))
    (within_times f f (B i) (l (suc i)) (within_self f (omega (arith, ints))) (w i (omega arith)))
    (within_times a y (B (d - suc i)) (l (suc (d - suc i))) last (w (d - suc i) (omega arith))))) in
    rw (lt_true (R 0) over) (led_inside d (number + 1) R (next_bounds d f B) next (rw (sum_next d f B) leads))

-- ---- roots that are divided by a great number
power_not_negative : (z : ℤ) (n : ℕ) → pos 0 ≤ℤ z → pos 0 ≤ℤ power z n
power_not_negative z zero h = omega (arith, ints)
power_not_negative z (suc n) h = mul_not_negative z (power z n) h (power_not_negative z n h)

power_at_most : (s p : ℤ) (n : ℕ) → pos 0 ≤ℤ s → s ≤ℤ p → power s n ≤ℤ power p n
power_at_most s p zero h b = omega (arith, ints)
power_at_most s p (suc n) h b =
    let x = times_at_most s (power s n) (power p n) h (power_at_most s p n h b) in
    let pp : pos 0 ≤ℤ p = omega (arith, ints) in
    let k = times_at_most (power p n) s p (power_not_negative p n pp) b in
    let c = *ℤ_comm (power p n) s in
    let e = *ℤ_comm (power p n) p in
    omega (arith, ints, x, k, c, e)

abbrev pub heights : ℕ → Vector → ℤ
heights d c = sum_to d (λ i. size (c (suc i)))

-- a number over which no root is, by the coefficients' sizes
abbrev pub root_bound : ℕ → ℤ → Vector → ℤ
root_bound d s c = (heights d c +ℤ pos 1) *ℤ s

weights_at_most : (e : ℕ) (p s : ℤ) (i : ℕ) → i < suc e → pos 0 ≤ℤ s → s ≤ℤ p → (power p (e - i) *ℤ power s (suc i)) ≤ℤ (s *ℤ power p e)
weights_at_most e p s i b h q =
    let pp : pos 0 ≤ℤ p = omega (arith, ints) in
    let m = s *ℤ power p (e - i) in
    let x = times_at_most m (power s i) (power p i) (mul_not_negative s (power p (e - i)) h (power_not_negative p (e - i) pp)) (power_at_most s p i h q) in
    let left : power p (e - i) *ℤ power s (suc i) ≡ m *ℤ power s i =
    ring (env (power p (e - i) ∷ s ∷ power s i ∷ [])) (times (var 0) (times (var 1) (var 2))) (times (times (var 1) (var 0)) (var 2)) refl in
    let right : m *ℤ power p i ≡ s *ℤ power p e =
    ring (env (s ∷ power p (e - i) ∷ power p i ∷ [])) (times (times (var 0) (var 1)) (var 2)) (times (var 0) (times (var 1) (var 2))) refl
    ∙ ap (λ z. s *ℤ z) (power_sum p (e - i) i e (omega arith)) in
    omega (arith, ints, x, left, right)

abbrev far_bounds : ℕ → ℤ → ℤ → Vector → Vector
far_bounds e p s c i = size (c (suc i)) *ℤ (power p (e - i) *ℤ power s (suc i))

far_within : (e : ℕ) (p s : ℤ) (c : Vector) (i : ℕ) → i < suc e → pos 0 ≤ℤ s → pos 0 ≤ℤ p
    → IsWithin (far_bounds e p s c i) (scaled (suc e) p s c (suc i))
far_within e p s c i b h q =
    let t : suc e - suc i ≡ e - i = omega arith in
    let w = power p (e - i) *ℤ power s (suc i) in
    let wp = mul_not_negative (power p (e - i)) (power s (suc i)) (power_not_negative p (e - i) q) (power_not_negative s (suc i) h) in
    let same : scaled (suc e) p s c (suc i) ≡ c (suc i) *ℤ w =
    rw t (ring (env (c (suc i) ∷ power p (e - i) ∷ power s (suc i) ∷ [])) (times (times (var 0) (var 1)) (var 2)) (times (var 0) (times (var 1) (var 2))) refl) in
    rw same (within_times (size (c (suc i))) (c (suc i)) w w (within_size (c (suc i))) (within_self w wp))

far_sum : (e : ℕ) (p s : ℤ) (c : Vector) → pos 0 ≤ℤ s → s ≤ℤ p → sum_to (suc e) (far_bounds e p s c) ≤ℤ ((s *ℤ power p e) *ℤ heights (suc e) c)
far_sum e p s c h q =
    let K = s *ℤ power p e in
    subst (λ z. sum_to (suc e) (far_bounds e p s c) ≤ℤ z) (sum_scale (suc e) K (λ i. size (c (suc i))))
    (sum_at_most (suc e) (far_bounds e p s c) (λ i. K *ℤ size (c (suc i)))
    (λ i b. subst (λ z. far_bounds e p s c i ≤ℤ z) (*ℤ_comm (size (c (suc i))) K)
    (times_at_most (size (c (suc i))) (power p (e - i) *ℤ power s (suc i)) K (omega (arith, ints)) (weights_at_most e p s i b h q))))

lead_over : (m s p k : ℤ) → pos 0 ≤ℤ m → pos 0 <ℤ s → pos 0 <ℤ k → ((m +ℤ pos 1) *ℤ s) ≤ℤ p → (m *ℤ s) <ℤ (p *ℤ k)
lead_over m s p k mp sp kp h =
    let e : (m +ℤ pos 1) *ℤ s ≡ m *ℤ s +ℤ s = ring (env (m ∷ s ∷ [])) (times (plus (var 0) (num (pos 1))) (var 1)) (plus (times (var 0) (var 1)) (var 1)) refl in
    let ms = mul_not_negative m s mp (omega (arith, ints, sp)) in
    let pp : pos 0 ≤ℤ p = omega (arith, ints, e, h, ms, sp) in
    let x = times_at_most p (pos 1) k pp (omega (arith, ints, kp)) in
    let one : p *ℤ pos 1 ≡ p = ring (env (p ∷ [])) (times (var 0) (num (pos 1))) (var 0) refl in
    omega (arith, ints, e, h, x, one, sp)

times_less : (m a b : ℤ) → pos 0 <ℤ m → a <ℤ b → (m *ℤ a) <ℤ (m *ℤ b)
times_less m a b p h =
    let apart : pos 0 <ℤ (b -ℤ a) = omega (arith, ints) in
    let e : m *ℤ (b -ℤ a) ≡ m *ℤ b -ℤ m *ℤ a =
    ring (env (m ∷ a ∷ b ∷ [])) (times (var 0) (plus (var 2) (minus (var 1)))) (plus (times (var 0) (var 2)) (minus (times (var 0) (var 1)))) refl in
    let n = mul_positive m (b -ℤ a) p apart in
    omega (arith, ints, e, n)

heights_not_negative : (d : ℕ) (c : Vector) → pos 0 ≤ℤ heights d c
heights_not_negative d c = sum_not_negative d (λ i. size (c (suc i))) (λ i b. omega (arith, ints))

bound_over : (m s p : ℤ) → pos 0 ≤ℤ m → pos 0 <ℤ s → ((m +ℤ pos 1) *ℤ s) ≤ℤ p → s ≤ℤ p
bound_over m s p mp sp h =
    let e : (m +ℤ pos 1) *ℤ s ≡ m *ℤ s +ℤ s = ring (env (m ∷ s ∷ [])) (times (plus (var 0) (num (pos 1))) (var 1)) (plus (times (var 0) (var 1)) (var 1)) refl in
    let ms = mul_not_negative m s mp (omega (arith, ints, sp)) in
    omega (arith, ints, e, h, ms)

-- From the bound on the polynomial is inside.
pub far_inside : (e : ℕ) (p s : ℤ) (c : Vector) → pos 0 <ℤ s → pos 0 <ℤ c 0 → root_bound (suc e) s c ≤ℤ p
    → verdict_from (suc e) 0 (scaled (suc e) p s c) ≡ verdict.Inside
far_inside e p s c sp cp h =
    let M = heights (suc e) c in
    let mp = heights_not_negative (suc e) c in
    let sn : pos 0 ≤ℤ s = omega (arith, ints, sp) in
    let sl = bound_over M s p mp sp h in
    let pp : pos 0 <ℤ p = omega (arith, ints, sl, sp) in
    let pn : pos 0 ≤ℤ p = omega (arith, ints, pp) in
    let x = times_less (power p e) (M *ℤ s) (p *ℤ c 0) (power_positive p e pp) (lead_over M s p (c 0) mp sp cp h) in
    let k : (s *ℤ power p e) *ℤ M ≡ power p e *ℤ (M *ℤ s) =
    ring (env (s ∷ power p e ∷ M ∷ [])) (times (times (var 0) (var 1)) (var 2)) (times (var 1) (times (var 2) (var 0))) refl in
    let lead = lead_of e p s c in
    let sum = far_sum e p s c sn sl in
    led_inside (suc e) 0 (scaled (suc e) p s c) (far_bounds e p s c) (λ i b. far_within e p s c i b sn pn)
    (omega (arith, ints, x, k, lead, sum))
