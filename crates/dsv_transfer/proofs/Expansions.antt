-- What a polynomial in powers of z - 1 makes of a signal: the same as its coefficients in z.
use Rattle.std.proofs.Common.{◌≡◌, ℕ, zero, suc, ◌+◌, ◌-◌, ◌<◌, [], ◌∷◌, refl, sym, ap, ◌∙◌, arith}
use Rattle.std.proofs.Math.IntN.{ℤ, pos, ◌+ℤ◌, ◌-ℤ◌, ◌*ℤ◌}
use Rattle.std.proofs.lemmas.Int.{ints}
use Rattle.dsv_algebra.specs.Vectors.{Vector, sum_to}
use Rattle.dsv_algebra.proofs.Normaliser.{ring, env, var, plus, times, minus}
use Rattle.dsv_algebra.proofs.Sums.{sum_same, sum_add, sum_first}
use Rattle.dsv_delta.specs.ZCoefficients.{z_coefficient}
use Rattle.dsv_delta.proofs.Alternating.{first_coefficient, next_coefficient, over_coefficient}

-- what (z - 1)^k makes of a signal: the difference number k of its value t samples ago and of the k values before that
abbrev pub difference : ℕ → Vector → Vector
difference zero v t = v t
difference (suc k) v t = difference k v t -ℤ difference k v (suc t)

-- ---- one degree more
-- the coefficients in z on a signal
abbrev on_signal : ℕ → Vector → Vector → ℕ → ℤ
on_signal n e v t = sum_to (suc n) (λ i. z_coefficient n e i *ℤ v (t + i))

-- and the numbers e on its differences
abbrev on_differences : ℕ → Vector → Vector → ℕ → ℤ
on_differences n e v t = sum_to (suc n) (λ j. e j *ℤ difference (n - j) v (t + j))

taken : (x y z v : ℤ) → x ≡ y -ℤ z → x *ℤ v +ℤ z *ℤ v ≡ y *ℤ v
taken x y z v h = ap (λ w. w *ℤ v +ℤ z *ℤ v) h ∙ ring (env (y ∷ z ∷ v ∷ [])) (plus (times (plus (var 0) (minus (var 1))) (var 2)) (times (var 1) (var 2))) (times (var 0) (var 2)) refl

gathered : (x y z p q r : ℤ) → q +ℤ r ≡ p → x +ℤ p ≡ y +ℤ z → (x +ℤ q) +ℤ r ≡ y +ℤ z
gathered x y z p q r h g = omega (arith, ints)

-- with a factor z - 1 and one number more
signal_more : (n : ℕ) (e v : Vector) (t : ℕ) → on_signal (suc n) e v t +ℤ on_signal n e v (suc t) ≡ on_signal n e v t +ℤ e (suc n) *ℤ v (t + suc n)
signal_more n e v t =
    let f : ℕ → ℤ = λ i. z_coefficient n e i *ℤ v (t + i) in
    let shifted : on_signal n e v (suc t) ≡ sum_to (suc n) (λ i. z_coefficient n e i *ℤ v (t + suc i)) =
    sum_same (suc n) (λ i. z_coefficient n e i *ℤ v (suc t + i)) (λ i. z_coefficient n e i *ℤ v (t + suc i)) (λ i h. let s : suc t + i ≡ t + suc i = omega arith in ap (λ k. z_coefficient n e i *ℤ v k) s) in
    let later : sum_to (suc n) (λ i. z_coefficient (suc n) e (suc i) *ℤ v (t + suc i)) +ℤ on_signal n e v (suc t) ≡ sum_to (suc n) (λ i. f (suc i)) =
    ap (λ z. sum_to (suc n) (λ i. z_coefficient (suc n) e (suc i) *ℤ v (t + suc i)) +ℤ z) shifted
    ∙ sym (sum_add (suc n) (λ i. z_coefficient (suc n) e (suc i) *ℤ v (t + suc i)) (λ i. z_coefficient n e i *ℤ v (t + suc i)))
    ∙ sum_same (suc n) (λ i. z_coefficient (suc n) e (suc i) *ℤ v (t + suc i) +ℤ z_coefficient n e i *ℤ v (t + suc i)) (λ i. f (suc i)) (λ i h.
    taken (z_coefficient (suc n) e (suc i)) (z_coefficient n e (suc i)) (z_coefficient n e i) (v (t + suc i)) (next_coefficient n e i (omega arith))) in
    let lead : z_coefficient (suc n) e 0 *ℤ v (t + 0) ≡ f 0 = ap (λ z. z *ℤ v (t + 0)) (first_coefficient (suc n) e ∙ sym (first_coefficient n e)) in
    let last : f (suc n) ≡ e (suc n) *ℤ v (t + suc n) = ap (λ z. z *ℤ v (t + suc n)) (over_coefficient n e) in
    let whole : f 0 +ℤ sum_to (suc n) (λ i. f (suc i)) ≡ on_signal n e v t +ℤ e (suc n) *ℤ v (t + suc n) = sym (sum_first (suc n) f) ∙ ap (λ z. on_signal n e v t +ℤ z) last in
    ap (λ z. z +ℤ on_signal n e v (suc t)) (sum_first (suc n) (λ i. z_coefficient (suc n) e i *ℤ v (t + i)) ∙ ap (λ z. z +ℤ sum_to (suc n) (λ i. z_coefficient (suc n) e (suc i) *ℤ v (t + suc i))) lead)
    ∙ gathered (f 0) (on_signal n e v t) (e (suc n) *ℤ v (t + suc n)) (sum_to (suc n) (λ i. f (suc i))) (sum_to (suc n) (λ i. z_coefficient (suc n) e (suc i) *ℤ v (t + suc i))) (on_signal n e v (suc t)) later whole

put_back : (x y z v : ℤ) → v ≡ y -ℤ z → x *ℤ v +ℤ x *ℤ z ≡ x *ℤ y
put_back x y z v h = ap (λ w. x *ℤ w +ℤ x *ℤ z) h ∙ ring (env (x ∷ y ∷ z ∷ [])) (plus (times (var 0) (plus (var 1) (minus (var 2)))) (times (var 0) (var 2))) (times (var 0) (var 1)) refl

swapped_last : (x y z w : ℤ) → x +ℤ y ≡ w → (x +ℤ z) +ℤ y ≡ w +ℤ z
swapped_last x y z w h = omega (arith, ints)

differences_more : (n : ℕ) (e v : Vector) (t : ℕ) → on_differences (suc n) e v t +ℤ on_differences n e v (suc t) ≡ on_differences n e v t +ℤ e (suc n) *ℤ v (t + suc n)
differences_more n e v t =
    let f : ℕ → ℤ = λ j. e j *ℤ difference (suc n - j) v (t + j) in
    let g : ℕ → ℤ = λ j. e j *ℤ difference (n - j) v (suc t + j) in
    let last : f (suc n) ≡ e (suc n) *ℤ v (t + suc n) = let none : suc n - suc n ≡ 0 = omega arith in ap (λ k. e (suc n) *ℤ difference k v (t + suc n)) none in
    let each : (j : ℕ) → j < suc n → f j +ℤ g j ≡ e j *ℤ difference (n - j) v (t + j) = λ j h.
    let more : suc n - j ≡ suc (n - j) = omega arith in
    let later : suc t + j ≡ suc (t + j) = omega arith in
    ap (λ k. f j +ℤ e j *ℤ difference (n - j) v k) later
    ∙ put_back (e j) (difference (n - j) v (t + j)) (difference (n - j) v (suc (t + j))) (difference (suc n - j) v (t + j)) (ap (λ k. difference k v (t + j)) more) in
    let first : sum_to (suc n) f +ℤ sum_to (suc n) g ≡ on_differences n e v t = sym (sum_add (suc n) f g) ∙ sum_same (suc n) (λ j. f j +ℤ g j) (λ j. e j *ℤ difference (n - j) v (t + j)) each in
    ap (λ z. (sum_to (suc n) f +ℤ z) +ℤ sum_to (suc n) g) last ∙ swapped_last (sum_to (suc n) f) (sum_to (suc n) g) (e (suc n) *ℤ v (t + suc n)) (on_differences n e v t) first

same_left : (x y z w u : ℤ) → x +ℤ z ≡ w +ℤ u → y +ℤ z ≡ w +ℤ u → x ≡ y
same_left x y z w u h g = omega (arith, ints)

-- the coefficients in z on a signal are the numbers e on its differences
pub expansion_on : (n : ℕ) (e v : Vector) (t : ℕ) → sum_to (suc n) (λ i. z_coefficient n e i *ℤ v (t + i)) ≡ sum_to (suc n) (λ j. e j *ℤ difference (n - j) v (t + j))
expansion_on zero e v t = ap (λ z. pos 0 +ℤ z *ℤ v (t + 0)) (first_coefficient 0 e)
expansion_on (suc n) e v t =
    same_left (on_signal (suc n) e v t) (on_differences (suc n) e v t) (on_signal n e v (suc t)) (on_signal n e v t) (e (suc n) *ℤ v (t + suc n))
    (signal_more n e v t)
    (ap (λ z. on_differences (suc n) e v t +ℤ z) (expansion_on n e v (suc t)) ∙ differences_more n e v t ∙ ap (λ z. z +ℤ e (suc n) *ℤ v (t + suc n)) (sym (expansion_on n e v t)))
