-- The lines of the written equations as sums of coefficients times what they stand at.
use Rattle.std.proofs.Common.{◌≡◌, ℕ, zero, suc, ◌+◌, ◌^◌, ◌<◌, ◌≤◌, true, false, List, [], ◌∷◌, ◌++◌, length, take, drop, refl, sym, ap, ◌∙◌, arith}
use Rattle.std.proofs.Math.IntN.{ℤ, pos, ◌+ℤ◌, ◌-ℤ◌, ◌*ℤ◌}
use Rattle.std.proofs.lemmas.Int.{ints}
use Rattle.dsv_algebra.specs.Vectors.{Vector, vector_of, dot}
use Rattle.dsv_word.specs.declared.format.Format.{Format}
use Rattle.dsv_quantiser.specs.QuantisedView.{QuantisedView, IsQuantisedView, unit}
use Rattle.dsv_meaning.specs.declared.summands.Summand.{Summand}
use Rattle.dsv_meaning.specs.declared.summands.Summand.TheVariants.{Alone}
use Rattle.dsv_meaning.specs.Lines.{summands, exact_summand, total}
use Rattle.dsv_meaning.specs.Equations.{ago, feedback, first_alone, forward_summands, feedback_summands, transposed_output}
use Rattle.dsv_linear.proofs.Numbers.{none_times, times_none}
use Rattle.dsv_roundoff.specs.Written.{IsLine, AreLines, delta_lines, transposed_lines}
use Rattle.dsv_algebra.proofs.Dots.{dot_same, dot_first}

-- ---- sums of products
ended : (z : ℤ) → z +ℤ pos 0 ≡ z
ended z = omega (arith, ints)

added_on : (a b c : ℤ) → a +ℤ (b +ℤ c) ≡ (a +ℤ b) +ℤ c
added_on a b c = omega (arith, ints)

total-append : (f : Format) (xs ys : List (Summand ℤ)) → total f (xs ++ ys) ≡ total f xs +ℤ total f ys
total-append f [] ys = omega (arith, ints)
total-append f (x ∷ xs) ys = ap (λ z. exact_summand f x +ℤ z) (total-append f xs ys) ∙ added_on (exact_summand f x) (total f xs) (total f ys)

later : (cs : List ℤ) (w : Vector) (k : ℕ) → dot (length cs) (vector_of cs) (λ i. w (k + 1 + i)) ≡ dot (length cs) (vector_of cs) (λ i. w (k + suc i))
later cs w k = dot_same (length cs) (vector_of cs) (λ i. w (k + 1 + i)) (λ i. w (k + suc i)) (λ i h. let e : k + 1 + i ≡ k + suc i = omega arith in ap w e)

first_place : (c : ℤ) (w : Vector) (k : ℕ) → c *ℤ w k ≡ c *ℤ w (k + 0)
first_place c w k = let e : k ≡ k + 0 = omega arith in ap (λ i. c *ℤ w i) e

total-added : (f : Format) (cs : List ℤ) (w : Vector) (k : ℕ) → total f (summands false cs w k) ≡ dot (length cs) (vector_of cs) (λ i. w (k + i))
total-added f [] w k = refl
total-added f (c ∷ cs) w k =
    ap (λ z. c *ℤ w k +ℤ z) (total-added f cs w (k + 1) ∙ later cs w k)
    ∙ ap (λ z. z +ℤ dot (length cs) (vector_of cs) (λ i. w (k + suc i))) (first_place c w k)
    ∙ sym (dot_first c cs (λ i. w (k + i)))

away : (x y z : ℤ) → z ≡ x +ℤ y → (pos 0 -ℤ x) +ℤ (pos 0 -ℤ y) ≡ pos 0 -ℤ z
away x y z h = omega (arith, ints)

total-taken : (f : Format) (cs : List ℤ) (w : Vector) (k : ℕ) → total f (summands true cs w k) ≡ pos 0 -ℤ dot (length cs) (vector_of cs) (λ i. w (k + i))
total-taken f [] w k = refl
total-taken f (c ∷ cs) w k =
    ap (λ z. (pos 0 -ℤ c *ℤ w k) +ℤ z) (total-taken f cs w (k + 1) ∙ ap (λ z. pos 0 -ℤ z) (later cs w k))
    ∙ ap (λ z. (pos 0 -ℤ z) +ℤ (pos 0 -ℤ dot (length cs) (vector_of cs) (λ i. w (k + suc i)))) (first_place c w k)
    ∙ away (c *ℤ w (k + 0)) (dot (length cs) (vector_of cs) (λ i. w (k + suc i))) (dot (length (c ∷ cs)) (vector_of (c ∷ cs)) (λ i. w (k + i))) (dot_first c cs (λ i. w (k + i)))

from_first : (cs : List ℤ) (w : Vector) → dot (length cs) (vector_of cs) (λ i. w (0 + i)) ≡ dot (length cs) (vector_of cs) w
from_first cs w = dot_same (length cs) (vector_of cs) (λ i. w (0 + i)) w (λ i h. let e : 0 + i ≡ i = omega arith in ap w e)

total-forward : (q : QuantisedView) (us : List ℤ) → total q.format (forward_summands q (ago us)) ≡ dot (length q.b) (vector_of q.b) (vector_of us)
total-forward q us = total-added q.format q.b (vector_of us) 0 ∙ from_first q.b (vector_of us)

-- the coefficients a_1 to a_N on what is in these words
abbrev fed : QuantisedView → List ℤ → ℤ
fed q vs = dot (length (feedback q)) (vector_of (feedback q)) (vector_of vs)

total-feedback : (q : QuantisedView) (vs : List ℤ) → total q.format (feedback_summands q (ago vs) 0) ≡ pos 0 -ℤ fed q vs
total-feedback q vs = total-taken q.format (feedback q) (vector_of vs) 0 ∙ ap (λ z. pos 0 -ℤ z) (from_first (feedback q) (vector_of vs))

-- ---- lines with feedback
first_apart : (cs : List ℤ) (x : Vector) → 1 ≤ length cs → dot (length cs) (vector_of cs) x ≡ vector_of cs 0 *ℤ x 0 +ℤ dot (length (drop 1 cs)) (vector_of (drop 1 cs)) (λ i. x (suc i))
first_apart [] x h = absurd (omega arith)
first_apart (c ∷ cs) x h = dot_first c cs x

-- all coefficients a_0 to a_N: a_0 is the number 1 in words
all_fed : (q : QuantisedView) → IsQuantisedView q → (y : ℤ) (vs : List ℤ) → dot (length q.a) (vector_of q.a) (vector_of (y ∷ vs)) ≡ unit q.format *ℤ y +ℤ fed q vs
all_fed q is y vs = first_apart q.a (vector_of (y ∷ vs)) is.some ∙ ap (λ z. z *ℤ y +ℤ fed q vs) is.leading

brought_over : (v b c : ℤ) → v ≡ b +ℤ (pos 0 -ℤ c) → v +ℤ c ≡ b
brought_over v b c h = omega (arith, ints)

pub output_fed : (q : QuantisedView) → IsQuantisedView q → (us vs : List ℤ) (y : ℤ) → IsLine q.format (forward_summands q (ago us) ++ feedback_summands q (ago vs) 0) y
    → dot (length q.a) (vector_of q.a) (vector_of (y ∷ vs)) ≡ dot (length q.b) (vector_of q.b) (vector_of us)
output_fed q is us vs y h =
    all_fed q is y vs
    ∙ brought_over (unit q.format *ℤ y) (dot (length q.b) (vector_of q.b) (vector_of us)) (fed q vs)
    (h ∙ total-append q.format (forward_summands q (ago us)) (feedback_summands q (ago vs) 0) ∙ ap (λ z. z +ℤ total q.format (feedback_summands q (ago vs) 0)) (total-forward q us)
    ∙ ap (λ z. dot (length q.b) (vector_of q.b) (vector_of us) +ℤ z) (total-feedback q vs))

pub state_fed : (q : QuantisedView) → IsQuantisedView q → (ws : List ℤ) (x w : ℤ) → IsLine q.format (Alone x ∷ feedback_summands q (ago ws) 0) w
    → dot (length q.a) (vector_of q.a) (vector_of (w ∷ ws)) ≡ unit q.format *ℤ x
state_fed q is ws x w h =
    all_fed q is w ws ∙ brought_over (unit q.format *ℤ w) (unit q.format *ℤ x) (fed q ws) (h ∙ ap (λ z. unit q.format *ℤ x +ℤ z) (total-feedback q ws))

pub output_forward : (q : QuantisedView) (ws : List ℤ) (y : ℤ) → IsLine q.format (forward_summands q (ago ws)) y → dot (length q.b) (vector_of q.b) (vector_of ws) ≡ unit q.format *ℤ y
output_forward q ws y h = sym (h ∙ total-forward q ws)

-- ---- lines of chains
-- the list without its first number
pub dropped : (s : List ℤ) (i : ℕ) → vector_of (drop 1 s) i ≡ vector_of s (suc i)
dropped [] i = refl
dropped (x ∷ s) i = refl

total-alone : (f : Format) (s : List ℤ) → total f (first_alone s) ≡ pos (2 ^ f.frac_bits) *ℤ vector_of s 0
total-alone f [] = sym (times_none (pos (2 ^ f.frac_bits)))
total-alone f (x ∷ s) = ended (pos (2 ^ f.frac_bits) *ℤ x)

total-first : (f : Format) (cs : List ℤ) (x : ℤ) → total f (summands false (take 1 cs) (λ (i : ℕ). x) 0) ≡ vector_of cs 0 *ℤ x
total-first f [] x = sym (none_times x)
total-first f (c ∷ cs) x = ended (c *ℤ x)

-- the output of a transposed form
pub output_transposed : (q : QuantisedView) (x y : ℤ) (s : List ℤ) → IsLine q.format (transposed_output q x s) y → unit q.format *ℤ y ≡ vector_of q.b 0 *ℤ x +ℤ unit q.format *ℤ vector_of s 0
output_transposed q x y s h =
    h ∙ total-append q.format (summands false (take 1 q.b) (λ (i : ℕ). x) 0) (first_alone s) ∙ rw (total-first q.format q.b x, total-alone q.format s) refl

over : (v bx ay w : ℤ) → v ≡ bx +ℤ ((pos 0 -ℤ ay) +ℤ w) → v +ℤ ay ≡ bx +ℤ w
over v bx ay w h = omega (arith, ints)

-- the lines of a transposed form
pub transposed_at : (f : Format) (x y : ℤ) (bs cs s ts : List ℤ) → AreLines f (transposed_lines x y bs cs s) ts → length bs ≡ length cs → (i : ℕ) → i < length cs
    → unit f *ℤ vector_of ts i +ℤ vector_of cs i *ℤ y ≡ vector_of bs i *ℤ x +ℤ unit f *ℤ vector_of s (suc i)
transposed_at f x y [] [] s ts h l i p = absurd (omega arith)
transposed_at f x y [] (a ∷ cs) s ts h l i p = absurd (omega arith)
transposed_at f x y (b ∷ bs) [] s ts h l i p = absurd (omega arith)
transposed_at f x y (b ∷ bs) (a ∷ cs) s [] h l i p = absurd h
transposed_at f x y (b ∷ bs) (a ∷ cs) s (t ∷ ts) h l zero p =
    over (unit f *ℤ t) (b *ℤ x) (a *ℤ y) (unit f *ℤ vector_of s 1)
    (h.0 ∙ ap (λ z. b *ℤ x +ℤ ((pos 0 -ℤ a *ℤ y) +ℤ z)) (total-alone f (drop 1 s) ∙ ap (λ z. unit f *ℤ z) (dropped s 0)))
transposed_at f x y (b ∷ bs) (a ∷ cs) s (t ∷ ts) h l (suc i) p =
    transposed_at f x y bs cs (drop 1 s) ts h.1 (omega arith) i (omega arith) ∙ ap (λ z. vector_of bs i *ℤ x +ℤ unit f *ℤ z) (dropped s (suc i))

-- the lines of delta forms
pub delta_at : (q : QuantisedView) (ws vs us : List ℤ) → AreLines q.format (delta_lines q ws vs) us → length ws ≤ length vs → (i : ℕ) → i < length ws
    → unit q.format *ℤ vector_of us i ≡ unit q.format *ℤ vector_of ws i +ℤ q.delta *ℤ vector_of vs i
delta_at q [] vs us h l i p = absurd (omega arith)
delta_at q (w ∷ ws) [] us h l i p = absurd (omega arith)
delta_at q (w ∷ ws) (v ∷ vs) [] h l i p = absurd h
delta_at q (w ∷ ws) (v ∷ vs) (u ∷ us) h l zero p = h.0 ∙ ap (λ z. unit q.format *ℤ w +ℤ z) (ended (q.delta *ℤ v))
delta_at q (w ∷ ws) (v ∷ vs) (u ∷ us) h l (suc i) p = delta_at q ws vs us h.1 (omega arith) i (omega arith)
