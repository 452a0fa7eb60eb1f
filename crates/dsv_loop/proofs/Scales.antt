-- Lists that are multiples of one another, on a signal.
use Rattle.std.proofs.Common.{◌≡◌, ℕ, zero, suc, ◌+◌, ◌<◌, Bool, true, false, List, [], ◌∷◌, length, map, refl, sym, ap, ◌∙◌, arith}
use Rattle.std.proofs.Math.IntN.{ℤ, pos, negsuc, ◌*ℤ◌, neg_ℤ}
use Rattle.std.proofs.Math.Nat.{eq-zero_of_zero-dvd}
use Rattle.std.proofs.lemmas.Int.{ints}
use Rattle.std.proofs.lemmas.List.{length-map, get_or-map}
use Rattle.std.specs.Prelude.{if◌then◌else◌, int_lt}
use Rattle.std.specs.Int.{int_div_euclid, ◌∣◌}
use Rattle.std.specs.Int.RustNames.{unsigned_abs}
use Rattle.dsv_algebra.specs.Vectors.{Vector, vector_of, dot}
use Rattle.dsv_algebra.proofs.Normaliser.{ring, env, var, num, times, minus}
use Rattle.dsv_algebra.proofs.Sums.{sum_same, sum_scale}
use Rattle.dsv_tested.specs.Tested.{with_positive_lead}
use Rattle.dsv_loop.specs.Recursion.{filtered}
use Rattle.dsv_loop.specs.Loops.{factor_with, without_common_factor}
use Rattle.dsv_loop.proofs.Factors.{factor-all, exact_quotient, only_nought}

-- ---- a list whose numbers are multiples of another's
grouped : (s a b : ℤ) → s *ℤ (a *ℤ b) ≡ (s *ℤ a) *ℤ b
grouped s a b = let x = var 0 in let y = var 1 in let z = var 2 in ring (env (s ∷ a ∷ b ∷ [])) (times x (times y z)) (times (times x y) z) refl

filtered_map : (s : ℤ) (f : ℤ → ℤ) (cs : List ℤ) (x : Vector) (t : ℕ) → ((k : ℕ) → k < length cs → s *ℤ f (vector_of cs k) ≡ vector_of cs k)
    → s *ℤ filtered (map f cs) x t ≡ filtered cs x t
filtered_map s f cs x t h =
    let z : ℕ → ℤ = λ k. x (t + k) in
    let each : (k : ℕ) → k < length cs → s *ℤ (vector_of (map f cs) k *ℤ z k) ≡ vector_of cs k *ℤ z k = λ k p.
    ap (λ a. s *ℤ (a *ℤ z k)) (get_or-map f cs k (pos 0) (pos 0) p) ∙ grouped s (f (vector_of cs k)) (z k) ∙ ap (λ a. a *ℤ z k) (h k p) in
    ap (λ n. s *ℤ dot n (vector_of (map f cs)) z) (length-map cs f)
    ∙ sym (sum_scale (length cs) s (λ k. vector_of (map f cs) k *ℤ z k))
    ∙ sum_same (length cs) (λ k. s *ℤ (vector_of (map f cs) k *ℤ z k)) (λ k. vector_of cs k *ℤ z k) each

-- ---- the common factor
zero_quotient : (c : ℤ) → 0 ∣ unsigned_abs c → pos 1 *ℤ int_div_euclid c (pos 0) ≡ c
zero_quotient (pos n) h = let e : n ≡ 0 = eq-zero_of_zero-dvd h in rw e refl
zero_quotient (negsuc n) h = let e : suc n ≡ 0 = eq-zero_of_zero-dvd h in absurd (omega arith)

-- ---- two lists that make 0 of the same signals
-- the one makes of each signal a multiple of what the other makes of it
pub record IsMultiple (cs ds : List ℤ) : Type 0 where
  pub by : ℤ
  pub only : (x : ℤ) → by *ℤ x ≡ pos 0 → x ≡ pos 0
  pub same : (x : Vector) (t : ℕ) → by *ℤ filtered ds x t ≡ filtered cs x t

pub nought_of_multiple : (cs ds : List ℤ) (x : Vector) (t : ℕ) → IsMultiple cs ds → filtered cs x t ≡ pos 0 → filtered ds x t ≡ pos 0
nought_of_multiple cs ds x t m h = m.only (filtered ds x t) (m.same x t ∙ h)

no_multiple : (a : ℤ) → a *ℤ pos 0 ≡ pos 0
no_multiple a = ring (env (a ∷ [])) (times (var 0) (num (pos 0))) (num (pos 0)) refl

pub multiple_of_nought : (cs ds : List ℤ) (x : Vector) (t : ℕ) → IsMultiple cs ds → filtered ds x t ≡ pos 0 → filtered cs x t ≡ pos 0
multiple_of_nought cs ds x t m h = sym (m.same x t) ∙ ap (λ z. m.by *ℤ z) h ∙ no_multiple m.by

divided_multiple : (g : ℕ) (cs : List ℤ) → ((k : ℕ) → k < length cs → g ∣ unsigned_abs (vector_of cs k)) → IsMultiple cs (map (λ c. int_div_euclid c (pos g)) cs)
divided_multiple zero cs all =
    let f : ℤ → ℤ = λ c. int_div_euclid c (pos 0) in
    record { by = pos 1; only = λ x. only_nought 1 x (omega arith); same = λ x t. filtered_map (pos 1) f cs x t (λ k p. zero_quotient (vector_of cs k) (all k p)) }
divided_multiple (suc g) cs all =
    let f : ℤ → ℤ = λ c. int_div_euclid c (pos (suc g)) in
    record { by = pos (suc g); only = λ x. only_nought (suc g) x (omega arith); same = λ x t. filtered_map (pos (suc g)) f cs x t (λ k p. exact_quotient (suc g) (vector_of cs k) (all k p)) }

pub factor_multiple : (cs : List ℤ) → IsMultiple cs (without_common_factor cs)
factor_multiple cs = let g = factor_with 0 cs in divided_multiple g cs (λ k p. factor-all 0 cs k (pos 0) p)

-- ---- the sign
twice_turned : (c : ℤ) → negsuc 0 *ℤ neg_ℤ c ≡ c
twice_turned c = ring (env (c ∷ [])) (times (num (negsuc 0)) (minus (var 0))) (var 0) refl

turned_nought : (x : ℤ) → negsuc 0 *ℤ x ≡ pos 0 → x ≡ pos 0
turned_nought x e = omega (arith, ints)

own : (x : ℤ) → pos 1 *ℤ x ≡ x
own x = ring (env (x ∷ [])) (times (num (pos 1)) (var 0)) (var 0) refl

own_multiple : (cs : List ℤ) → IsMultiple cs cs
own_multiple cs = record { by = pos 1; only = λ x. only_nought 1 x (omega arith); same = λ x t. own (filtered cs x t) }

signs_multiple : (b : Bool) (cs : List ℤ) → IsMultiple cs (if b then map neg_ℤ cs else cs)
signs_multiple true cs = record { by = negsuc 0; only = turned_nought; same = λ x t. filtered_map (negsuc 0) neg_ℤ cs x t (λ k p. twice_turned (vector_of cs k)) }
signs_multiple false cs = own_multiple cs

pub positive_multiple : (cs : List ℤ) → IsMultiple cs (with_positive_lead cs)
positive_multiple [] = own_multiple []
positive_multiple (c ∷ cs) = signs_multiple (int_lt c (pos 0)) (c ∷ cs)
