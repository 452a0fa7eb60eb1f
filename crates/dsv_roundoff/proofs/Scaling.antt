-- Numbers over a denominator that is so many times as great.
use Rattle.std.proofs.Common.{◌≡◌, ℕ, zero, suc, ◌^◌, List, [], ◌∷◌, refl, sym, ap, ◌∙◌, arith}
use Rattle.std.proofs.Math.IntN.{ℤ, pos, ◌+ℤ◌, ◌-ℤ◌, ◌*ℤ◌}
use Rattle.std.proofs.lemmas.Int.{ints}
use Rattle.std.proofs.lemmas.Nat.{pow_pos}
use lib.Signed.{◌<ℤ◌}
use Rattle.dsv_algebra.proofs.Normaliser.{ring, env, var, plus, times, minus}
use Rattle.dsv_system.specs.Systems.{zeros}
use Rattle.dsv_netlist.specs.Nodes.{at}
use Rattle.dsv_linear.proofs.Numbers.{times_none, times_back}
use Rattle.dsv_roundoff.specs.Laws.{scaled}

pub scaled_at : (s : ℤ) (vs : List ℤ) (i : ℕ) → at (scaled s vs) i ≡ s *ℤ at vs i
scaled_at s [] i = sym (times_none s)
scaled_at s (v ∷ vs) zero = refl
scaled_at s (v ∷ vs) (suc i) = scaled_at s vs i

pub scaled_zeros : (s : ℤ) (n : ℕ) → scaled s (zeros n) ≡ zeros n
scaled_zeros s zero = refl
scaled_zeros s (suc n) = rw (times_none s) (ap (λ (xs : List ℤ). pos 0 ∷ xs) (scaled_zeros s n))

pub at_same : (d e : ℤ) (es fs : List ℤ) (i : ℕ) → scaled e es ≡ scaled d fs → e *ℤ at es i ≡ d *ℤ at fs i
at_same d e es fs i h = sym (scaled_at e es i) ∙ ap (λ (xs : List ℤ). at xs i) h ∙ scaled_at d fs i

pub grouped : (s g d : ℤ) → s *ℤ g *ℤ d ≡ s *ℤ (g *ℤ d)
grouped s g d = ring (env (s ∷ g ∷ d ∷ [])) (times (times (var 0) (var 1)) (var 2)) (times (var 0) (times (var 1) (var 2))) refl

pub swapped : (s p e : ℤ) → p *ℤ (s *ℤ e) ≡ s *ℤ (p *ℤ e)
swapped s p e = ring (env (s ∷ p ∷ e ∷ [])) (times (var 1) (times (var 0) (var 2))) (times (var 0) (times (var 1) (var 2))) refl

pub add_spread : (s v w : ℤ) → s *ℤ (v +ℤ w) ≡ s *ℤ v +ℤ s *ℤ w
add_spread s v w = ring (env (s ∷ v ∷ w ∷ [])) (times (var 0) (plus (var 1) (var 2))) (plus (times (var 0) (var 1)) (times (var 0) (var 2))) refl

pub sub_spread : (s v w : ℤ) → s *ℤ (v -ℤ w) ≡ s *ℤ v -ℤ s *ℤ w
sub_spread s v w = ring (env (s ∷ v ∷ w ∷ [])) (times (var 0) (plus (var 1) (minus (var 2)))) (plus (times (var 0) (var 1)) (minus (times (var 0) (var 2)))) refl

-- ---- quotients
pub power_up : (f : ℕ) → pos 0 <ℤ pos (2 ^ f)
power_up f = let p = pow_pos f in omega (arith, ints)

pub divided : (p v w : ℤ) → pos 0 <ℤ p → p *ℤ v ≡ p *ℤ w → v ≡ w
divided p v w h e =
    let a = times_back p v w h (omega (arith, ints)) in
    let b = times_back p w v h (omega (arith, ints)) in
    omega (arith, ints)

pub quotient_one : (p d e v w : ℤ) → pos 0 <ℤ p → e *ℤ (p *ℤ v) ≡ d *ℤ (p *ℤ w) → e *ℤ v ≡ d *ℤ w
quotient_one p d e v w h s = divided p (e *ℤ v) (d *ℤ w) h (swapped e p v ∙ s ∙ sym (swapped d p w))
