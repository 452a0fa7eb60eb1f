-- Numerators over a common denominator.
use Rattle.std.proofs.Common.{◌≡◌, ℕ, suc, ◌+◌, ◌*◌, ◌/◌, ◌^◌, ◌<◌, ◌≤◌, List, [], ◌∷◌, ◌++◌, length, drop, get_or, refl, sym, ap, ◌∙◌, arith, add-one, append_assoc, drop-cons}
use Rattle.std.proofs.Math.IntN.{ℤ, pos, ◌*ℤ◌}
use Rattle.std.proofs.Math.Nat.{pow-suc}
use Rattle.std.proofs.lemmas.List.{length-drop}
use Rattle.std.specs.Int.RustNames.{unsigned_abs}
use Rattle.dsv_fraction.specs.Ratio.{Ratio}
use Rattle.dsv_delta.specs.Binomials.{weight}
use Rattle.dsv_delta.specs.Deltas.{numerators}
use Rattle.dsv_delta.proofs.Weights.{times_power}

pub length-numerators : (l : ℕ) (qs : List Ratio) → length (numerators l qs) ≡ length qs
length-numerators l [] = refl
length-numerators l (q ∷ qs) = ap suc (length-numerators l qs)

next_numerators : (l : ℕ) (qs : List Ratio) (i : ℕ) (q : Ratio) → i < length qs → q ≡ get_or qs i q
    → numerators l (drop i qs) ≡ (q.num *ℤ pos (l / q.den)) ∷ numerators l (drop (i + 1) qs)
next_numerators l qs i q h e =
    ap (numerators l) (drop-cons qs i q h ∙ ap (λ r. r ∷ drop (suc i) qs) (sym e))
    ∙ ap (λ m. (q.num *ℤ pos (l / q.den)) ∷ numerators l (drop m qs)) (sym (add-one i))

pub numerators_step : (l : ℕ) (qs : List Ratio) (i : ℕ) (q : Ratio) (out made : List ℤ) → i < length qs → q ≡ get_or qs i q
    → out ++ numerators l (drop i qs) ≡ made → (out ++ (q.num *ℤ pos (l / q.den)) ∷ []) ++ numerators l (drop (i + 1) qs) ≡ made
numerators_step l qs i q out made h e same =
    append_assoc out ((q.num *ℤ pos (l / q.den)) ∷ []) (numerators l (drop (i + 1) qs)) ∙ ap (λ ns. out ++ ns) (sym (next_numerators l qs i q h e)) ∙ same

moved : (w n p q u v x total : ℕ) → q ≡ p * 2 → u ≡ p → x ≡ n * u + v → w * q + x ≡ total → (w * 2 + n) * p + v ≡ total
moved w n p q u v x total e f g h =
    let a : w * q ≡ w * (p * 2) = ap (λ t. w * t) e in
    let b : n * u ≡ n * p = ap (λ t. n * t) f in
    omega arith

-- how much heavier one numerator more makes those before it
pub heavier : (l : ℕ) (qs : List Ratio) (i : ℕ) (q : Ratio) (w total : ℕ) → i < length qs → q ≡ get_or qs i q
    → w * 2 ^ length (drop i qs) + weight (numerators l (drop i qs)) ≡ total
    → (w * 2 + unsigned_abs (q.num *ℤ pos (l / q.den))) * 2 ^ length (drop (i + 1) qs) + weight (numerators l (drop (i + 1) qs)) ≡ total
heavier l qs i q w total h e same =
    let n = unsigned_abs (q.num *ℤ pos (l / q.den)) in
    let rest = drop (i + 1) qs in
    let long : length (drop i qs) ≡ suc (length rest) = omega (arith, length-drop i qs, length-drop (i + 1) qs) in
    moved w n (2 ^ length rest) (2 ^ length (drop i qs)) (2 ^ length (numerators l rest)) (weight (numerators l rest)) (weight (numerators l (drop i qs))) total
    (ap (λ k. 2 ^ k) long ∙ pow-suc 2 (length rest)) (ap (λ k. 2 ^ k) (length-numerators l rest)) (ap weight (next_numerators l qs i q h e)) same

pub heavy : (w k v total : ℕ) → w * 2 ^ k + v ≡ total → w ≤ total
heavy w k v total e = omega (arith, times_power w k)
