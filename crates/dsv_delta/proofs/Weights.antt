-- How large the numbers of a division get.
use Rattle.std.proofs.Common.{◌≡◌, ℕ, zero, suc, ◌+◌, ◌-◌, ◌*◌, ◌^◌, ◌<◌, ◌≤◌, List, [], ◌∷◌, ◌++◌, length, take, drop, set, get_or, append_assoc, refl, sym, ap, ◌∙◌, arith, add-one, drop-cons}
use Rattle.std.proofs.Math.IntN.{ℤ, pos, ◌+ℤ◌}
use Rattle.std.proofs.Math.Nat.{pow-suc}
use Rattle.std.proofs.lemmas.Int.{ints}
use Rattle.std.proofs.lemmas.List.{length-take-le, take_more_set, drop-set-lt}
use Rattle.std.specs.Int.RustNames.{unsigned_abs}
use Rattle.dsv_delta.specs.Binomials.{weight}
use Rattle.dsv_delta.specs.Running.{running_sums}

abs_add : (a b : ℤ) → unsigned_abs (a +ℤ b) ≤ unsigned_abs a + unsigned_abs b
abs_add a b = omega (arith, ints)

pub times_power : (a n : ℕ) → a ≤ a * 2 ^ n
times_power a zero = omega arith
times_power a (suc n) = let e = pow-suc 2 n in let h = times_power a n in omega (arith, ap (λ p. a * p) e)

next_weight : (ns : List ℤ) (i : ℕ) → i < length ns
    → weight (drop i ns) ≡ unsigned_abs (get_or ns i (pos 0)) * 2 ^ length (drop (suc i) ns) + weight (drop (suc i) ns)
next_weight ns i h = ap weight (drop-cons ns i (pos 0) h)

pub carry_small : (ns : List ℤ) (i : ℕ) (carry : ℤ) → i < length ns → unsigned_abs carry + weight (drop i ns) < 2 ^ 126
    → unsigned_abs (carry +ℤ get_or ns i (pos 0)) + weight (drop (i + 1) ns) < 2 ^ 126
carry_small ns i carry h small =
    rw (add-one i)
    (omega (arith, next_weight ns i h, abs_add carry (get_or ns i (pos 0)), times_power (unsigned_abs (get_or ns i (pos 0))) (length (drop (suc i) ns))))

pub length-running : (carry : ℤ) (ns : List ℤ) → length (running_sums carry ns) ≡ length ns
length-running carry [] = refl
length-running carry (n ∷ ns) = ap suc (length-running (carry +ℤ n) ns)

sizes : (a c x d p q r v w : ℕ) → q ≡ p → r ≡ p * 2 → c + x ≡ a + d → d ≤ d * p → v + a ≤ a * p + w → a * q + v + c ≤ c * r + (x * r + w)
sizes a c x d p q r v w e f g h i =
    let k : c * p + x * p ≡ a * p + d * p = omega (arith, ap (λ t. t * p) g) in
    rw (e, f) (omega arith)

-- a quotient by z - 1 is no heavier
quotient_light : (carry n : ℤ) (ns : List ℤ) → weight (take (length ns) (running_sums carry (n ∷ ns))) + unsigned_abs carry ≤ unsigned_abs carry * 2 ^ length ns + weight (n ∷ ns)
quotient_light carry n [] = omega arith
quotient_light carry n (m ∷ ns) =
    let front = take (length ns) (running_sums (carry +ℤ n) (m ∷ ns)) in
    let long : length ns ≤ length (running_sums (carry +ℤ n) (m ∷ ns)) = omega (arith, length-running (carry +ℤ n) (m ∷ ns)) in
    let less = abs_add carry n in
    let gap = unsigned_abs carry + unsigned_abs n - unsigned_abs (carry +ℤ n) in
    sizes (unsigned_abs (carry +ℤ n)) (unsigned_abs carry) (unsigned_abs n) gap (2 ^ length ns) (2 ^ length front) (2 ^ suc (length ns)) (weight front) (weight (m ∷ ns))
    (ap (λ k. 2 ^ k) (length-take-le (length ns) (running_sums (carry +ℤ n) (m ∷ ns)) long)) (pow-suc 2 (length ns)) (omega arith) (times_power gap (length ns))
    (quotient_light (carry +ℤ n) m ns)

pub lighter : (ns : List ℤ) → weight (take (length ns - 1) (running_sums (pos 0) ns)) ≤ weight ns
lighter [] = omega arith
lighter (n ∷ ns) =
    let same : length (n ∷ ns) - 1 ≡ length ns = omega arith in
    omega (arith, quotient_light (pos 0) n ns, ap (λ k. weight (take k (running_sums (pos 0) (n ∷ ns)))) same)

-- one number more of a division
pub running_step : (ns : List ℤ) (i : ℕ) (carry : ℤ) (made : List ℤ) → i < length ns → take i ns ++ running_sums carry (drop i ns) ≡ made
    → take (i + 1) (set ns i (carry +ℤ get_or ns i (pos 0))) ++ running_sums (carry +ℤ get_or ns i (pos 0)) (drop (i + 1) (set ns i (carry +ℤ get_or ns i (pos 0)))) ≡ made
running_step ns i carry made h e =
    let n = get_or ns i (pos 0) in
    ap (λ xs. xs ++ running_sums (carry +ℤ n) (drop (i + 1) (set ns i (carry +ℤ n)))) (take_more_set ns i (carry +ℤ n) h)
    ∙ ap (λ xs. (take i ns ++ (carry +ℤ n) ∷ []) ++ running_sums (carry +ℤ n) xs) (drop-set-lt (i + 1) ns i (carry +ℤ n) (omega arith))
    ∙ append_assoc (take i ns) ((carry +ℤ n) ∷ []) (running_sums (carry +ℤ n) (drop (i + 1) ns))
    ∙ ap (λ m. take i ns ++ (carry +ℤ n) ∷ running_sums (carry +ℤ n) (drop m ns)) (add-one i)
    ∙ ap (λ xs. take i ns ++ running_sums carry xs) (sym (drop-cons ns i (pos 0) h))
    ∙ e
