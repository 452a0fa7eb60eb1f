-- The variables of the inputs, and assignments that spell given values.
use Rattle.std.proofs.Common.{◌≡◌, ℕ, zero, suc, ◌+◌, ◌-◌, ◌/◌, ◌%◌, ◌^◌, ◌<◌, ◌≤◌, Bool, true, cond, List, [], ◌∷◌, refl, arith, ap, sym, ◌∙◌, length, map, drop}
use Rattle.std.specs.Prelude.{◌==◌, nat_lt, slice_index}
use Rattle.std.proofs.Math.Nat.{div-add-mod}
use Rattle.std.proofs.lemmas.Bool.{lt-ltb, le-ltb}
use Rattle.std.proofs.lemmas.List.{length-map}
use Rattle.std.proofs.lemmas.List.Elements.{All-nil, All-cons}
use Rattle.dsv_cnf.specs.Literal.{Literal}
use Rattle.dsv_cnf.specs.Formula.{IsOver, AreOver}
use Rattle.dsv_term.specs.Terms.{AreValues}
use Rattle.dsv_blast.specs.Gates.{positive}
use Rattle.dsv_blast.specs.Words.{bits_value, number_of}
use Rattle.dsv_blast.specs.Blast.{run_from, places_from, total, bits_at, input_values}
use Rattle.dsv_blast.proofs.Bits.{bit-odd, two_pow}
use Rattle.dsv_blast.proofs.Copies.{bits-small}
use Rattle.dsv_blast.proofs.NodeValues.{value-at, width-at}

pub length-run : (n w : ℕ) → length (run_from n w) ≡ w
length-run n zero = refl
length-run n (suc w) = ap suc (length-run (n + 1) w)

over-run : (n w m : ℕ) → n + w ≤ m → IsOver m (run_from n w)
over-run n zero m h = All-nil (λ (l : Literal). l.var < m)
over-run n (suc w) m h = All-cons (λ (l : Literal). l.var < m) (positive n) (run_from (n + 1) w) (let p : n < m = omega arith in p) (over-run (n + 1) w m (omega arith))

pub over-places : (n : ℕ) (ws : List ℕ) (m : ℕ) → n + total ws ≤ m → AreOver m (places_from n ws)
over-places n [] m h = tt
over-places n (w ∷ ws) m h = (over-run n w m (omega arith), over-places (n + w) ws m (omega arith))

pub like-places : (n : ℕ) (ws : List ℕ) → map length (places_from n ws) ≡ ws
like-places n [] = refl
like-places n (w ∷ ws) = rw (length-run n w, like-places (n + w) ws) refl

pub values-fit : (ws : List ℕ) (v : ℕ → Bool) → AreValues ws (input_values (places_from 0 ws) v)
values-fit ws v =
    let places = places_from 0 ws in
    record {
      count = length-map places (λ ls. number_of (bits_value v ls)) ∙ (sym (length-map places length) ∙ ap length (like-places 0 ws));
      fit = λ k h.
          let e : slice_index ws k ≡ length (bits_at places k) = ap (λ us. slice_index us k) (sym (like-places 0 ws)) ∙ width-at places k in
          rw (value-at v places k, e) (bits-small v (bits_at places k));
    }

-- ---- an assignment for given values

-- the bit of a number at a place
abbrev bit_at : ℕ → ℕ → Bool
bit_at x zero = x % 2 == 1
bit_at x (suc k) = bit_at (x / 2) k

run-spells : (v : ℕ → Bool) (n w x : ℕ) → ((k : ℕ) → k < w → v (n + k) ≡ bit_at x k) → x < 2 ^ w → number_of (bits_value v (run_from n w)) ≡ x
run-spells v n zero x h l = omega arith
run-spells v n (suc w) x h l =
    let first : v n ≡ (x % 2 == 1) = ap v (omega arith) ∙ h 0 (omega arith) in
    let half : x / 2 < 2 ^ w = omega (arith, two_pow w, div-add-mod x 2) in
    let rest = run-spells v (n + 1) w (x / 2) (λ k lt. (let e : n + 1 + k ≡ n + suc k = omega arith in ap v e) ∙ h (suc k) (omega arith)) half in
    rw (first, rest, bit-odd x) (omega (arith, div-add-mod x 2))

-- the values of the inputs' variables, and true after them
abbrev pub assigned : List ℕ → List ℕ → ℕ → Bool
assigned [] xs k = true
assigned (w ∷ ws) xs k = cond (nat_lt k w) (bit_at (slice_index xs 0) k) (assigned ws (drop 1 xs) (k - w))

assigned-first : (w : ℕ) (ws xs : List ℕ) (k : ℕ) → k < w → assigned (w ∷ ws) xs k ≡ bit_at (slice_index xs 0) k
assigned-first w ws xs k h = rw (lt-ltb k w h) refl

assigned-rest : (w : ℕ) (ws xs : List ℕ) (k : ℕ) → assigned (w ∷ ws) xs (w + k) ≡ assigned ws (drop 1 xs) k
assigned-rest w ws xs k = let e : w + k - w ≡ k = omega arith in rw (le-ltb (w + k) w (omega arith), e) refl

pub assigned-last : (ws xs : List ℕ) → assigned ws xs (total ws) ≡ true
assigned-last [] xs = refl
assigned-last (w ∷ ws) xs = assigned-rest w ws xs (total ws) ∙ assigned-last ws (drop 1 xs)

pub places-spell : (v : ℕ → Bool) (n : ℕ) (ws xs : List ℕ) → ((k : ℕ) → k < total ws → v (n + k) ≡ assigned ws xs k) → AreValues ws xs → input_values (places_from n ws) v ≡ xs
places-spell v n [] [] h a = refl
places-spell v n [] (x ∷ xs) h a = let e = a.count in absurd (omega arith)
places-spell v n (w ∷ ws) [] h a = let e = a.count in absurd (omega arith)
places-spell v n (w ∷ ws) (x ∷ xs) h a =
    let first = run-spells v n w x (λ k lt. h k (omega arith) ∙ assigned-first w ws (x ∷ xs) k lt) (a.fit 0 (omega arith)) in
    let rest = places-spell v (n + w) ws xs
    (λ k lt. (let e : n + w + k ≡ n + (w + k) = omega arith in ap v e) ∙ (h (w + k) (omega arith) ∙ assigned-rest w ws (x ∷ xs) k))
    (record { count = (let e = a.count in omega arith); fit = λ k lt. a.fit (suc k) (omega arith) }) in
    rw (first, rest) refl
