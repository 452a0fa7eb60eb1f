-- The table of repeated synthetic divisions.
use Rattle.std.proofs.Common.{◌≡◌, ℕ, zero, suc, ◌+◌, ◌-◌, ◌^◌, ◌<◌, ◌≤◌, ◌⊎◌, inl, inr, List, [], ◌∷◌, ◌++◌, length, take, drop, get_or, refl, sym, ap, ◌∙◌, arith}
use Rattle.std.proofs.Math.IntN.{ℤ, pos, ◌+ℤ◌, ◌*ℤ◌}
use Rattle.std.proofs.lemmas.Int.{ints}
use Rattle.dsv_algebra.specs.Vectors.{Vector, sum_to, vector_of}
use Rattle.dsv_algebra.proofs.Sums.{sum_same, sum_add, sum_first}
use Rattle.dsv_algebra.proofs.Normaliser.{ring, env, var, num, plus, times}
use Rattle.std.proofs.Math.IntN.{+ℤ_idl}
use Rattle.std.proofs.Math.ListN.{get_or-append}
use Rattle.std.proofs.Math.Seq.{take-length}
use Rattle.std.proofs.lemmas.List.{length-take-le, length-append, length-drop, take-append-le, get_or-take, get_or-drop, get_or-append_right}
use Rattle.dsv_delta.specs.Binomials.{choose, binomial_sum, weight}
use Rattle.dsv_delta.specs.Running.{running_sums}
use Rattle.dsv_delta.proofs.Weights.{length-running, lighter}

-- the numbers after k divisions
abbrev pub table : Vector → ℕ → Vector
table n zero j = n j
table n (suc k) j = sum_to (suc j) (table n k)

-- the same by binomials
abbrev column : Vector → ℕ → Vector
column n k j = sum_to (suc j) (λ i. n i *ℤ pos (choose (j - i + k) k))

times_one : (n : ℤ) → n *ℤ pos 1 ≡ n
times_one n = ring (env (n ∷ [])) (times (var 0) (num (pos 1))) (var 0) refl

pub choose_none : (n : ℕ) → choose n 0 ≡ 1
choose_none zero = refl
choose_none (suc n) = refl

pub choose_over : (n k : ℕ) → n < k → choose n k ≡ 0
choose_over n zero h = absurd (omega arith)
choose_over zero (suc k) h = refl
choose_over (suc n) (suc k) h = omega (arith, choose_over n k (omega arith), choose_over n (suc k) (omega arith))

pub choose_all : (n : ℕ) → choose n n ≡ 1
choose_all zero = refl
choose_all (suc n) = omega (arith, choose_all n, choose_over n (suc n) (omega arith))

first_column : (n : Vector) (j : ℕ) → column n zero j ≡ sum_to (suc j) n
first_column n j = sum_same (suc j) (λ i. n i *ℤ pos (choose (j - i + 0) 0)) n (λ i h. ap (λ c. n i *ℤ pos c) (choose_none (j - i + 0)) ∙ times_one (n i))

-- the two numbers above one of Pascal's triangle
rule : (i j k : ℕ) → i ≤ j → choose (suc j - i + suc k) (suc k) ≡ choose (j - i + suc k) (suc k) + choose (suc j - i + k) k
rule i j k h =
    let e : suc j - i + suc k ≡ suc (j - i + suc k) = omega arith in
    let f : suc j - i + k ≡ j - i + suc k = omega arith in
    ap (λ m. choose m (suc k)) e ∙ rw f (omega arith)

spread : (n : ℤ) (a b c : ℕ) → a ≡ b + c → n *ℤ pos a ≡ n *ℤ pos b +ℤ n *ℤ pos c
spread n a b c e = ap (λ t. n *ℤ pos t) e ∙ ring (env (n ∷ pos b ∷ pos c ∷ [])) (times (var 0) (plus (var 1) (var 2))) (plus (times (var 0) (var 1)) (times (var 0) (var 2))) refl

last_one : (n : ℤ) (j k : ℕ) → n *ℤ pos (choose (j - j + k) k) ≡ n
last_one n j k = let e : j - j + k ≡ k = omega arith in ap (λ m. n *ℤ pos (choose m k)) e ∙ ap (λ c. n *ℤ pos c) (choose_all k) ∙ times_one n

-- Pascal's rule, summed
pascal : (n : Vector) (k j : ℕ) → column n (suc k) (suc j) ≡ column n (suc k) j +ℤ column n k (suc j)
pascal n k j =
    let f : Vector = λ i. n i *ℤ pos (choose (suc j - i + suc k) (suc k)) in
    let g : Vector = λ i. n i *ℤ pos (choose (j - i + suc k) (suc k)) in
    let h : Vector = λ i. n i *ℤ pos (choose (suc j - i + k) k) in
    let prefixes : sum_to (suc j) f ≡ sum_to (suc j) g +ℤ sum_to (suc j) h =
    sum_same (suc j) f (λ i. g i +ℤ h i) (λ i less. spread (n i) _ _ _ (rule i j k (omega arith))) ∙ sum_add (suc j) g h in
    let a = last_one (n (suc j)) (suc j) (suc k) in
    let b = last_one (n (suc j)) (suc j) k in
    omega (arith, ints, prefixes, a, b)

next_column : (n : Vector) (k j : ℕ) → sum_to (suc j) (column n k) ≡ column n (suc k) j
next_column n k zero = let a = last_one (n 0) 0 k in let b = last_one (n 0) 0 (suc k) in omega (arith, ints, a, b)
next_column n k (suc j) = ap (λ s. s +ℤ column n k (suc j)) (next_column n k j) ∙ sym (pascal n k j)

pub table_is : (n : Vector) (k j : ℕ) → table n (suc k) j ≡ column n k j
table_is n zero j = sym (first_column n j)
table_is n (suc k) j = sum_same (suc j) (table n (suc k)) (column n k) (λ i h. table_is n k i) ∙ next_column n k j

pub sums_are : (n : Vector) (total j : ℕ) → j < total → table n (total - j) j ≡ binomial_sum (total - 1) n j
sums_are n total j h =
    let e : total - j ≡ suc (total - 1 - j) = omega arith in
    ap (λ k. table n k j) e ∙ table_is n (total - 1 - j) j
    ∙ sum_same (suc j) (λ i. n i *ℤ pos (choose (j - i + (total - 1 - j)) (total - 1 - j))) (λ i. n i *ℤ pos (choose (total - 1 - i) (total - 1 - j)))
    (λ i less. let same : j - i + (total - 1 - j) ≡ total - 1 - i = omega arith in ap (λ m. n i *ℤ pos (choose m (total - 1 - j))) same)

-- ---- one division
pub running_at : (carry : ℤ) (ns : List ℤ) (j : ℕ) → j < length ns → get_or (running_sums carry ns) j (pos 0) ≡ carry +ℤ sum_to (suc j) (vector_of ns)
running_at carry [] j h = absurd (omega arith)
running_at carry (n ∷ ns) zero h = omega (arith, ints)
running_at carry (n ∷ ns) (suc j) h =
    let rest = running_at (carry +ℤ n) ns j (omega arith) in
    let parted = sum_first (suc j) (vector_of (n ∷ ns)) in
    omega (arith, ints, rest, parted)

-- len numbers in front are left to divide, and those after them are done
pub record AreDivided (ns : List ℤ) (len : ℕ) (now : List ℤ) : Type 0 where
  pub places : length now ≡ length ns
  pub left : len ≤ length ns
  pub small : weight (take len now) < 2 ^ 126
  pub front : (j : ℕ) → j < len → get_or now j (pos 0) ≡ table (vector_of ns) (length ns - len) j
  pub back : (j : ℕ) → len ≤ j → j < length ns → get_or now j (pos 0) ≡ table (vector_of ns) (length ns - j) j

pub not_yet : (ns : List ℤ) (len : ℕ) → len ≡ length ns → weight ns < 2 ^ 126 → AreDivided ns len ns
not_yet ns len e small = record {
  places = refl;
  left = omega arith;
  small = rw (e, take-length ns) small;
  front = λ j h. let none : length ns - len ≡ 0 = omega arith in rw none refl;
  back = λ j h k. absurd (omega arith);
}

-- a number in front after one division more
divided_prefix : (ns now : List ℤ) (len j : ℕ) → AreDivided ns len now → j < len
    → get_or (running_sums (pos 0) (take len now) ++ drop len now) j (pos 0) ≡ table (vector_of ns) (suc (length ns - len)) j
divided_prefix ns now len j is h =
    let long : length (take len now) ≡ len = length-take-le len now (omega (arith, is.places, is.left)) in
    let less : j < length (running_sums (pos 0) (take len now)) = omega (arith, length-running (pos 0) (take len now)) in
    get_or-append (running_sums (pos 0) (take len now)) (drop len now) (pos 0) j less
    ∙ running_at (pos 0) (take len now) j (omega arith)
    ∙ +ℤ_idl (sum_to (suc j) (vector_of (take len now)))
    ∙ sum_same (suc j) (vector_of (take len now)) (table (vector_of ns) (length ns - len)) (λ i k. get_or-take len now i (pos 0) (omega arith) ∙ is.front i (omega arith))

last_or_after : (j len : ℕ) → len - 1 ≤ j → (j < len) ⊎ (len ≤ j)
last_or_after j len h = grind arith

pub one_more : (ns now : List ℤ) (len : ℕ) → AreDivided ns len now → 0 < len → AreDivided ns (len - 1) (running_sums (pos 0) (take len now) ++ drop len now)
one_more ns now len is some =
    let long : length (take len now) ≡ len = length-take-le len now (omega (arith, is.places, is.left)) in
    let made : length (running_sums (pos 0) (take len now)) ≡ len = length-running (pos 0) (take len now) ∙ long in
    record {
      places = omega (arith, length-append (running_sums (pos 0) (take len now)) (drop len now), length-drop len now, is.places, is.left);
      left = omega (arith, is.left);
      small =
          let less : len - 1 ≤ length (running_sums (pos 0) (take len now)) = omega arith in
          let e = take-append-le (len - 1) (running_sums (pos 0) (take len now)) (drop len now) less in
          let f = ap (λ k. weight (take (k - 1) (running_sums (pos 0) (take len now)))) long in
          omega (arith, is.small, lighter (take len now), ap weight e, f);
      front = λ j h.
          let one : length ns - (len - 1) ≡ suc (length ns - len) = omega (arith, is.left) in
          divided_prefix ns now len j is (omega arith) ∙ ap (λ k. table (vector_of ns) k j) (sym one);
      back = λ j h k.
          elim (last_or_after j len h) [
            | inl last ↦
                let one : suc (length ns - len) ≡ length ns - j = omega arith in
                divided_prefix ns now len j is last ∙ ap (λ k. table (vector_of ns) k j) one
            | inr after ↦
                let at : len + (j - len) ≡ j = omega arith in
                get_or-append_right (running_sums (pos 0) (take len now)) (drop len now) len j (pos 0) made after
                ∙ get_or-drop len now (j - len) (pos 0) ∙ ap (λ m. get_or now m (pos 0)) at ∙ is.back j after k
          ];
    }

pub all_done : (ns now : List ℤ) (len : ℕ) → AreDivided ns len now → len ≡ 0 → (j : ℕ) → j < length ns → get_or now j (pos 0) ≡ binomial_sum (length ns - 1) (vector_of ns) j
all_done ns now len is none j h = is.back j (omega arith) h ∙ sums_are (vector_of ns) (length ns) j h
