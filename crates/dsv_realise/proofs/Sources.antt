-- The nodes that every netlist begins with, and the words in registers.
use Rattle.std.proofs.Common.{◌≡◌, ℕ, zero, suc, ◌+◌, ◌-◌, ◌<◌, ◌≤◌, List, [], ◌∷◌, ◌++◌, length, take, drop, map, refl, sym, ap, ◌∙◌, arith, add-zero, append_assoc, length-drop}
use Rattle.std.proofs.Math.IntN.{ℤ, pos}
use Rattle.std.proofs.lemmas.List.{append-nil, drop_more, drop_all, get_or_append_left, get_or-append_right, get_or-take, length-take-le, take_all}
use Rattle.dsv_word.specs.declared.format.Format.{Format}
use Rattle.dsv_netlist.specs.Nodes.{at, Sample, sample_from}
use Rattle.dsv_quantiser.specs.QuantisedView.{QuantisedView, IsQuantisedView}
use Rattle.dsv_meaning.specs.Equations.{order, feedback, ago}
use Rattle.dsv_realise.specs.Netlists.{count, shift, registers_from, sources}
use Rattle.dsv_realise.proofs.Samples.{IsAt}

-- how many coefficients there are
pub record IsSized (q : QuantisedView) : Type 0 where
  pub forward : length q.b ≡ order q + 1
  pub back : length (feedback q) ≡ order q

pub sized : (q : QuantisedView) → IsQuantisedView q → IsSized q
sized q h = record { forward = omega (arith, h.one_length, h.some); back = length-drop 1 q.a }

registers_give : (f : Format) (rs : List ℤ) (x : ℤ) (k m : ℕ) (vs : List ℤ) → length rs ≡ k + m → sample_from f rs x (registers_from k m) (record { values = vs; exact = [] }) ≡ record { values = vs ++ drop k rs; exact = [] }
registers_give f rs x k zero vs l = rw (drop_all k rs (omega arith), append-nil) refl
registers_give f rs x k (suc m) vs l =
    let i = registers_give f rs x (k + 1) m (vs ++ at rs k ∷ []) (omega arith) in
    let e : vs ++ at rs k ∷ [] ++ drop (k + 1) rs ≡ vs ++ drop k rs = append_assoc vs (at rs k ∷ []) (drop (k + 1) rs) ∙ ap (λ (w : List ℤ). vs ++ w) (sym (drop_more rs k (pos 0) (omega arith))) in
    i ∙ ap (λ (w : List ℤ). record { values = w; exact = [] }) e

-- the first nodes have the input and the registers
pub sources_give : (f : Format) (rs : List ℤ) (x : ℤ) (n : ℕ) → length rs ≡ n → IsAt f rs x (sources n) (x ∷ rs) []
sources_give f rs x n l =
    let e = registers_give f rs x 0 n (x ∷ []) (omega arith) in
    record { values = ap (λ (s : Sample). s.values) e; exact = ap (λ (s : Sample). s.exact) e }

-- the nodes' numbers, in a row, are a signal's words
pub counted : (g : ℕ → ℤ) (k n : ℕ) (l : List ℤ) → n ≤ length l → ((i : ℕ) → i < n → g (k + i) ≡ ago l i) → map g (count k n) ≡ take n l
counted g k zero l h e = refl
counted g k (suc n) [] h e = absurd (omega arith)
counted g k (suc n) (w ∷ ws) h e =
    let e0 : g k ≡ w = ap g (sym (add-zero k)) ∙ e 0 (omega arith) in
    let es : map g (count (k + 1) n) ≡ take n ws = counted g (k + 1) n ws (omega arith) (λ i l. let p : k + 1 + i ≡ k + suc i = omega arith in ap g p ∙ e (suc i) (omega arith)) in
    rw (e0, es) refl

-- and all of them, where there are as many
pub counted_all : (g : ℕ → ℤ) (k n : ℕ) (l : List ℤ) → length l ≡ n → ((i : ℕ) → i < n → g (k + i) ≡ ago l i) → map g (count k n) ≡ l
counted_all g k n l h e = counted g k n l (omega arith) e ∙ take_all n l (omega arith)

-- a new word first, then the words from node k on
pub shifted_words : (n : ℕ) (g : ℕ → ℤ) (i : ℕ) (y : ℤ) (k : ℕ) (ys : List ℤ) → g i ≡ y → n ≤ length ys → ((j : ℕ) → j < n → g (k + j) ≡ ago ys j) → map g (shift i k n) ≡ take n (y ∷ ys)
shifted_words zero g i y k ys e h f = refl
shifted_words (suc n) g i y k ys e h f =
    let c : map g (count k n) ≡ take n ys = counted g k n ys (omega arith) (λ j l. f j (omega arith)) in
    rw (e, c) refl

-- ---- the words of registers
pub at_input : (n i : ℕ) (x : ℤ) (xs ys : List ℤ) → n ≤ length xs → i < n + 1 → at (x ∷ (take n xs ++ ys)) i ≡ ago (x ∷ xs) i
at_input n zero x xs ys h l = refl
at_input n (suc i) x xs ys h l =
    let t : length (take n xs) ≡ n = length-take-le n xs h in
    get_or_append_left (take n xs) ys (pos 0) i (omega arith) ∙ get_or-take n xs i (pos 0) (omega arith)

pub at_output : (n j : ℕ) (x : ℤ) (xs ys : List ℤ) → n ≤ length xs → j < n → at (x ∷ (take n xs ++ take n ys)) (n + 1 + j) ≡ ago ys j
at_output n j x xs ys h l =
    let t : length (take n xs) ≡ n = length-take-le n xs h in
    let p : n + 1 + j ≡ suc (n + j) = omega arith in
    let m : n + j - n ≡ j = omega arith in
    ap (at (x ∷ (take n xs ++ take n ys))) p ∙ get_or-append_right (take n xs) (take n ys) n (n + j) (pos 0) t (omega arith) ∙ ap (at (take n ys)) m ∙ get_or-take n ys j (pos 0) l

pub at_state : (n i : ℕ) (x : ℤ) (ws : List ℤ) → i < n → at (x ∷ take n ws) (1 + i) ≡ ago ws i
at_state n i x ws l = let p : 1 + i ≡ suc i = omega arith in ap (at (x ∷ take n ws)) p ∙ get_or-take n ws i (pos 0) l

-- ---- numbers of nodes that are there
abbrev pub AreBelow : ℕ → List ℕ → Type 0
AreBelow n [] = Unit {0}
AreBelow n (k ∷ ks) = (k < n) × AreBelow n ks

pub below_more : (n m : ℕ) (ks : List ℕ) → n ≤ m → AreBelow n ks → AreBelow m ks
below_more n m [] l h = tt
below_more n m (k ∷ ks) l h = (omega (arith, h.0), below_more n m ks l h.1)

pub below_push : (n : ℕ) (ks : List ℕ) (k : ℕ) → AreBelow n ks → k < n → AreBelow n (ks ++ k ∷ [])
below_push n [] k h l = (l, tt)
below_push n (j ∷ js) k h l = (h.0, below_push n js k h.1 l)

pub below_drop : (n : ℕ) (ks : List ℕ) → AreBelow n ks → AreBelow n (drop 1 ks)
below_drop n [] h = tt
below_drop n (k ∷ ks) h = h.1

pub below_count : (n k m : ℕ) → k + m ≤ n → AreBelow n (count k m)
below_count n k zero h = tt
below_count n k (suc m) h = (omega arith, below_count n (k + 1) m (omega arith))
