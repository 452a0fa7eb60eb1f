-- The first nodes of a sample, and the lines that two realisations share.
use Rattle.std.proofs.Common.{◌≡◌, ℕ, zero, suc, ◌+◌, ◌<◌, ◌≤◌, true, false, List, [], ◌∷◌, ◌++◌, length, take, map, refl, ap, subst, ◌∙◌, arith, add-zero}
use Rattle.std.proofs.Math.IntN.{ℤ, ◌*ℤ◌}
use Rattle.std.proofs.lemmas.List.{length-take-le, map-append}
use Rattle.dsv_netlist.specs.Nodes.{at}
use Rattle.dsv_quantiser.specs.QuantisedView.{QuantisedView}
use Rattle.dsv_meaning.specs.declared.summands.Summand.{Summand}
use Rattle.dsv_meaning.specs.declared.summands.Summand.TheVariants.{Alone}
use Rattle.dsv_meaning.specs.Lines.{summands}
use Rattle.dsv_meaning.specs.Equations.{order, feedback, ago, first_alone, forward_summands, feedback_summands, transposed_output}
use Rattle.dsv_realise.specs.Netlists.{count, registers_from, sources, newest_at, first_form, second_form_state, second_form, transposed_form}
use Rattle.dsv_realise.proofs.Sources.{IsSized, counted_all, at_input, at_output, at_state}
use Rattle.dsv_realise.proofs.LineNodes.{in_words, in_words-summands, same_summands}
use Rattle.dsv_realise.proofs.Chains.{alone_words}
use Rattle.dsv_realise.proofs.FirstForm.{pair, first_line}
use Rattle.dsv_roundoff.specs.Written.{IsLine}
use Rattle.dsv_roundoff.proofs.ExactSamples.{ExactSample, value_of, AllHold}
use Rattle.dsv_roundoff.proofs.ExactLines.{IsProper, line_holds}
use Rattle.dsv_roundoff.proofs.ExactChains.{values_at}

-- the input over the denominator
abbrev pub input_of : ExactSample → ℤ
input_of s = s.scale *ℤ s.input

-- ---- the first nodes
registers_hold : (s : ExactSample) (k j n : ℕ) → AllHold s k (registers_from j n) → (i : ℕ) → i < n → value_of s (k + i) ≡ at s.registers (j + i)
registers_hold s k j zero h i l = absurd (omega arith)
registers_hold s k j (suc n) h zero l = rw (add-zero k, add-zero j) h.0
registers_hold s k j (suc n) h (suc i) l =
    let e : k + suc i ≡ k + 1 + i = omega arith in
    let d : j + 1 + i ≡ j + suc i = omega arith in
    ap (value_of s) e ∙ registers_hold s (k + 1) (j + 1) n h.1 i (omega arith) ∙ ap (at s.registers) d

sources_hold : (s : ExactSample) (n : ℕ) → AllHold s 0 (sources n) → (i : ℕ) → i < n + 1 → value_of s i ≡ at (input_of s ∷ s.registers) i
sources_hold s n h zero l = h.0
sources_hold s n h (suc i) l =
    let e : suc i ≡ 0 + 1 + i = omega arith in
    let d : 0 + i ≡ i = omega arith in
    ap (value_of s) e ∙ registers_hold s (0 + 1) 0 n h.1 i (omega arith) ∙ ap (at s.registers) d

-- ---- proper lines
proper_summands : {A : Type 0} → (bs : List ℤ) (g : ℕ → A) (k : ℕ) (us : List (Summand A)) → 0 < length bs → IsProper (summands false bs g k ++ us)
proper_summands [] g k us l = absurd (omega arith)
proper_summands (b ∷ bs) g k us l = tt

proper_forward : {A : Type 0} → (bs : List ℤ) (g : ℕ → A) (k : ℕ) → 0 < length bs → IsProper (summands false bs g k)
proper_forward [] g k l = absurd (omega arith)
proper_forward (b ∷ bs) g k l = tt

proper_state : {A : Type 0} → (a : A) (cs : List ℤ) (g : ℕ → A) (k : ℕ) → IsProper (Alone a ∷ summands true cs g k)
proper_state a [] g k = tt
proper_state a (c ∷ cs) g k = tt

-- ---- the line of both first forms
pub record HoldsFirst (q : QuantisedView) (s : ExactSample) (xs ys : List ℤ) : Type 0 where
  pub front : (i : ℕ) → i < order q + 1 → value_of s i ≡ ago (input_of s ∷ xs) i
  pub back : (j : ℕ) → j < order q → value_of s (order q + 1 + j) ≡ ago ys j
  pub is : IsLine s.format (first_line q (input_of s) xs ys) (value_of s (first_form q).place)

first_words : (q : QuantisedView) (vs : List ℤ) (x : ℤ) (xs ys : List ℤ) → IsSized q → ((i : ℕ) → i < order q + 1 → at vs i ≡ ago (x ∷ xs) i) → ((j : ℕ) → j < order q → at vs (order q + 1 + j) ≡ ago ys j)
    → map (in_words vs) (forward_summands q (λ i. i) ++ feedback_summands q (λ i. i) (order q + 1)) ≡ first_line q x xs ys
first_words q vs x xs ys z front back =
    let n = order q in
    let id : ℕ → ℕ = λ i. i in
    let bs = forward_summands q id in
    let as_ = feedback_summands q id (n + 1) in
    map-append (in_words vs) bs as_
    ∙ ap (λ (ts : List (Summand ℤ)). ts ++ map (in_words vs) as_) (in_words-summands vs false q.b id 0 ∙ same_summands false q.b (at vs) (ago (x ∷ xs)) 0 0 (λ i l. front (0 + i) (omega (arith, z.forward))))
    ∙ ap (λ (ts : List (Summand ℤ)). summands false q.b (ago (x ∷ xs)) 0 ++ ts) (in_words-summands vs true (feedback q) id (n + 1) ∙ same_summands true (feedback q) (at vs) (ago ys) (n + 1) 0 (λ j l. let e : j ≡ 0 + j = omega arith in back j (omega (arith, z.back)) ∙ ap (ago ys) e))

pub first_form_holds : (q : QuantisedView) (s : ExactSample) (xs ys : List ℤ) → IsSized q → order q ≤ length xs → order q ≤ length ys → s.registers ≡ pair q xs ys → AllHold s 0 (first_form q).nodes → HoldsFirst q s xs ys
first_form_holds q s xs ys z lx ly e h =
    let n = order q in
    let x = input_of s in
    let id : ℕ → ℕ = λ i. i in
    let ts = forward_summands q id ++ feedback_summands q id (n + 1) in
    let g = line_holds q s (sources (n + n)) ts (proper_summands q.b id 0 (feedback_summands q id (n + 1)) (omega (arith, z.forward))) h in
    let known = λ (i : ℕ) (l : i < n + n + 1). sources_hold s (n + n) g.before i l ∙ ap (λ (rs : List ℤ). at (x ∷ rs) i) e in
    let front : (i : ℕ) → i < n + 1 → value_of s i ≡ ago (x ∷ xs) i = λ i l. known i (omega arith) ∙ at_input n i x xs (take n ys) lx l in
    let back : (j : ℕ) → j < n → value_of s (n + 1 + j) ≡ ago ys j = λ j l. known (n + 1 + j) (omega arith) ∙ at_output n j x xs ys lx l in
    record {
      front = front;
      back = back;
      is = subst (λ (us : List (Summand ℤ)). IsLine s.format us (value_of s (first_form q).place)) (first_words q s.values x xs ys z front back) g.is;
    }

-- ---- the two lines of both second forms
pub record HoldsSecond (q : QuantisedView) (s : ExactSample) (ws : List ℤ) : Type 0 where
  pub old : (j : ℕ) → j < order q → value_of s (1 + j) ≡ ago ws j
  pub state : IsLine s.format (Alone (input_of s) ∷ feedback_summands q (ago ws) 0) (value_of s (second_form_state q).place)
  pub is : IsLine s.format (forward_summands q (ago (value_of s (second_form_state q).place ∷ ws))) (value_of s (second_form q).place)

newest_values : (q : QuantisedView) (s : ExactSample) (ws : List ℤ) (p : ℕ) → ((j : ℕ) → j < order q → value_of s (1 + j) ≡ ago ws j) → (i : ℕ) → i < order q + 1 → value_of s (newest_at p i) ≡ ago (value_of s p ∷ ws) i
newest_values q s ws p old zero l = refl
newest_values q s ws p old (suc i) l = let e : suc i ≡ 1 + i = omega arith in ap (value_of s) e ∙ old i (omega arith)

pub second_form_holds : (q : QuantisedView) (s : ExactSample) (ws : List ℤ) → IsSized q → s.registers ≡ take (order q) ws → AllHold s 0 (second_form q).nodes → HoldsSecond q s ws
second_form_holds q s ws z e h =
    let n = order q in
    let x = input_of s in
    let vs = s.values in
    let id : ℕ → ℕ = λ i. i in
    let w = second_form_state q in
    let ids = newest_at w.place in
    let g = line_holds q s w.nodes (forward_summands q ids) (proper_forward q.b ids 0 (omega (arith, z.forward))) h in
    let k = line_holds q s (sources n) (Alone 0 ∷ feedback_summands q id 1) (proper_state 0 (feedback q) id 1) g.before in
    let known = λ (i : ℕ) (l : i < n + 1). sources_hold s n k.before i l ∙ ap (λ (rs : List ℤ). at (x ∷ rs) i) e in
    let old : (j : ℕ) → j < n → value_of s (1 + j) ≡ ago ws j = λ j l. known (1 + j) (omega arith) ∙ at_state n j x ws l in
    let zeroth : value_of s 0 ≡ x = known 0 (omega arith) in
    let fed : map (in_words vs) (feedback_summands q id 1) ≡ feedback_summands q (ago ws) 0 =
    in_words-summands vs true (feedback q) id 1 ∙ same_summands true (feedback q) (at vs) (ago ws) 1 0 (λ i l. let d : i ≡ 0 + i = omega arith in old i (omega (arith, z.back)) ∙ ap (ago ws) d) in
    let lines : map (in_words vs) (Alone 0 ∷ feedback_summands q id 1) ≡ Alone x ∷ feedback_summands q (ago ws) 0 =
    ap (λ (u : ℤ). Alone u ∷ map (in_words vs) (feedback_summands q id 1)) zeroth ∙ ap (λ (us : List (Summand ℤ)). Alone x ∷ us) fed in
    let newest : map (in_words vs) (forward_summands q ids) ≡ forward_summands q (ago (value_of s w.place ∷ ws)) =
    in_words-summands vs false q.b ids 0 ∙ same_summands false q.b (λ i. at vs (ids i)) (ago (value_of s w.place ∷ ws)) 0 0 (λ i l. newest_values q s ws w.place old (0 + i) (omega (arith, z.forward))) in
    record {
      old = old;
      state = subst (λ (us : List (Summand ℤ)). IsLine s.format us (value_of s w.place)) lines k.is;
      is = subst (λ (us : List (Summand ℤ)). IsLine s.format us (value_of s (second_form q).place)) newest g.is;
    }

-- ---- the first line of both transposed forms
pub record HoldsTransposed (q : QuantisedView) (s : ExactSample) : Type 0 where
  pub input : value_of s 0 ≡ input_of s
  pub old : values_at s (count 1 (order q)) ≡ s.registers
  pub is : IsLine s.format (transposed_output q (input_of s) s.registers) (value_of s (transposed_form q).place)

-- the registers of a realisation that has N
registers_stand : (s : ExactSample) (n : ℕ) → length s.registers ≡ n → AllHold s 0 (sources n) → values_at s (count 1 n) ≡ s.registers
registers_stand s n l h = counted_all (at s.values) 1 n s.registers l (λ i m. let e : 1 + i ≡ suc i = omega arith in sources_hold s n h (1 + i) (omega arith) ∙ ap (at (input_of s ∷ s.registers)) e)

pub transposed_form_holds : (q : QuantisedView) (s : ExactSample) → IsSized q → length s.registers ≡ order q → AllHold s 0 (transposed_form q).nodes → HoldsTransposed q s
transposed_form_holds q s z l h =
    let n = order q in
    let x = input_of s in
    let vs = s.values in
    let ks = count 1 n in
    let zeroth : ℕ → ℕ = λ i. 0 in
    let lt : length (take 1 q.b) ≡ 1 = length-take-le 1 q.b (omega (arith, z.forward)) in
    let g = line_holds q s (sources n) (transposed_output q 0 ks) (proper_summands (take 1 q.b) zeroth 0 (first_alone ks) (omega (arith, lt))) h in
    let input : value_of s 0 ≡ x = sources_hold s n g.before 0 (omega arith) in
    let old = registers_stand s n l g.before in
    let line : map (in_words vs) (transposed_output q 0 ks) ≡ transposed_output q x s.registers =
    map-append (in_words vs) (summands false (take 1 q.b) zeroth 0) (first_alone ks)
    ∙ ap (λ (us : List (Summand ℤ)). us ++ map (in_words vs) (first_alone ks)) (in_words-summands vs false (take 1 q.b) zeroth 0 ∙ same_summands false (take 1 q.b) (λ (i : ℕ). value_of s 0) (λ (i : ℕ). x) 0 0 (λ i m. input))
    ∙ ap (λ (us : List (Summand ℤ)). summands false (take 1 q.b) (λ (i : ℕ). x) 0 ++ us) (alone_words vs ks ∙ ap first_alone old) in
    record { input = input; old = old; is = subst (λ (us : List (Summand ℤ)). IsLine s.format us (value_of s (transposed_form q).place)) line g.is }
