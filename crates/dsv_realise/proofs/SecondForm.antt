-- The two lines of both second forms, in nodes.
use Rattle.std.proofs.Common.{◌≡◌, ℕ, zero, suc, ◌+◌, ◌<◌, ◌≤◌, true, false, List, [], ◌∷◌, length, take, map, sym, ap, subst, ◌∙◌, arith}
use Rattle.std.proofs.Math.IntN.{ℤ}
use Rattle.std.proofs.lemmas.List.{length-take-le}
use Rattle.dsv_netlist.specs.Nodes.{at}
use Rattle.dsv_quantiser.specs.QuantisedView.{QuantisedView}
use Rattle.dsv_meaning.specs.declared.summands.Summand.{Summand}
use Rattle.dsv_meaning.specs.declared.summands.Summand.TheVariants.{Alone}
use Rattle.dsv_meaning.specs.Lines.{Sum}
use Rattle.dsv_meaning.specs.Equations.{line_of, order, feedback, ago, forward_summands, feedback_summands}
use Rattle.dsv_realise.specs.Netlists.{sources, newest_at, second_form_state, second_form}
use Rattle.dsv_realise.proofs.Samples.{Gives}
use Rattle.dsv_realise.proofs.LineNodes.{in_words, AreOver, in_words-summands, same_summands, over_summands, over_any_summands, length-summands}
use Rattle.dsv_realise.proofs.WideLines.{line_gives}
use Rattle.dsv_realise.proofs.Sources.{IsSized, sources_give, at_state}

-- w_0
abbrev pub state_sum : QuantisedView → ℤ → List ℤ → Sum
state_sum q x ws = line_of q [] (Alone x ∷ feedback_summands q (ago ws) 0)

-- y
abbrev pub second_sum : QuantisedView → ℤ → List ℤ → Sum
second_sum q x ws = line_of q (state_sum q x ws).exact (forward_summands q (ago ((state_sum q x ws).value ∷ ws)))

pub state_gives : (q : QuantisedView) (x : ℤ) (ws : List ℤ) → IsSized q → order q ≤ length ws
    → Gives q.format (take (order q) ws) x (x ∷ take (order q) ws) (second_form_state q) (state_sum q x ws)
state_gives q x ws s h =
    let f = q.format in
    let n = order q in
    let rs = take n ws in
    let vs = x ∷ rs in
    let as_ = feedback_summands q (λ (i : ℕ). i) 1 in
    let lr : length rs ≡ n = length-take-le n ws h in
    let made = line_gives q rs x (sources n) vs [] (Alone 0 ∷ as_) (omega arith) (sources_give f rs x n lr) (omega arith, over_summands (length vs) true (feedback q) 1 (omega (arith, s.back))) in
    let e : map (in_words vs) as_ ≡ feedback_summands q (ago ws) 0 =
    in_words-summands vs true (feedback q) (λ (i : ℕ). i) 1
    ∙ same_summands true (feedback q) (at vs) (ago ws) 1 0 (λ i l. let z : i ≡ 0 + i = omega arith in at_state n i x ws (omega (arith, s.back)) ∙ ap (ago ws) z) in
    subst (λ (ts : List (Summand ℤ)). Gives f rs x vs (second_form_state q) (line_of q [] (Alone x ∷ ts))) e made

newest_words : (n : ℕ) (ws : List ℤ) (x : ℤ) (now : List ℤ) (w : ℤ) (p : ℕ) → length (take n ws) ≡ n → at now p ≡ w → ((i : ℕ) → i < length (x ∷ take n ws) → at now i ≡ at (x ∷ take n ws) i)
    → (i : ℕ) → i < n + 1 → at now (newest_at p i) ≡ ago (w ∷ ws) i
newest_words n ws x now w p l e k zero h = e
newest_words n ws x now w p l e k (suc i) h = let z : 1 + i ≡ suc i = omega arith in k (suc i) (omega arith) ∙ ap (at (x ∷ take n ws)) (sym z) ∙ at_state n i x ws (omega arith)

newest_over : (p n m i : ℕ) → p < m → n < m → i < n + 1 → newest_at p i < m
newest_over p n m zero h k l = h
newest_over p n m (suc i) h k l = omega arith

pub second_gives : (q : QuantisedView) (x : ℤ) (ws : List ℤ) → IsSized q → order q ≤ length ws → (g : Gives q.format (take (order q) ws) x (x ∷ take (order q) ws) (second_form_state q) (state_sum q x ws))
    → Gives q.format (take (order q) ws) x g.now (second_form q) (second_sum q x ws)
second_gives q x ws s h g =
    let f = q.format in
    let n = order q in
    let rs = take n ws in
    let lr : length rs ≡ n = length-take-le n ws h in
    let w = state_sum q x ws in
    let p = (second_form_state q).place in
    let ids = newest_at p in
    let newest : (i : ℕ) → i < n + 1 → at g.now (ids i) ≡ ago (w.value ∷ ws) i = newest_words n ws x g.now w.value p lr g.value g.keeps.old in
    let bs = forward_summands q ids in
    let o : AreOver (length g.now) bs = over_any_summands (length g.now) false q.b ids 0 (λ i l. newest_over p n (length g.now) (0 + i) g.within (omega (arith, g.keeps.longer)) (omega (arith, s.forward))) in
    let some : 0 < length bs = omega (arith, s.forward, length-summands false q.b ids 0) in
    let made = line_gives q rs x (second_form_state q).nodes g.now w.exact bs some g.stands o in
    let e : map (in_words g.now) bs ≡ forward_summands q (ago (w.value ∷ ws)) = in_words-summands g.now false q.b ids 0 ∙ same_summands false q.b (λ i. at g.now (ids i)) (ago (w.value ∷ ws)) 0 0 (λ i l. newest (0 + i) (omega (arith, s.forward))) in
    subst (λ (ts : List (Summand ℤ)). Gives f rs x g.now (second_form q) (line_of q w.exact ts)) e made
