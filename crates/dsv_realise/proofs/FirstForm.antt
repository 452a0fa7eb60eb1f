-- The line of both first forms, in nodes.
use Rattle.std.proofs.Common.{◌≡◌, ℕ, ◌+◌, ◌<◌, ◌≤◌, true, false, List, [], ◌∷◌, ◌++◌, length, take, map, ap, subst, ◌∙◌, arith, length-append}
use Rattle.std.proofs.Math.IntN.{ℤ}
use Rattle.std.proofs.lemmas.List.{length-take-le, map-append}
use Rattle.dsv_netlist.specs.Nodes.{at}
use Rattle.dsv_quantiser.specs.QuantisedView.{QuantisedView}
use Rattle.dsv_meaning.specs.declared.summands.Summand.{Summand}
use Rattle.dsv_meaning.specs.Lines.{Sum, summands}
use Rattle.dsv_meaning.specs.Equations.{line_of, order, feedback, ago, forward_summands, feedback_summands}
use Rattle.dsv_realise.specs.Netlists.{sources, first_form}
use Rattle.dsv_realise.proofs.Samples.{Gives}
use Rattle.dsv_realise.proofs.LineNodes.{in_words, AreOver, in_words-summands, same_summands, over_summands, over_both, length-summands}
use Rattle.dsv_realise.proofs.WideLines.{line_gives}
use Rattle.dsv_realise.proofs.Sources.{IsSized, sources_give, at_input, at_output}

-- the registers: x_1 to x_N, then y_1 to y_N
abbrev pub pair : QuantisedView → List ℤ → List ℤ → List ℤ
pair q xs ys = take (order q) xs ++ take (order q) ys

abbrev pub first_line : QuantisedView → ℤ → List ℤ → List ℤ → List (Summand ℤ)
first_line q x xs ys = forward_summands q (ago (x ∷ xs)) ++ feedback_summands q (ago ys) 0

abbrev pub first_sum : QuantisedView → ℤ → List ℤ → List ℤ → Sum
first_sum q x xs ys = line_of q [] (first_line q x xs ys)

pub pair-length : (q : QuantisedView) (xs ys : List ℤ) → order q ≤ length xs → order q ≤ length ys → length (pair q xs ys) ≡ order q + order q
pair-length q xs ys h k = omega (arith, length-take-le (order q) xs h, length-take-le (order q) ys k, length-append (take (order q) xs) (take (order q) ys))

pub first_form_gives : (q : QuantisedView) (x : ℤ) (xs ys : List ℤ) → IsSized q → order q ≤ length xs → order q ≤ length ys
    → Gives q.format (pair q xs ys) x (x ∷ pair q xs ys) (first_form q) (first_sum q x xs ys)
first_form_gives q x xs ys s h k =
    let n = order q in
    let rs = pair q xs ys in
    let vs = x ∷ rs in
    let lr = pair-length q xs ys h k in
    let bs = forward_summands q (λ (i : ℕ). i) in
    let as_ = feedback_summands q (λ (i : ℕ). i) (n + 1) in
    let old_x : (i : ℕ) → i < n + 1 → at vs i ≡ ago (x ∷ xs) i = λ i l. at_input n i x xs (take n ys) h l in
    let old_y : (j : ℕ) → j < n → at vs (n + 1 + j) ≡ ago ys j = λ j l. at_output n j x xs ys h l in
    let o : AreOver (length vs) (bs ++ as_) = over_both (length vs) bs as_ (over_summands (length vs) false q.b 0 (omega (arith, s.forward))) (over_summands (length vs) true (feedback q) (n + 1) (omega (arith, s.back))) in
    let some : 0 < length (bs ++ as_) = omega (arith, s.forward, length-append bs as_, length-summands false q.b (λ (i : ℕ). i) 0) in
    let made = line_gives q rs x (sources (n + n)) vs [] (bs ++ as_) some (sources_give q.format rs x (n + n) lr) o in
    let w : map (in_words vs) (bs ++ as_) ≡ first_line q x xs ys =
    map-append (in_words vs) bs as_
    ∙ ap (λ (ts : List (Summand ℤ)). ts ++ map (in_words vs) as_) (in_words-summands vs false q.b (λ (i : ℕ). i) 0 ∙ same_summands false q.b (at vs) (ago (x ∷ xs)) 0 0 (λ i l. old_x (0 + i) (omega (arith, s.forward))))
    ∙ ap (λ (ts : List (Summand ℤ)). summands false q.b (ago (x ∷ xs)) 0 ++ ts) (in_words-summands vs true (feedback q) (λ (i : ℕ). i) (n + 1) ∙ same_summands true (feedback q) (at vs) (ago ys) (n + 1) 0 (λ j l. let z : j ≡ 0 + j = omega arith in old_y j (omega (arith, s.back)) ∙ ap (ago ys) z)) in
    subst (λ (ts : List (Summand ℤ)). Gives q.format rs x vs (first_form q) (line_of q [] ts)) w made
