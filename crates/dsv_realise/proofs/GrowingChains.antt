-- Chains of lines are nodes of a netlist.
use Rattle.std.proofs.Common.{◌≡◌, ℕ, ◌+◌, ◌*◌, ◌≤◌, true, List, [], ◌∷◌, length, refl, subst, arith}
use Rattle.std.specs.List.{All}
use Rattle.std.proofs.Math.IntN.{ℤ}
use Rattle.std.proofs.lemmas.List.{length_push}
use Rattle.std.proofs.lemmas.List.Elements.{All-head, All-tail}
use Rattle.dsv_word.specs.declared.format.Format.{Format}
use Rattle.dsv_netlist.specs.declared.node.Node.{Node}
use Rattle.dsv_netlist.specs.Conditions.{names_word}
use Rattle.dsv_quantiser.specs.QuantisedView.{QuantisedView}
use Rattle.dsv_meaning.specs.Equations.{first_alone, transposed_line, delta_line}
use Rattle.dsv_realise.specs.Making.{Made, line_nodes, Chained, no_places, with_place, with_transposed, with_delta, with_transposed_delta}
use Rattle.dsv_realise.proofs.Growing.{AreSound, HasCounts, IsSmall, Grown}
use Rattle.dsv_realise.proofs.GrowingLines.{products_in-alone, AllNamed, named_later, named_push, alone_fit}
use Rattle.dsv_realise.proofs.Totals.{line_grows}

-- ---- chains
-- what a chain's nodes are beyond older ones, with so many new words
pub record GrownChain (f : Format) (r : ℕ) (old : List Node) (c : Chained) (p s n : ℕ) : Type 0 where
  pub sound : AreSound f r c.nodes
  pub counts : HasCounts r c.nodes p s
  pub keeps : (k : ℕ) → names_word old k ≡ true → names_word c.nodes k ≡ true
  pub named : AllNamed c.nodes c.places
  pub many : length c.places ≡ n

-- a chain before its first line
pub chain_begins : (f : Format) (r : ℕ) (ns : List Node) (p s : ℕ) → AreSound f r ns → HasCounts r ns p s → GrownChain f r ns (no_places ns) p s 0
chain_begins f r ns p s h u = record { sound = h; counts = u; keeps = λ k e. e; named = tt; many = refl }

pub chain_grows : (f : Format) (r : ℕ) (old : List Node) (c : Chained) (p s p2 s2 n : ℕ) (m : Made) → GrownChain f r old c p s n → Grown f r c.nodes m p2 s2 → GrownChain f r old (with_place c m) p2 s2 (n + 1)
chain_grows f r old c p s p2 s2 n m g h =
    record {
      sound = h.sound;
      counts = h.counts;
      keeps = λ k e. h.keeps k (g.keeps k e);
      named = named_push m.nodes c.places m.place (named_later c.nodes m.nodes c.places h.keeps g.named) h.place;
      many = omega (arith, g.many, length_push c.places m.place);
    }

pub rechained : (f : Format) (r : ℕ) (old : List Node) (c : Chained) (p s n p2 s2 n2 : ℕ) → p ≡ p2 → s ≡ s2 → n ≡ n2 → GrownChain f r old c p s n → GrownChain f r old c p2 s2 n2
rechained f r old c p s n p2 s2 n2 e d b g = subst (λ (j : ℕ). GrownChain f r old c j s2 n2) e (subst (λ (j : ℕ). GrownChain f r old c p j n2) d (subst (λ (j : ℕ). GrownChain f r old c p s j) b g))

pub alone_few : (ks : List ℕ) → length (first_alone ks) ≤ 1
alone_few [] = omega arith
alone_few (k ∷ ks) = omega arith

transposed_line_grows : (q : QuantisedView) (r : ℕ) (ns : List Node) (p s : ℕ) (b a : ℤ) (x y : ℕ) (ks : List ℕ) → AreSound q.format r ns → HasCounts r ns p s → IsSmall b → IsSmall a → names_word ns x ≡ true → names_word ns y ≡ true → AllNamed ns ks
    → Grown q.format r ns (line_nodes q ns (transposed_line b a x y ks)) (p + 2) (s + 1 + length (first_alone ks))
transposed_line_grows q r ns p s b a x y ks h u sb sa wx wy wk =
    line_grows q r ns p s (p + 2) (s + 1 + length (first_alone ks)) (transposed_line b a x y ks) h u ((sb, wx), ((sa, wy), alone_fit ns ks wk)) (omega (arith, products_in-alone ks)) (omega arith) (omega arith) (omega (arith, alone_few ks)) (λ e. absurd cc)

-- a transposed chain has 2 N products; with the sum of s_1 before it, 2 N sums
pub transposed_grows : (q : QuantisedView) (r : ℕ) (old : List Node) (x y : ℕ) (bs as_ : List ℤ) (ks : List ℕ) (c : Chained) (p s n p2 s2 n2 : ℕ)
    → GrownChain q.format r old c p s n → names_word old x ≡ true → names_word old y ≡ true → AllNamed old ks → All IsSmall bs → All IsSmall as_
    → length bs ≡ length as_ → length ks ≡ length as_ → p + 2 * length as_ ≡ p2 → s + 2 * length as_ ≡ s2 + length (first_alone ks) → n + length as_ ≡ n2
    → GrownChain q.format r old (with_transposed q x y bs as_ ks c) p2 s2 n2
transposed_grows q r old x y (b ∷ bs) (a ∷ cs) [] c p s n p2 s2 n2 g wx wy wk sb sa e d ep es en = absurd (omega arith)
transposed_grows q r old x y (b ∷ bs) (a ∷ cs) (k ∷ ks) c p s n p2 s2 n2 g wx wy wk sb sa e d ep es en =
    let m = line_nodes q c.nodes (transposed_line b a x y ks) in
    let h = transposed_line_grows q r c.nodes p s b a x y ks g.sound g.counts (All-head IsSmall b bs sb) (All-head IsSmall a cs sa) (g.keeps x wx) (g.keeps y wy) (named_later old c.nodes ks g.keeps wk.1) in
    transposed_grows q r old x y bs cs ks (with_place c m) (p + 2) (s + 1 + length (first_alone ks)) (n + 1) p2 s2 n2 (chain_grows q.format r old c p s (p + 2) (s + 1 + length (first_alone ks)) n m g h)
    wx wy wk.1 (All-tail IsSmall b bs sb) (All-tail IsSmall a cs sa) (omega arith) (omega arith) (omega arith) (omega arith) (omega arith)
transposed_grows q r old x y [] [] [] c p s n p2 s2 n2 g wx wy wk sb sa e d ep es en = rechained q.format r old c p s n p2 s2 n2 (omega arith) (omega arith) (omega arith) g
transposed_grows q r old x y [] [] (k ∷ ks) c p s n p2 s2 n2 g wx wy wk sb sa e d ep es en = absurd (omega arith)
transposed_grows q r old x y [] (a ∷ cs) ks c p s n p2 s2 n2 g wx wy wk sb sa e d ep es en = absurd (omega arith)
transposed_grows q r old x y (b ∷ bs) [] ks c p s n p2 s2 n2 g wx wy wk sb sa e d ep es en = absurd (omega arith)

delta_line_grows : (q : QuantisedView) (r : ℕ) (ns : List Node) (p s : ℕ) (w v : ℕ) → AreSound q.format r ns → HasCounts r ns p s → IsSmall q.delta → names_word ns w ≡ true → names_word ns v ≡ true
    → Grown q.format r ns (line_nodes q ns (delta_line q w v)) (p + 1) (s + 1)
delta_line_grows q r ns p s w v h u sd ww wv =
    line_grows q r ns p s (p + 1) (s + 1) (delta_line q w v) h u (ww, ((sd, wv), tt)) (omega arith) (omega arith) (omega arith) (omega arith) (λ e. absurd cc)

-- a chain of a delta form has N products and N sums
pub delta_grows : (q : QuantisedView) (r : ℕ) (old : List Node) (before : ℕ) (ks : List ℕ) (c : Chained) (p s n p2 s2 n2 : ℕ)
    → GrownChain q.format r old c p s n → IsSmall q.delta → names_word old before ≡ true → AllNamed old ks
    → p + length ks ≡ p2 → s + length ks ≡ s2 → n + length ks ≡ n2
    → GrownChain q.format r old (with_delta q before ks c) p2 s2 n2
delta_grows q r old before [] c p s n p2 s2 n2 g sd wb wk ep es en = rechained q.format r old c p s n p2 s2 n2 (omega arith) (omega arith) (omega arith) g
delta_grows q r old before (k ∷ ks) c p s n p2 s2 n2 g sd wb wk ep es en =
    let m = line_nodes q c.nodes (delta_line q k before) in
    let h = delta_line_grows q r c.nodes p s k before g.sound g.counts sd (g.keeps k wk.0) (g.keeps before wb) in
    delta_grows q r old k ks (with_place c m) (p + 1) (s + 1) (n + 1) p2 s2 n2 (chain_grows q.format r old c p s (p + 1) (s + 1) n m g h) sd wk.0 wk.1 (omega arith) (omega arith) (omega arith)

-- that of the transposed delta form has 3 N products; with the sum of s_1 before it, 3 N sums
pub transposed_delta_grows : (q : QuantisedView) (r : ℕ) (old : List Node) (x y : ℕ) (bs as_ : List ℤ) (ks : List ℕ) (c : Chained) (p s n p2 s2 n2 : ℕ)
    → GrownChain q.format r old c p s n → IsSmall q.delta → names_word old x ≡ true → names_word old y ≡ true → AllNamed old ks → All IsSmall bs → All IsSmall as_
    → length bs ≡ length as_ → length ks ≡ length as_ → p + 3 * length as_ ≡ p2 → s + 3 * length as_ ≡ s2 + length (first_alone ks) → n + length as_ ≡ n2
    → GrownChain q.format r old (with_transposed_delta q x y bs as_ ks c) p2 s2 n2
transposed_delta_grows q r old x y (b ∷ bs) (a ∷ cs) [] c p s n p2 s2 n2 g sd wx wy wk sb sa e d ep es en = absurd (omega arith)
transposed_delta_grows q r old x y (b ∷ bs) (a ∷ cs) (k ∷ ks) c p s n p2 s2 n2 g sd wx wy wk sb sa e d ep es en =
    let f = q.format in
    let t = line_nodes q c.nodes (transposed_line b a x y ks) in
    let s1 = s + 1 + length (first_alone ks) in
    let h = transposed_line_grows q r c.nodes p s b a x y ks g.sound g.counts (All-head IsSmall b bs sb) (All-head IsSmall a cs sa) (g.keeps x wx) (g.keeps y wy) (named_later old c.nodes ks g.keeps wk.1) in
    let m = line_nodes q t.nodes (delta_line q k t.place) in
    let i = delta_line_grows q r t.nodes (p + 2) s1 k t.place h.sound h.counts sd (h.keeps k (g.keeps k wk.0)) h.place in
    let both : Grown f r c.nodes m (p + 2 + 1) (s1 + 1) = record { sound = i.sound; counts = i.counts; keeps = λ j u. i.keeps j (h.keeps j u); place = i.place } in
    transposed_delta_grows q r old x y bs cs ks (with_place c m) (p + 2 + 1) (s1 + 1) (n + 1) p2 s2 n2 (chain_grows f r old c p s (p + 2 + 1) (s1 + 1) n m g both)
    sd wx wy wk.1 (All-tail IsSmall b bs sb) (All-tail IsSmall a cs sa) (omega arith) (omega arith) (omega arith) (omega arith) (omega arith)
transposed_delta_grows q r old x y [] [] [] c p s n p2 s2 n2 g sd wx wy wk sb sa e d ep es en = rechained q.format r old c p s n p2 s2 n2 (omega arith) (omega arith) (omega arith) g
transposed_delta_grows q r old x y [] [] (k ∷ ks) c p s n p2 s2 n2 g sd wx wy wk sb sa e d ep es en = absurd (omega arith)
transposed_delta_grows q r old x y [] (a ∷ cs) ks c p s n p2 s2 n2 g sd wx wy wk sb sa e d ep es en = absurd (omega arith)
transposed_delta_grows q r old x y (b ∷ bs) [] ks c p s n p2 s2 n2 g sd wx wy wk sb sa e d ep es en = absurd (omega arith)
