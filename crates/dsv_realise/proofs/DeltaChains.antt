-- The chains of the delta forms, in nodes.
use Rattle.std.proofs.Common.{◌≡◌, ℕ, ◌+◌, ◌<◌, List, [], ◌∷◌, length, map, refl, subst, arith}
use Rattle.std.proofs.Math.IntN.{ℤ}
use Rattle.std.proofs.lemmas.List.{length_push}
use Rattle.dsv_word.specs.declared.format.Format.{Format}
use Rattle.dsv_netlist.specs.declared.node.Node.{Node}
use Rattle.dsv_netlist.specs.Nodes.{at}
use Rattle.dsv_quantiser.specs.QuantisedView.{QuantisedView}
use Rattle.dsv_meaning.specs.declared.summands.Summand.{Summand}
use Rattle.dsv_meaning.specs.Equations.{line_of, transposed_line, delta_line, Chain, no_words, chain_with, delta_chain, transposed_delta_chain}
use Rattle.dsv_realise.specs.Making.{line_nodes, Chained, no_places, with_place, with_delta, with_transposed_delta}
use Rattle.dsv_realise.proofs.Samples.{IsAt, Gives, keeps_self, keeps_both}
use Rattle.dsv_realise.proofs.LineNodes.{in_words}
use Rattle.dsv_realise.proofs.WideLines.{line_gives}
use Rattle.dsv_realise.proofs.Sources.{AreBelow}
use Rattle.dsv_realise.proofs.Chains.{GivesChain, chain_more, transposed_line_gives}

-- a chain before its first line
pub chain_start : (f : Format) (rs : List ℤ) (x : ℤ) (ns : List Node) (vs es : List ℤ) → IsAt f rs x ns vs es → GivesChain f rs x vs (no_places ns) (no_words es)
chain_start f rs x ns vs es h = record { now = vs; stands = h; keeps = keeps_self vs; below = tt; words = refl }

-- w + delta v
delta_line_gives : (q : QuantisedView) (rs : List ℤ) (x : ℤ) (ns : List Node) (vs es : List ℤ) (wid vid : ℕ) (w v : ℤ) → IsAt q.format rs x ns vs es → wid < length vs → vid < length vs → at vs wid ≡ w → at vs vid ≡ v
    → Gives q.format rs x vs (line_nodes q ns (delta_line q wid vid)) (line_of q es (delta_line q w v))
delta_line_gives q rs x ns vs es wid vid w v h k l e d =
    let made = line_gives q rs x ns vs es (delta_line q wid vid) (omega arith) h (k, (l, tt)) in
    let same : map (in_words vs) (delta_line q wid vid) ≡ delta_line q w v = rw (e, d) refl in
    subst (λ (ts : List (Summand ℤ)). Gives q.format rs x vs (line_nodes q ns (delta_line q wid vid)) (line_of q es ts)) same made

pub delta_gives : (q : QuantisedView) (rs : List ℤ) (x : ℤ) (vs : List ℤ) (before : ℕ) (ws : List ℕ) (m : Chained) (c : Chain)
    → GivesChain q.format rs x vs m c → before < length vs → AreBelow (length vs) ws
    → GivesChain q.format rs x vs (with_delta q before ws m) (delta_chain q (at vs before) (map (at vs) ws) c)
delta_gives q rs x vs before [] m c g l h = g
delta_gives q rs x vs before (w ∷ ws) m c g l h =
    let f = q.format in
    let made = delta_line_gives q rs x m.nodes g.now c.exact w before (at vs w) (at vs before) g.stands (omega (arith, h.0, g.keeps.longer)) (omega (arith, l, g.keeps.longer)) (g.keeps.old w h.0) (g.keeps.old before l) in
    let next = chain_more f rs x vs m c g (line_nodes q m.nodes (delta_line q w before)) (line_of q c.exact (delta_line q (at vs w) (at vs before))) made in
    delta_gives q rs x vs w ws (with_place m (line_nodes q m.nodes (delta_line q w before))) (chain_with c (line_of q c.exact (delta_line q (at vs w) (at vs before)))) next h.0 h.1

pub delta_chain-length : (q : QuantisedView) (before : ℤ) (ws : List ℤ) (c : Chain) → length (delta_chain q before ws c).words ≡ length c.words + length ws
delta_chain-length q before [] c = omega arith
delta_chain-length q before (w ∷ ws) c =
    let l = line_of q c.exact (delta_line q w before) in
    omega (arith, delta_chain-length q w ws (chain_with c l), length_push c.words l.value)

pub transposed_delta_gives : (q : QuantisedView) (rs : List ℤ) (x : ℤ) (vs : List ℤ) (xid yid : ℕ) (bs cs : List ℤ) (s : List ℕ) (m : Chained) (c : Chain)
    → GivesChain q.format rs x vs m c → xid < length vs → yid < length vs → AreBelow (length vs) s
    → GivesChain q.format rs x vs (with_transposed_delta q xid yid bs cs s m) (transposed_delta_chain q (at vs xid) (at vs yid) bs cs (map (at vs) s) c)
transposed_delta_gives q rs x vs xid yid (b ∷ bs) (a ∷ cs) (s ∷ ss) m c g p r h =
    let f = q.format in
    let n = line_nodes q m.nodes (transposed_line b a xid yid ss) in
    let t = line_of q c.exact (transposed_line b a (at vs xid) (at vs yid) (map (at vs) ss)) in
    let gt : Gives f rs x g.now n t = transposed_line_gives q rs x vs xid yid b a ss m c g p r h.1 in
    let k = keeps_both vs g.now gt.now g.keeps gt.keeps in
    let made = delta_line_gives q rs x n.nodes gt.now t.exact s n.place (at vs s) t.value gt.stands (omega (arith, h.0, k.longer)) gt.within (k.old s h.0) gt.value in
    let d = line_nodes q n.nodes (delta_line q s n.place) in
    let u = line_of q t.exact (delta_line q (at vs s) t.value) in
    let both : Gives f rs x g.now d u = record { now = made.now; stands = made.stands; keeps = keeps_both g.now gt.now made.now gt.keeps made.keeps; within = made.within; value = made.value } in
    transposed_delta_gives q rs x vs xid yid bs cs ss (with_place m d) (chain_with c u) (chain_more f rs x vs m c g d u both) p r h.1
transposed_delta_gives q rs x vs xid yid [] cs s m c g p r h = g
transposed_delta_gives q rs x vs xid yid (b ∷ bs) [] s m c g p r h = g
transposed_delta_gives q rs x vs xid yid (b ∷ bs) (a ∷ cs) [] m c g p r h = g

pub transposed_delta_chain-length : (q : QuantisedView) (x y : ℤ) (bs cs s : List ℤ) (c : Chain) → length bs ≡ length cs → length s ≡ length cs → length (transposed_delta_chain q x y bs cs s c).words ≡ length c.words + length cs
transposed_delta_chain-length q x y (b ∷ bs) (a ∷ cs) (s ∷ ss) c e d =
    let t = line_of q c.exact (transposed_line b a x y ss) in
    let u = line_of q t.exact (delta_line q s t.value) in
    omega (arith, transposed_delta_chain-length q x y bs cs ss (chain_with c u) (omega arith) (omega arith), length_push c.words u.value)
transposed_delta_chain-length q x y [] [] s c e d = omega arith
transposed_delta_chain-length q x y (b ∷ bs) [] s c e d = absurd (omega arith)
transposed_delta_chain-length q x y [] (a ∷ cs) s c e d = absurd (omega arith)
transposed_delta_chain-length q x y (b ∷ bs) (a ∷ cs) [] c e d = absurd (omega arith)
