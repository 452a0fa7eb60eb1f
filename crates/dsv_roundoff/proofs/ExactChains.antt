-- The nodes of chains of lines give the lines' exact values.
use Rattle.std.proofs.Common.{◌≡◌, ℕ, ◌≤◌, List, [], ◌∷◌, ◌++◌, length, drop, map, refl, sym, ap, subst, ◌∙◌, arith}
use Rattle.std.proofs.Math.IntN.{ℤ}
use Rattle.std.proofs.lemmas.List.{append-nil, append_assoc, map_push, drop-map}
use Rattle.dsv_word.specs.declared.format.Format.{Format}
use Rattle.dsv_netlist.specs.declared.node.Node.{Node}
use Rattle.dsv_netlist.specs.Nodes.{at}
use Rattle.dsv_quantiser.specs.QuantisedView.{QuantisedView}
use Rattle.dsv_meaning.specs.declared.summands.Summand.{Summand}
use Rattle.dsv_meaning.specs.Equations.{transposed_line, delta_line}
use Rattle.dsv_realise.specs.Making.{Made, line_nodes, Chained, with_place, with_transposed, with_delta, with_transposed_delta}
use Rattle.dsv_realise.proofs.LineNodes.{in_words}
use Rattle.dsv_realise.proofs.Chains.{alone_words}
use Rattle.dsv_roundoff.specs.Written.{AreLines, delta_lines, transposed_lines}
use Rattle.dsv_roundoff.proofs.ExactSamples.{ExactSample, value_of, AllHold}
use Rattle.dsv_roundoff.proofs.ExactLines.{HoldsLine, line_holds}

-- the values of these nodes
abbrev pub values_at : ExactSample → List ℕ → List ℤ
values_at s places = map (at s.values) places

-- what the nodes of a chain say after those of an older one: those hold, and the new values are the lines'
pub record HoldsChain (s : ExactSample) (old now : Chained) (lines : List (List (Summand ℤ))) : Type 0 where
  pub values : List ℤ
  pub before : AllHold s 0 old.nodes
  pub places : values_at s now.places ≡ values_at s old.places ++ values
  pub are : AreLines s.format lines values

chain_ends : (s : ExactSample) (c : Chained) → AllHold s 0 c.nodes → HoldsChain s c c []
chain_ends s c h = record { values = []; before = h; places = sym (append-nil (values_at s c.places)); are = tt }

-- a place more
pushed : (s : ExactSample) (c : Chained) (m : Made) (places : List ℕ) (more : List ℤ) → values_at s places ≡ values_at s (with_place c m).places ++ more → values_at s places ≡ values_at s c.places ++ value_of s m.place ∷ more
pushed s c m places more e =
    let v = value_of s m.place in
    e ∙ ap (λ (us : List ℤ). us ++ more) (map_push (at s.values) c.places m.place) ∙ append_assoc (values_at s c.places) (v ∷ []) more

-- the line of one new value of a transposed form
transposed_line_holds : (q : QuantisedView) (s : ExactSample) (ns : List Node) (x y : ℕ) (b a : ℤ) (ks : List ℕ) → AllHold s 0 (line_nodes q ns (transposed_line b a x y ks)).nodes
    → HoldsLine s ns (line_nodes q ns (transposed_line b a x y ks)) (transposed_line b a (value_of s x) (value_of s y) (values_at s ks))
transposed_line_holds q s ns x y b a ks h =
    let g = line_holds q s ns (transposed_line b a x y ks) tt h in
    let e : map (in_words s.values) (transposed_line b a x y ks) ≡ transposed_line b a (value_of s x) (value_of s y) (values_at s ks) = rw (alone_words s.values ks) refl in
    subst (λ (ts : List (Summand ℤ)). HoldsLine s ns (line_nodes q ns (transposed_line b a x y ks)) ts) e g

pub transposed_holds : (q : QuantisedView) (s : ExactSample) (x y : ℕ) (bs cs : List ℤ) (ks : List ℕ) (c : Chained) → AllHold s 0 (with_transposed q x y bs cs ks c).nodes
    → HoldsChain s c (with_transposed q x y bs cs ks c) (transposed_lines (value_of s x) (value_of s y) bs cs (values_at s ks))
transposed_holds q s x y [] cs ks c h = chain_ends s c h
transposed_holds q s x y (b ∷ bs) [] ks c h = chain_ends s c h
transposed_holds q s x y (b ∷ bs) (a ∷ cs) ks c h =
    let m = line_nodes q c.nodes (transposed_line b a x y (drop 1 ks)) in
    let g = transposed_holds q s x y bs cs (drop 1 ks) (with_place c m) h in
    let k = transposed_line_holds q s c.nodes x y b a (drop 1 ks) g.before in
    let made : HoldsChain s c (with_transposed q x y (b ∷ bs) (a ∷ cs) ks c) (transposed_line b a (value_of s x) (value_of s y) (values_at s (drop 1 ks)) ∷ transposed_lines (value_of s x) (value_of s y) bs cs (values_at s (drop 1 ks))) = record {
      values = value_of s m.place ∷ g.values;
      before = k.before;
      places = pushed s c m (with_transposed q x y bs cs (drop 1 ks) (with_place c m)).places g.values g.places;
      are = (k.is, g.are);
    } in
    subst (λ (w : List ℤ). HoldsChain s c (with_transposed q x y (b ∷ bs) (a ∷ cs) ks c) (transposed_line b a (value_of s x) (value_of s y) w ∷ transposed_lines (value_of s x) (value_of s y) bs cs w)) (sym (drop-map (at s.values) 1 ks)) made

pub delta_holds : (q : QuantisedView) (s : ExactSample) (before : ℕ) (ks : List ℕ) (c : Chained) → AllHold s 0 (with_delta q before ks c).nodes
    → HoldsChain s c (with_delta q before ks c) (delta_lines q (values_at s ks) (value_of s before ∷ values_at s ks))
delta_holds q s before [] c h = chain_ends s c h
delta_holds q s before (w ∷ ks) c h =
    let m = line_nodes q c.nodes (delta_line q w before) in
    let g = delta_holds q s w ks (with_place c m) h in
    let k = line_holds q s c.nodes (delta_line q w before) tt g.before in
    record {
      values = value_of s m.place ∷ g.values;
      before = k.before;
      places = pushed s c m (with_delta q w ks (with_place c m)).places g.values g.places;
      are = (k.is, g.are);
    }

-- the same of the chain of TDDFII, which has two lines for each new value
pub record HoldsBoth (s : ExactSample) (q : QuantisedView) (old now : Chained) (lines : List (List (Summand ℤ))) (words : List ℤ) : Type 0 where
  pub changes : List ℤ
  pub lines_are : AreLines s.format lines changes
  pub chain : HoldsChain s old now (delta_lines q words changes)

pub transposed_delta_holds : (q : QuantisedView) (s : ExactSample) (x y : ℕ) (bs cs : List ℤ) (ks : List ℕ) (c : Chained) → length ks ≡ length cs → AllHold s 0 (with_transposed_delta q x y bs cs ks c).nodes
    → HoldsBoth s q c (with_transposed_delta q x y bs cs ks c) (transposed_lines (value_of s x) (value_of s y) bs cs (values_at s ks)) (values_at s ks)
transposed_delta_holds q s x y [] cs [] c l h = record { changes = []; lines_are = tt; chain = chain_ends s c h }
transposed_delta_holds q s x y [] cs (k ∷ ks) c l h = record { changes = []; lines_are = tt; chain = chain_ends s c h }
transposed_delta_holds q s x y (b ∷ bs) [] [] c l h = record { changes = []; lines_are = tt; chain = chain_ends s c h }
transposed_delta_holds q s x y (b ∷ bs) [] (k ∷ ks) c l h = absurd (omega arith)
transposed_delta_holds q s x y (b ∷ bs) (a ∷ cs) [] c l h = absurd (omega arith)
transposed_delta_holds q s x y (b ∷ bs) (a ∷ cs) (w ∷ ks) c l h =
    let t = line_nodes q c.nodes (transposed_line b a x y ks) in
    let m = line_nodes q t.nodes (delta_line q w t.place) in
    let g = transposed_delta_holds q s x y bs cs ks (with_place c m) (omega arith) h in
    let k = line_holds q s t.nodes (delta_line q w t.place) tt g.chain.before in
    let j = transposed_line_holds q s c.nodes x y b a ks k.before in
    record {
      changes = value_of s t.place ∷ g.changes;
      lines_are = (j.is, g.lines_are);
      chain = record {
        values = value_of s m.place ∷ g.chain.values;
        before = j.before;
        places = pushed s c m (with_transposed_delta q x y bs cs ks (with_place c m)).places g.chain.values g.chain.places;
        are = (k.is, g.chain.are);
      };
    }

-- ---- how many
pub lines-length : (f : Format) (lines : List (List (Summand ℤ))) (values : List ℤ) → AreLines f lines values → length values ≡ length lines
lines-length f [] [] h = refl
lines-length f [] (e ∷ values) h = absurd h
lines-length f (l ∷ lines) [] h = absurd h
lines-length f (l ∷ lines) (e ∷ values) h = omega (arith, lines-length f lines values h.1)

pub delta_lines-length : (q : QuantisedView) (ws vs : List ℤ) → length ws ≤ length vs → length (delta_lines q ws vs) ≡ length ws
delta_lines-length q [] vs l = refl
delta_lines-length q (w ∷ ws) [] l = absurd (omega arith)
delta_lines-length q (w ∷ ws) (v ∷ vs) l = omega (arith, delta_lines-length q ws vs (omega arith))

pub transposed_lines-length : (x y : ℤ) (bs cs s : List ℤ) → length bs ≡ length cs → length (transposed_lines x y bs cs s) ≡ length cs
transposed_lines-length x y [] [] s l = refl
transposed_lines-length x y [] (a ∷ cs) s l = absurd (omega arith)
transposed_lines-length x y (b ∷ bs) [] s l = absurd (omega arith)
transposed_lines-length x y (b ∷ bs) (a ∷ cs) s l = omega (arith, transposed_lines-length x y bs cs (drop 1 s) (omega arith))
