-- Chains of lines, in nodes, and the first line of both transposed forms.
use Rattle.std.proofs.Common.{◌≡◌, ℕ, suc, ◌+◌, ◌<◌, false, List, [], ◌∷◌, ◌++◌, length, take, drop, map, refl, ap, subst, ◌∙◌, arith, length-append}
use Rattle.std.proofs.Math.IntN.{ℤ}
use Rattle.std.proofs.lemmas.List.{map-append, map_push, length_push, length-take-le}
use Rattle.dsv_word.specs.declared.format.Format.{Format}
use Rattle.dsv_netlist.specs.Nodes.{at}
use Rattle.dsv_quantiser.specs.QuantisedView.{QuantisedView}
use Rattle.dsv_meaning.specs.declared.summands.Summand.{Summand}
use Rattle.dsv_meaning.specs.Lines.{Sum, summands}
use Rattle.dsv_meaning.specs.Equations.{line_of, order, first_alone, transposed_line, transposed_output, Chain, chain_with, transposed_chain}
use Rattle.dsv_realise.specs.Making.{Made, line_nodes, Chained, with_place, with_transposed}
use Rattle.dsv_realise.specs.Netlists.{count, sources, transposed_form}
use Rattle.dsv_realise.proofs.Samples.{IsAt, Gives, Keeps, keeps_both}
use Rattle.dsv_realise.proofs.LineNodes.{in_words, AreOver, over_both, over_any_summands, in_words-summands, length-summands}
use Rattle.dsv_realise.proofs.WideLines.{line_gives}
use Rattle.dsv_realise.proofs.Sources.{IsSized, sources_give, counted_all, AreBelow, below_more, below_push, below_drop, below_count}

pub kept_words : (vs ws : List ℤ) (ks : List ℕ) → Keeps vs ws → AreBelow (length vs) ks → map (at ws) ks ≡ map (at vs) ks
kept_words vs ws [] k h = refl
kept_words vs ws (j ∷ js) k h = rw (k.old j h.0, kept_words vs ws js k h.1) refl

dropped_words : (vs : List ℤ) (ks : List ℕ) → map (at vs) (drop 1 ks) ≡ drop 1 (map (at vs) ks)
dropped_words vs [] = refl
dropped_words vs (k ∷ ks) = refl

pub alone_words : (vs : List ℤ) (ks : List ℕ) → map (in_words vs) (first_alone ks) ≡ first_alone (map (at vs) ks)
alone_words vs [] = refl
alone_words vs (k ∷ ks) = refl

pub alone_over : (n : ℕ) (ks : List ℕ) → AreBelow n ks → AreOver n (first_alone ks)
alone_over n [] h = tt
alone_over n (k ∷ ks) h = (h.0, tt)

-- the nodes of a chain so far give its words and exact values
pub record GivesChain (f : Format) (rs : List ℤ) (x : ℤ) (vs : List ℤ) (m : Chained) (c : Chain) : Type 0 where
  pub now : List ℤ
  pub stands : IsAt f rs x m.nodes now c.exact
  pub keeps : Keeps vs now
  pub below : AreBelow (length now) m.places
  pub words : map (at now) m.places ≡ c.words

pub chain_more : (f : Format) (rs : List ℤ) (x : ℤ) (vs : List ℤ) (m : Chained) (c : Chain) (g : GivesChain f rs x vs m c) (n : Made) (s : Sum) → Gives f rs x g.now n s → GivesChain f rs x vs (with_place m n) (chain_with c s)
chain_more f rs x vs m c g n s h =
    record {
      now = h.now;
      stands = h.stands;
      keeps = keeps_both vs g.now h.now g.keeps h.keeps;
      below = below_push (length h.now) m.places n.place (below_more (length g.now) (length h.now) m.places h.keeps.longer g.below) h.within;
      words = map_push (at h.now) m.places n.place ∙ rw (kept_words g.now h.now m.places h.keeps g.below, g.words, h.value) refl;
    }

-- the line of one new word of a transposed form
pub transposed_line_gives : (q : QuantisedView) (rs : List ℤ) (x : ℤ) (vs : List ℤ) (xid yid : ℕ) (b a : ℤ) (s : List ℕ) (m : Chained) (c : Chain) (g : GivesChain q.format rs x vs m c) → xid < length vs → yid < length vs → AreBelow (length vs) s
    → Gives q.format rs x g.now (line_nodes q m.nodes (transposed_line b a xid yid s)) (line_of q c.exact (transposed_line b a (at vs xid) (at vs yid) (map (at vs) s)))
transposed_line_gives q rs x vs xid yid b a s m c g p r h =
    let l = g.keeps.longer in
    let made = line_gives q rs x m.nodes g.now c.exact (transposed_line b a xid yid s) (omega arith) g.stands (omega arith, (omega arith, alone_over (length g.now) s (below_more (length vs) (length g.now) s l h))) in
    let e : map (in_words g.now) (transposed_line b a xid yid s) ≡ transposed_line b a (at vs xid) (at vs yid) (map (at vs) s) =
    rw (alone_words g.now s, kept_words vs g.now s g.keeps h, g.keeps.old xid p, g.keeps.old yid r) refl in
    subst (λ (w : List (Summand ℤ)). Gives q.format rs x g.now (line_nodes q m.nodes (transposed_line b a xid yid s)) (line_of q c.exact w)) e made

pub transposed_gives : (q : QuantisedView) (rs : List ℤ) (x : ℤ) (vs : List ℤ) (xid yid : ℕ) (bs cs : List ℤ) (s : List ℕ) (m : Chained) (c : Chain)
    → GivesChain q.format rs x vs m c → xid < length vs → yid < length vs → AreBelow (length vs) s
    → GivesChain q.format rs x vs (with_transposed q xid yid bs cs s m) (transposed_chain q (at vs xid) (at vs yid) bs cs (map (at vs) s) c)
transposed_gives q rs x vs xid yid (b ∷ bs) (a ∷ cs) s m c g p r h =
    let f = q.format in
    let d = below_drop (length vs) s h in
    let made = transposed_line_gives q rs x vs xid yid b a (drop 1 s) m c g p r d in
    let next = chain_more f rs x vs m c g (line_nodes q m.nodes (transposed_line b a xid yid (drop 1 s))) (line_of q c.exact (transposed_line b a (at vs xid) (at vs yid) (map (at vs) (drop 1 s)))) made in
    let rest = transposed_gives q rs x vs xid yid bs cs (drop 1 s) (with_place m (line_nodes q m.nodes (transposed_line b a xid yid (drop 1 s)))) (chain_with c (line_of q c.exact (transposed_line b a (at vs xid) (at vs yid) (map (at vs) (drop 1 s))))) next p r d in
    subst (λ (w : List ℤ). GivesChain f rs x vs (with_transposed q xid yid (b ∷ bs) (a ∷ cs) s m) (transposed_chain q (at vs xid) (at vs yid) bs cs w (chain_with c (line_of q c.exact (transposed_line b a (at vs xid) (at vs yid) w))))) (dropped_words vs s) rest
transposed_gives q rs x vs xid yid [] cs s m c g p r h = g
transposed_gives q rs x vs xid yid (b ∷ bs) [] s m c g p r h = g

pub transposed_chain-length : (q : QuantisedView) (x y : ℤ) (bs cs s : List ℤ) (c : Chain) → length bs ≡ length cs → length (transposed_chain q x y bs cs s c).words ≡ length c.words + length cs
transposed_chain-length q x y (b ∷ bs) (a ∷ cs) s c e =
    let l = line_of q c.exact (transposed_line b a x y (drop 1 s)) in
    omega (arith, transposed_chain-length q x y bs cs (drop 1 s) (chain_with c l) (omega arith), length_push c.words l.value)
transposed_chain-length q x y [] [] s c e = omega arith
transposed_chain-length q x y (b ∷ bs) [] s c e = absurd (omega arith)
transposed_chain-length q x y [] (a ∷ cs) s c e = absurd (omega arith)

-- ---- the first line of both transposed forms
pub register_words : (n : ℕ) (x : ℤ) (s : List ℤ) → length s ≡ n → map (at (x ∷ s)) (count 1 n) ≡ s
register_words n x s l = counted_all (at (x ∷ s)) 1 n s l (λ i h. let p : 1 + i ≡ suc i = omega arith in ap (at (x ∷ s)) p)

pub output_gives : (q : QuantisedView) (x : ℤ) (s : List ℤ) → IsSized q → length s ≡ order q → Gives q.format s x (x ∷ s) (transposed_form q) (line_of q [] (transposed_output q x s))
output_gives q x s z l =
    let f = q.format in
    let n = order q in
    let vs = x ∷ s in
    let ks = count 1 n in
    let bk : AreBelow (length vs) ks = below_count (length vs) 1 n (omega arith) in
    let zeroth : ℕ → ℕ = λ i. 0 in
    let b1 : List (Summand ℕ) = summands false (take 1 q.b) zeroth 0 in
    let ts = transposed_output q 0 ks in
    let lt : length (take 1 q.b) ≡ 1 = length-take-le 1 q.b (omega (arith, z.forward)) in
    let some : 0 < length ts = omega (arith, lt, length-append b1 (first_alone ks), length-summands false (take 1 q.b) zeroth 0) in
    let o : AreOver (length vs) ts = over_both (length vs) b1 (first_alone ks) (over_any_summands (length vs) false (take 1 q.b) zeroth 0 (λ i h. omega arith)) (alone_over (length vs) ks bk) in
    let made = line_gives q s x (sources n) vs [] ts some (sources_give f s x n l) o in
    let e : map (in_words vs) ts ≡ transposed_output q x s =
    map-append (in_words vs) b1 (first_alone ks)
    ∙ ap (λ (us : List (Summand ℤ)). us ++ map (in_words vs) (first_alone ks)) (in_words-summands vs false (take 1 q.b) zeroth 0)
    ∙ ap (λ (us : List (Summand ℤ)). summands false (take 1 q.b) (λ (i : ℕ). x) 0 ++ us) (alone_words vs ks ∙ ap first_alone (register_words n x s l)) in
    subst (λ (w : List (Summand ℤ)). Gives f s x vs (transposed_form q) (line_of q [] w)) e made
