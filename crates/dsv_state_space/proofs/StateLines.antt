-- The nodes of a state-space controller's lines give its output and its new states.
use Rattle.std.proofs.Common.{◌≡◌, ℕ, suc, ◌+◌, false, List, [], ◌∷◌, length, map, ap, subst, ◌∙◌, arith}
use Rattle.std.specs.List.{All}
use Rattle.std.proofs.Math.IntN.{ℤ}
use Rattle.std.proofs.lemmas.List.{length_push}
use Rattle.std.proofs.lemmas.List.Elements.{All-head, All-tail}
use Rattle.dsv_word.specs.declared.format.Format.{Format}
use Rattle.dsv_netlist.specs.declared.node.Node.{Node}
use Rattle.dsv_netlist.specs.Nodes.{at}
use Rattle.dsv_meaning.specs.declared.summands.Summand.{Summand}
use Rattle.dsv_meaning.specs.declared.summands.Summand.TheVariants.{Times}
use Rattle.dsv_meaning.specs.Lines.{summands, narrow_line}
use Rattle.dsv_meaning.specs.Equations.{ago, Chain, chain_with}
use Rattle.dsv_realise.specs.Making.{Chained, with_place}
use Rattle.dsv_realise.proofs.Samples.{IsAt, Gives, Keeps, keeps_both}
use Rattle.dsv_realise.proofs.LineNodes.{in_words, AreOver, narrow_gives, in_words-summands, same_summands, over_summands}
use Rattle.dsv_realise.proofs.Chains.{GivesChain, chain_more}
use Rattle.dsv_state_space.specs.Equations.{state_summands, state_chain}
use Rattle.dsv_state_space.specs.Netlists.{with_state_line, with_states}

abbrev pub HasPlaces : ℕ → List ℤ → Type 0
HasPlaces n row = length row ≡ n

-- the summands over the nodes that hold the input and the states are those over the words
line_words : (u : ℤ) (x now : List ℤ) (b : ℤ) (row : List ℤ) → length row ≡ length x → Keeps (u ∷ x) now → map (in_words now) (state_summands b row 0 (λ i. i) 1) ≡ state_summands b row u (ago x) 0
line_words u x now b row l k =
    let first : at now 0 ≡ u = k.old 0 (omega arith) in
    let rest : map (in_words now) (summands false row (λ i. i) 1) ≡ summands false row (ago x) 0 = in_words-summands now false row (λ i. i) 1
    ∙ same_summands false row (λ i. at now i) (ago x) 1 0 (λ i h. let p : 1 + i ≡ suc i = omega arith in let z : i ≡ 0 + i = omega arith in k.old (1 + i) (omega arith) ∙ ap (at (u ∷ x)) p ∙ ap (ago x) z) in
    ap (λ (w : ℤ). Times false b w ∷ map (in_words now) (summands false row (λ i. i) 1)) first ∙ ap (λ (ts : List (Summand ℤ)). Times false b u ∷ ts) rest

-- a line after other nodes, which keep the input and the states
pub line_gives : (f : Format) (u : ℤ) (x : List ℤ) (ns : List Node) (now es : List ℤ) (b : ℤ) (row : List ℤ) → length row ≡ length x → IsAt f x u ns now es → Keeps (u ∷ x) now
    → Gives f x u now (with_state_line ns b row) (narrow_line f es (state_summands b row u (ago x) 0))
line_gives f u x ns now es b row l h k =
    let ts = state_summands b row 0 (λ i. i) 1 in
    let over : AreOver (length now) ts = (omega (arith, k.longer), over_summands (length now) false row 1 (omega (arith, k.longer))) in
    subst (λ (w : List (Summand ℤ)). Gives f x u now (with_state_line ns b row) (narrow_line f es w)) (line_words u x now b row l k) (narrow_gives f x u ns now es ts (omega arith) h over)

-- the lines of the new states, one after another
pub states_give : (f : Format) (u : ℤ) (x : List ℤ) (vs : List ℤ) (bs : List ℤ) (rows : List (List ℤ)) (m : Chained) (c : Chain) → All (HasPlaces (length x)) rows → Keeps (u ∷ x) vs → GivesChain f x u vs m c
    → GivesChain f x u vs (with_states bs rows m) (state_chain f u x bs rows c)
states_give f u x vs (b ∷ bs) (row ∷ rows) m c l k g =
    let made = line_gives f u x m.nodes g.now c.exact b row (All-head (HasPlaces (length x)) row rows l) g.stands (keeps_both (u ∷ x) vs g.now k g.keeps) in
    states_give f u x vs bs rows (with_place m (with_state_line m.nodes b row)) (chain_with c (narrow_line f c.exact (state_summands b row u (ago x) 0))) (All-tail (HasPlaces (length x)) row rows l) k
    (chain_more f x u vs m c g (with_state_line m.nodes b row) (narrow_line f c.exact (state_summands b row u (ago x) 0)) made)
states_give f u x vs [] rows m c l k g = g
states_give f u x vs (b ∷ bs) [] m c l k g = g

pub state_chain-length : (f : Format) (u : ℤ) (x : List ℤ) (bs : List ℤ) (rows : List (List ℤ)) (c : Chain) → length rows ≡ length bs → length (state_chain f u x bs rows c).words ≡ length c.words + length bs
state_chain-length f u x (b ∷ bs) (row ∷ rows) c e =
    let l = narrow_line f c.exact (state_summands b row u (ago x) 0) in
    omega (arith, state_chain-length f u x bs rows (chain_with c l) (omega arith), length_push c.words l.value)
state_chain-length f u x [] [] c e = omega arith
state_chain-length f u x [] (row ∷ rows) c e = absurd (omega arith)
state_chain-length f u x (b ∷ bs) [] c e = absurd (omega arith)
