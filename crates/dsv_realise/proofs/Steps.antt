-- One step of a realisation's netlist is one sample of its written equations.
use Rattle.std.proofs.Common.{◌≡◌, ℕ, suc, ◌+◌, ◌<◌, ◌≤◌, List, [], ◌∷◌, length, take, drop, map, refl, ap, subst, ◌∙◌, arith, zero-add, length-drop}
use Rattle.std.proofs.Math.IntN.{ℤ}
use Rattle.std.proofs.lemmas.List.{map-append, length-take-le}
use Rattle.dsv_netlist.specs.Nodes.{at, sample_of}
use Rattle.dsv_names.specs.declared.realisation.Realisation.{Realisation}
use Rattle.dsv_names.specs.declared.realisation.Realisation.TheVariants.{Dfi, Dfii, Tdfii, Ddfi, Ddfii, Tddfii}
use Rattle.dsv_quantiser.specs.QuantisedView.{QuantisedView}
use Rattle.dsv_meaning.specs.Equations.{line_of, order, feedback, ago, Past, latest, transposed_output, Chain, no_words, transposed_chain, transposed_delta_chain, sample_as, registers_as}
use Rattle.dsv_realise.specs.Making.{Chained, no_places}
use Rattle.dsv_realise.specs.Netlists.{count, shift, first_form, second_form_state, second_form, transposed_form, transposed_nodes, transposed_delta_nodes, net_as}
use Rattle.dsv_realise.proofs.Samples.{Gives}
use Rattle.dsv_realise.proofs.Follow.{Follows}
use Rattle.dsv_realise.proofs.Sources.{IsSized, shifted_words, at_input, at_output, at_state, AreBelow, below_more, below_count}
use Rattle.dsv_realise.proofs.FirstForm.{pair, pair-length, first_sum, first_form_gives}
use Rattle.dsv_realise.proofs.SecondForm.{state_sum, state_gives, second_gives}
use Rattle.dsv_realise.proofs.Chains.{GivesChain, kept_words, transposed_gives, transposed_chain-length, register_words, output_gives}
use Rattle.dsv_realise.proofs.DeltaChains.{chain_start, transposed_delta_gives, transposed_delta_chain-length}

-- the past has as many words as the registers hold
abbrev pub HasRegisters : Realisation → ℕ → Past → Type 0
HasRegisters Dfi n p = (n ≤ length p.signal) × (n ≤ length p.outputs)
HasRegisters Dfii n p = n ≤ length p.signal
HasRegisters Ddfi n p = (length (latest p.chain) ≡ n) × (length (latest p.output_chain) ≡ n)
HasRegisters Tdfii n p = length (latest p.chain) ≡ n
HasRegisters Ddfii n p = length (latest p.chain) ≡ n
HasRegisters Tddfii n p = length (latest p.chain) ≡ n

abbrev pub FollowsAs : Realisation → QuantisedView → Past → ℤ → Type 0
FollowsAs k q p x = Follows Past (net_as k q) (registers_as k (order q)) (sample_as k q) (HasRegisters k (order q)) p x

pub dfi_follows : (q : QuantisedView) (p : Past) (x : ℤ) → IsSized q → HasRegisters Dfi (order q) p → FollowsAs Dfi q p x
dfi_follows q p x s h =
    let n = order q in
    let rs = pair q p.signal p.outputs in
    let vs = x ∷ rs in
    let lr = pair-length q p.signal p.outputs h.0 h.1 in
    let y = first_sum q x p.signal p.outputs in
    let g : Gives q.format rs x vs (first_form q) y = first_form_gives q x p.signal p.outputs s h.0 h.1 in
    let place = (first_form q).place in
    let nets = (sample_of q.format rs x (first_form q).nodes).values in
    let known : (i : ℕ) → i < length vs → at nets i ≡ at vs i = λ i l. ap (λ (w : List ℤ). at w i) g.stands.values ∙ g.keeps.old i l in
    let out : at nets place ≡ y.value = ap (λ (w : List ℤ). at w place) g.stands.values ∙ g.value in
    let front : at nets 0 ≡ x = known 0 (omega arith) in
    let first : map (at nets) (shift 0 1 n) ≡ take n (x ∷ p.signal) = shifted_words n (at nets) 0 x 1 p.signal front h.0 (λ i l. let e : 1 + i ≡ suc i = omega arith in known (1 + i) (omega arith) ∙ at_input n (1 + i) x p.signal (take n p.outputs) h.0 (omega arith) ∙ ap (ago (x ∷ p.signal)) e) in
    let second : map (at nets) (shift place (n + 1) n) ≡ take n (y.value ∷ p.outputs) = shifted_words n (at nets) place y.value (n + 1) p.outputs out h.1 (λ j l. known (n + 1 + j) (omega arith) ∙ at_output n j x p.signal p.outputs h.0 l) in
    record {
      y = out;
      exact = g.stands.exact;
      after = map-append (at nets) (shift 0 1 n) (shift place (n + 1) n) ∙ rw (first, second) refl;
      good = (omega (arith, h.0), omega (arith, h.1));
    }

pub dfii_follows : (q : QuantisedView) (p : Past) (x : ℤ) → IsSized q → HasRegisters Dfii (order q) p → FollowsAs Dfii q p x
dfii_follows q p x s h =
    let f = q.format in
    let n = order q in
    let ws = p.signal in
    let rs = take n ws in
    let w = (state_sum q x ws).value in
    let place = (second_form_state q).place in
    let gw = state_gives q x ws s h in
    let gy = second_gives q x ws s h gw in
    let nets = (sample_of f rs x (second_form q).nodes).values in
    let known : (i : ℕ) → i < length gw.now → at nets i ≡ at gw.now i = λ i l. ap (λ (u : List ℤ). at u i) gy.stands.values ∙ gy.keeps.old i l in
    let first : at nets place ≡ w = known place gw.within ∙ gw.value in
    record {
      y = ap (λ (u : List ℤ). at u (second_form q).place) gy.stands.values ∙ gy.value;
      exact = gy.stands.exact;
      after = shifted_words n (at nets) place w 1 ws first h (λ j l. known (1 + j) (omega (arith, gw.keeps.longer, length-take-le n ws h)) ∙ gw.keeps.old (1 + j) (omega (arith, length-take-le n ws h)) ∙ at_state n j x ws l);
      good = omega (arith, h);
    }

-- a sample whose output is that of a transposed form, with these nodes and this chain after it
record StepsAs (q : QuantisedView) (s : List ℤ) (x : ℤ) (m : Chained) (c : Chain) : Type 0 where
  y : at (sample_of q.format s x m.nodes).values (transposed_form q).place ≡ (line_of q [] (transposed_output q x s)).value
  exact : (sample_of q.format s x m.nodes).exact ≡ c.exact
  after : map (at (sample_of q.format s x m.nodes).values) m.places ≡ c.words

transposed_steps : (q : QuantisedView) (s : List ℤ) (x : ℤ) → IsSized q → length s ≡ order q → (m : Chained) (chain : ℤ → ℤ → List ℤ → Chain → Chain)
    → ((vs : List ℤ) (c : Chain) → GivesChain q.format s x vs (no_places (transposed_form q).nodes) c → 0 < length vs → (transposed_form q).place < length vs → AreBelow (length vs) (count 1 (order q))
    → GivesChain q.format s x vs m (chain (at vs 0) (at vs (transposed_form q).place) (map (at vs) (count 1 (order q))) c))
    → StepsAs q s x m (chain x (line_of q [] (transposed_output q x s)).value s (no_words (line_of q [] (transposed_output q x s)).exact))
transposed_steps q s x z l m chain gives =
    let f = q.format in
    let vs = x ∷ s in
    let ks = count 1 (order q) in
    let bk : AreBelow (length vs) ks = below_count (length vs) 1 (order q) (omega arith) in
    let y = line_of q [] (transposed_output q x s) in
    let yp = (transposed_form q).place in
    let gy : Gives f s x vs (transposed_form q) y = output_gives q x s z l in
    let start = no_words y.exact in
    let made = gives gy.now start (chain_start f s x (transposed_form q).nodes gy.now y.exact gy.stands) (omega (arith, gy.keeps.longer)) gy.within (below_more (length vs) (length gy.now) ks gy.keeps.longer bk) in
    let ws : map (at gy.now) ks ≡ s = kept_words vs gy.now ks gy.keeps bk ∙ register_words (order q) x s l in
    let x0 : at gy.now 0 ≡ x = gy.keeps.old 0 (omega arith) in
    let g1 = subst (λ (u : ℤ). GivesChain f s x gy.now m (chain u (at gy.now yp) (map (at gy.now) ks) start)) x0 made in
    let g2 = subst (λ (u : ℤ). GivesChain f s x gy.now m (chain x u (map (at gy.now) ks) start)) gy.value g1 in
    let gc = subst (λ (u : List ℤ). GivesChain f s x gy.now m (chain x y.value u start)) ws g2 in
    record {
      y = ap (λ (u : List ℤ). at u yp) gc.stands.values ∙ gc.keeps.old yp gy.within ∙ gy.value;
      exact = gc.stands.exact;
      after = ap (λ (u : List ℤ). map (at u) m.places) gc.stands.values ∙ gc.words;
    }

pub tdfii_follows : (q : QuantisedView) (p : Past) (x : ℤ) → IsSized q → HasRegisters Tdfii (order q) p → FollowsAs Tdfii q p x
tdfii_follows q p x z l =
    let s = latest p.chain in
    let y = line_of q [] (transposed_output q x s) in
    let start = no_places (transposed_form q).nodes in
    let chain = λ (u v : ℤ) (w : List ℤ) (c : Chain). transposed_chain q u v (drop 1 q.b) (feedback q) w c in
    let g = transposed_steps q s x z l (transposed_nodes q) chain (λ vs c g i j h. transposed_gives q s x vs 0 (transposed_form q).place (drop 1 q.b) (feedback q) (count 1 (order q)) start c g i j h) in
    record {
      y = g.y;
      exact = g.exact;
      after = g.after;
      good = transposed_chain-length q x y.value (drop 1 q.b) (feedback q) s (no_words y.exact) (omega (arith, z.forward, z.back, length-drop 1 q.b)) ∙ (zero-add (length (feedback q)) ∙ z.back);
    }

pub tddfii_follows : (q : QuantisedView) (p : Past) (x : ℤ) → IsSized q → HasRegisters Tddfii (order q) p → FollowsAs Tddfii q p x
tddfii_follows q p x z l =
    let s = latest p.chain in
    let y = line_of q [] (transposed_output q x s) in
    let start = no_places (transposed_form q).nodes in
    let chain = λ (u v : ℤ) (w : List ℤ) (c : Chain). transposed_delta_chain q u v (drop 1 q.b) (feedback q) w c in
    let g = transposed_steps q s x z l (transposed_delta_nodes q) chain (λ vs c g i j h. transposed_delta_gives q s x vs 0 (transposed_form q).place (drop 1 q.b) (feedback q) (count 1 (order q)) start c g i j h) in
    record {
      y = g.y;
      exact = g.exact;
      after = g.after;
      good = transposed_delta_chain-length q x y.value (drop 1 q.b) (feedback q) s (no_words y.exact) (omega (arith, z.forward, z.back, length-drop 1 q.b)) (omega (arith, z.back)) ∙ (zero-add (length (feedback q)) ∙ z.back);
    }
