-- One step of the netlists of the first two delta forms is one sample of their written equations.
use Rattle.std.proofs.Common.{◌≡◌, suc, ◌+◌, ◌<◌, ◌≤◌, List, ◌∷◌, ◌++◌, length, take, map, refl, ap, subst, ◌∙◌, arith, zero-add}
use Rattle.std.proofs.Math.IntN.{ℤ}
use Rattle.std.proofs.lemmas.List.{map-append, take_all}
use Rattle.dsv_netlist.specs.Nodes.{at, sample_of}
use Rattle.dsv_names.specs.declared.realisation.Realisation.TheVariants.{Ddfi, Ddfii}
use Rattle.dsv_quantiser.specs.QuantisedView.{QuantisedView}
use Rattle.dsv_meaning.specs.Equations.{order, ago, Past, latest, Chain, no_words, delta_chain}
use Rattle.dsv_realise.specs.Making.{no_places}
use Rattle.dsv_realise.specs.Netlists.{count, first_form, second_form_state, second_form, delta_inputs, delta_outputs, delta_states}
use Rattle.dsv_realise.proofs.Samples.{Gives, keeps_both}
use Rattle.dsv_realise.proofs.Sources.{IsSized, counted_all, at_input, at_output, AreBelow, below_more, below_count}
use Rattle.dsv_realise.proofs.FirstForm.{pair, pair-length, first_sum, first_form_gives}
use Rattle.dsv_realise.proofs.SecondForm.{state_sum, second_sum, state_gives, second_gives}
use Rattle.dsv_realise.proofs.Chains.{GivesChain, kept_words, register_words}
use Rattle.dsv_realise.proofs.DeltaChains.{chain_start, delta_gives, delta_chain-length}
use Rattle.dsv_realise.proofs.Steps.{HasRegisters, FollowsAs}

pub ddfii_follows : (q : QuantisedView) (p : Past) (x : ℤ) → IsSized q → HasRegisters Ddfii (order q) p → FollowsAs Ddfii q p x
ddfii_follows q p x z l =
    let f = q.format in
    let n = order q in
    let s = latest p.chain in
    let all : take n s ≡ s = take_all n s (omega arith) in
    let vs = x ∷ s in
    let ks = count 1 n in
    let bk : AreBelow (length vs) ks = below_count (length vs) 1 n (omega arith) in
    let w = state_sum q x s in
    let wp = (second_form_state q).place in
    let y = second_sum q x s in
    let gw0 = state_gives q x s z (omega arith) in
    let gy0 = second_gives q x s z (omega arith) gw0 in
    let both : Gives f (take n s) x (x ∷ take n s) (second_form q) y = record { now = gy0.now; stands = gy0.stands; keeps = keeps_both (x ∷ take n s) gw0.now gy0.now gw0.keeps gy0.keeps; within = gy0.within; value = gy0.value } in
    let wv0 : at gy0.now wp ≡ w.value = gy0.keeps.old wp gw0.within ∙ gw0.value in
    let wb0 : wp < length gy0.now = omega (arith, gw0.within, gy0.keeps.longer) in
    let ws0 : map (at gy0.now) ks ≡ s = kept_words (x ∷ take n s) gy0.now ks both.keeps (rw all bk) ∙ rw all (register_words n x s l) in
    let bk0 : AreBelow (length gy0.now) ks = below_more (length vs) (length gy0.now) ks (omega (arith, both.keeps.longer, ap length all)) bk in
    let start : Chain = no_words y.exact in
    let chain = delta_gives q (take n s) x gy0.now wp ks (no_places (second_form q).nodes) start (chain_start f (take n s) x (second_form q).nodes gy0.now y.exact gy0.stands) wb0 bk0 in
    let g1 = subst (λ (u : ℤ). GivesChain f (take n s) x gy0.now (delta_states q) (delta_chain q u (map (at gy0.now) ks) start)) wv0 chain in
    let g2 = subst (λ (u : List ℤ). GivesChain f (take n s) x gy0.now (delta_states q) (delta_chain q w.value u start)) ws0 g1 in
    let gc : GivesChain f s x gy0.now (delta_states q) (delta_chain q w.value s start) = subst (λ (rs : List ℤ). GivesChain f rs x gy0.now (delta_states q) (delta_chain q w.value s start)) all g2 in
    let yp = (second_form q).place in
    record {
      y = ap (λ (u : List ℤ). at u yp) gc.stands.values ∙ gc.keeps.old yp gy0.within ∙ gy0.value;
      exact = gc.stands.exact;
      after = ap (λ (u : List ℤ). map (at u) (delta_states q).places) gc.stands.values ∙ gc.words;
      good = delta_chain-length q w.value s start ∙ (zero-add (length s) ∙ l);
    }

pub ddfi_follows : (q : QuantisedView) (p : Past) (x : ℤ) → IsSized q → HasRegisters Ddfi (order q) p → FollowsAs Ddfi q p x
ddfi_follows q p x z h =
    let f = q.format in
    let n = order q in
    let us = latest p.chain in
    let ws = latest p.output_chain in
    let lu : n ≤ length us = omega (arith, h.0) in
    let lw : n ≤ length ws = omega (arith, h.1) in
    let rs0 = pair q us ws in
    let all : rs0 ≡ us ++ ws = let a : take n us ≡ us = take_all n us (omega (arith, h.0)) in let b : take n ws ≡ ws = take_all n ws (omega (arith, h.1)) in rw (a, b) refl in
    let vs = x ∷ rs0 in
    let lr = pair-length q us ws lu lw in
    let y = first_sum q x us ws in
    let yp = (first_form q).place in
    let gy : Gives f rs0 x vs (first_form q) y = first_form_gives q x us ws z lu lw in
    let ki = count 1 n in
    let ko = count (n + 1) n in
    let bi : AreBelow (length vs) ki = below_count (length vs) 1 n (omega arith) in
    let bo : AreBelow (length vs) ko = below_count (length vs) (n + 1) n (omega arith) in
    let words_in : map (at vs) ki ≡ us = counted_all (at vs) 1 n us h.0 (λ i l. let e : 1 + i ≡ suc i = omega arith in at_input n (1 + i) x us (take n ws) lu (omega arith) ∙ ap (ago (x ∷ us)) e) in
    let words_out : map (at vs) ko ≡ ws = counted_all (at vs) (n + 1) n ws h.1 (λ j l. at_output n j x us ws lu l) in
    let start : Chain = no_words y.exact in
    let c0 = delta_gives q rs0 x gy.now 0 ki (no_places (first_form q).nodes) start (chain_start f rs0 x (first_form q).nodes gy.now y.exact gy.stands) (omega (arith, gy.keeps.longer)) (below_more (length vs) (length gy.now) ki gy.keeps.longer bi) in
    let x0 : at gy.now 0 ≡ x = gy.keeps.old 0 (omega arith) in
    let ui : map (at gy.now) ki ≡ us = kept_words vs gy.now ki gy.keeps bi ∙ words_in in
    let c1 = subst (λ (u : ℤ). GivesChain f rs0 x gy.now (delta_inputs q) (delta_chain q u (map (at gy.now) ki) start)) x0 c0 in
    let c = delta_chain q x us start in
    let gc : GivesChain f rs0 x gy.now (delta_inputs q) c = subst (λ (u : List ℤ). GivesChain f rs0 x gy.now (delta_inputs q) (delta_chain q x u start)) ui c1 in
    let again : Chain = no_words c.exact in
    let kept = keeps_both vs gy.now gc.now gy.keeps gc.keeps in
    let d0 = delta_gives q rs0 x gc.now yp ko (no_places (delta_inputs q).nodes) again (chain_start f rs0 x (delta_inputs q).nodes gc.now c.exact gc.stands) (omega (arith, gy.within, gc.keeps.longer)) (below_more (length vs) (length gc.now) ko kept.longer bo) in
    let yv : at gc.now yp ≡ y.value = gc.keeps.old yp gy.within ∙ gy.value in
    let uo : map (at gc.now) ko ≡ ws = kept_words vs gc.now ko kept bo ∙ words_out in
    let d1 = subst (λ (u : ℤ). GivesChain f rs0 x gc.now (delta_outputs q) (delta_chain q u (map (at gc.now) ko) again)) yv d0 in
    let d = delta_chain q y.value ws again in
    let gd : GivesChain f rs0 x gc.now (delta_outputs q) d = subst (λ (u : List ℤ). GivesChain f rs0 x gc.now (delta_outputs q) (delta_chain q y.value u again)) uo d1 in
    let g : GivesChain f (us ++ ws) x gc.now (delta_outputs q) d = subst (λ (rs : List ℤ). GivesChain f rs x gc.now (delta_outputs q) d) all gd in
    let nets = (sample_of f (us ++ ws) x (delta_outputs q).nodes).values in
    let first : map (at nets) (delta_inputs q).places ≡ c.words = ap (λ (u : List ℤ). map (at u) (delta_inputs q).places) g.stands.values ∙ kept_words gc.now g.now (delta_inputs q).places g.keeps gc.below ∙ gc.words in
    let second : map (at nets) (delta_outputs q).places ≡ d.words = ap (λ (u : List ℤ). map (at u) (delta_outputs q).places) g.stands.values ∙ g.words in
    record {
      y = ap (λ (u : List ℤ). at u yp) g.stands.values ∙ g.keeps.old yp (omega (arith, gy.within, gc.keeps.longer)) ∙ yv;
      exact = g.stands.exact;
      after = map-append (at nets) (delta_inputs q).places (delta_outputs q).places ∙ rw (first, second) refl;
      good = (delta_chain-length q x us start ∙ (zero-add (length us) ∙ h.0), delta_chain-length q y.value ws again ∙ (zero-add (length ws) ∙ h.1));
    }
