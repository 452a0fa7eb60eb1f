-- Whole runs of a state-space controller's netlist are those of its equations.
use Rattle.std.proofs.Common.{◌≡◌, List, [], ◌∷◌, length, map, refl, sym, ap, ◌∙◌, arith}
use Rattle.std.specs.List.{All}
use Rattle.std.proofs.Math.IntN.{ℤ}
use Rattle.std.proofs.lemmas.List.Elements.{All-weaker}
use Rattle.dsv_netlist.specs.Nodes.{at}
use Rattle.dsv_meaning.specs.Lines.{narrow_line}
use Rattle.dsv_meaning.specs.Equations.{ago, no_words}
use Rattle.dsv_realise.proofs.Samples.{Gives, keeps_self}
use Rattle.dsv_realise.proofs.Sources.{sources_give}
use Rattle.dsv_realise.proofs.DeltaChains.{chain_start}
use Rattle.dsv_realise.proofs.Follow.{Follows, same_rows, same_registers}
use Rattle.dsv_realise.specs.Netlists.{sources}
use Rattle.dsv_state_space.specs.StateView.{StateView, AreWords, IsStateView, states}
use Rattle.dsv_state_space.specs.Equations.{state_summands, state_chain, state_sample, state_space_of}
use Rattle.dsv_state_space.specs.Netlists.{output_of, states_of, net_of_state}
use Rattle.dsv_state_space.proofs.StateLines.{HasPlaces, line_gives, states_give, state_chain-length}
use Rattle.dsv_state_space.proofs.StateNets.{net_built}
use Rattle.dsv_system.specs.Systems.{behaviour_of, Agree}
use Rattle.dsv_netlist.specs.Systems.{runs_of}

-- as many words as there are states
abbrev HasStates : StateView → List ℤ → Type 0
HasStates s x = length x ≡ states s

abbrev FollowsAs : StateView → List ℤ → ℤ → Type 0
FollowsAs s x u = Follows (List ℤ) (net_of_state s) (λ x. x) (state_sample s) (HasStates s) x u

-- a step of the netlist is a sample of the equations
follows : (s : StateView) (x : List ℤ) (u : ℤ) → IsStateView s → HasStates s x → FollowsAs s x u
follows s x u h l =
    let f = s.format in
    let n = states s in
    let vs = u ∷ x in
    let y = narrow_line f [] (state_summands s.d s.c u (ago x) 0) in
    let place = (output_of s).place in
    let gy : Gives f x u vs (output_of s) y = line_gives f u x (sources n) vs [] s.d s.c (h.c_words.many ∙ sym l) (sources_give f x u n l) (keeps_self vs) in
    let places : All (HasPlaces (length x)) s.a = All-weaker (AreWords f n) (HasPlaces (length x)) (λ row r. r.many ∙ sym l) s.a h.a_words in
    let gc = states_give f u x gy.now s.b s.a (record { nodes = (output_of s).nodes; places = [] }) (no_words y.exact) places gy.keeps (chain_start f x u (output_of s).nodes gy.now y.exact gy.stands) in
    let new = state_chain f u x s.b s.a (no_words y.exact) in
    record {
      y = ap (λ (w : List ℤ). at w place) gc.stands.values ∙ gc.keeps.old place gy.within ∙ gy.value;
      exact = gc.stands.exact;
      after = ap (λ (w : List ℤ). map (at w) (states_of s).places) gc.stands.values ∙ gc.words;
      good = omega (arith, state_chain-length f u x s.b s.a (no_words y.exact) h.rows);
    }

pub runs_alike : (s : StateView) → IsStateView s → Agree (runs_of (net_of_state s)) (behaviour_of (state_space_of s))
runs_alike s h = record {
  many = (net_built s h).many;
  forward = refl;
  format = refl;
  rows = λ start xs l. same_rows (List ℤ) (net_of_state s) (λ x. x) (state_sample s) (HasStates s) (λ x u g. follows s x u h g) start xs l;
  registers = λ start xs l. same_registers (List ℤ) (net_of_state s) (λ x. x) (state_sample s) (HasStates s) (λ x u g. follows s x u h g) start xs l;
}
