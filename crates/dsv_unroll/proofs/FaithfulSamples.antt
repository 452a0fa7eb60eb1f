-- The terms of a sample whose values are fitted as the format has it spell them, whatever breaks.
use Rattle.std.proofs.Common.{◌≡◌, ℕ, ◌+◌, ◌<◌, Bool, true, false, ◌||◌, List, [], ◌∷◌, refl, arith, ap, sym, ◌∙◌, length, map}
use Rattle.std.specs.List.{All}
use Rattle.std.proofs.Math.IntN.{ℤ}
use Rattle.std.proofs.lemmas.List.{length-map}
use Rattle.dsv_word.specs.declared.format.Format.{Format}
use Rattle.dsv_word.specs.Words.{width, IsWord}
use Rattle.dsv_netlist.specs.declared.node.Node.{Node}
use Rattle.dsv_netlist.specs.declared.node.Node.TheVariants as node
use Rattle.dsv_netlist.specs.Nodes.{Net, Sample, at, after_node, sample_of, step_of}
use Rattle.dsv_netlist.specs.Conditions.{IsNetlist}
use Rattle.dsv_netlist.specs.Law.{AreWords}
use Rattle.dsv_netlist.proofs.Runs.{from-length}
use Rattle.dsv_term.specs.declared.node.TermId.{TermId}
use Rattle.dsv_term.specs.Growth.{AreSound}
use Rattle.dsv_term.specs.Terms.{KeepsTerms, word_of, HasBits}
use Rattle.dsv_term.specs.TermsView.{TermsView}
use Rattle.dsv_term.specs.Word.{bit_of}
use Rattle.dsv_unroll.specs.declared.rules.FitRule.TheVariants as fit_rule
use Rattle.dsv_unroll.specs.Goals.{SampleTerms, sample_terms}
use Rattle.dsv_unroll.specs.Ready.{IsValue, AreReady, AreAllValues}
use Rattle.dsv_unroll.specs.Rules.{term_at}
use Rattle.dsv_unroll.proofs.Follows.{Means, node_overflow}
use Rattle.dsv_unroll.proofs.Samples.{overflow_from, sample_follows}
use Rattle.dsv_unroll.proofs.Runs.{registers_words, loaded_mean, loaded_stand}
use Rattle.dsv_unroll.proofs.CycleTerms.{AllMean}

-- no value is shown to be no word where every value is fitted as the format has it
no_node_overflow : (n : ℕ) (vals : List ℤ) (d : Node) (b : Bool) → (b || node_overflow fit_rule.Faithful n vals d) ≡ b
no_node_overflow n vals node.Input b = right b
  where
    right : (b : Bool) → (b || false) ≡ b
    right true = refl
    right false = refl
no_node_overflow n vals d true = refl
no_node_overflow n vals d false = refl

no_overflow : (f : Format) (rs : List ℤ) (x : ℤ) (b : Bool) (ns : List Node) (s : Sample) → overflow_from fit_rule.Faithful f rs x b ns s ≡ b
no_overflow f rs x b [] s = refl
no_overflow f rs x b (n ∷ ns) s = ap (λ (c : Bool). overflow_from fit_rule.Faithful f rs x c ns (after_node f rs x s n)) (no_node_overflow (width f) s.values n b) ∙ no_overflow f rs x b ns (after_node f rs x s n)

pub record FaithfulSample (net : Net) (values : List ℕ) (t : TermsView) (s : SampleTerms) (rs : List ℤ) (z : ℤ) : Type 0 where
  pub sound : AreSound s.terms
  pub inputs : s.terms.inputs ≡ t.inputs
  pub kept : KeepsTerms t s.terms
  pub count : length s.ids ≡ length net.nodes
  pub nodes_stand : AreAllValues s.terms s.ids
  pub nodes_mean : (i : ℕ) → i < length s.ids → Means s.terms values (term_at s.ids i) (at (sample_of net.format rs z net.nodes).values i)
  pub registers_stand : AreAllValues s.terms (map (term_at s.ids) net.next)
  pub registers_mean : AllMean s.terms values (map (term_at s.ids) net.next) (step_of net rs z).past
  pub many : length (step_of net rs z).past ≡ length net.next
  pub words : All (IsWord net.format) (step_of net rs z).past

pub faithful_sample : (net : Net) (values : List ℕ) (t : TermsView) (registers : List TermId) (x zero_bit : TermId) (rs : List ℤ) (z : ℤ) → IsNetlist net → AreWords net rs z → AreSound t → HasBits t zero_bit 1 → word_of t values zero_bit ≡ bit_of false
    → AreAllValues t registers → AllMean t values registers rs → IsValue t x → Means t values x z → FaithfulSample net values t (sample_terms fit_rule.Faithful net registers x t zero_bit) rs z
faithful_sample net values t registers x zero_bit rs z h w sound bit zero stand mean v means =
    let ready : AreReady net registers x t [] zero_bit = record {
      sound = sound;
      nodes = λ i p. absurd (omega arith);
      count = mean.count ∙ w.many;
      registers_stand = stand.stand;
      input = v;
      overflowed_stands = bit.stands;
      overflowed_bit = bit.width;
    } in
    let f = sample_follows fit_rule.Faithful values net rs z registers x t zero_bit false h w ready zero (λ e. mean.each) means in
    let s = sample_terms fit_rule.Faithful net registers x t zero_bit in
    let vals = (sample_of net.format rs z net.nodes).values in
    let all = f.follows.nodes (no_overflow net.format rs z false net.nodes (record { values = []; exact = [] })) in
    let zero_add : 0 + length net.nodes ≡ length net.nodes = omega arith in
    let n : length s.ids ≡ length net.nodes = f.follows.count ∙ (from-length net.format rs z net.nodes (record { values = []; exact = [] }) ∙ zero_add) in
    let loaded = loaded_mean net s.terms values s.ids vals h n all in
    record {
      sound = f.ready.sound;
      inputs = f.inputs;
      kept = f.kept;
      count = n;
      nodes_stand = record { stand = f.ready.nodes };
      nodes_mean = all;
      registers_stand = loaded_stand net s.terms s.ids h n f.ready.nodes;
      registers_mean = record { count = length-map net.next (term_at s.ids) ∙ sym (length-map net.next (at vals)); each = loaded.each };
      many = length-map net.next (at vals);
      words = registers_words net rs z h w;
    }
