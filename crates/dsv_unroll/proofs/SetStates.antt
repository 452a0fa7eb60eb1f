-- The states of a run: their terms say whether each is in the set.
use Rattle.std.proofs.Common.{◌≡◌, ℕ, suc, ◌+◌, ◌<◌, Bool, true, false, List, [], ◌∷◌, ◌++◌, arith, ap, sym, subst, ◌∙◌, length, drop, map}
use Rattle.std.specs.List.{All}
use Rattle.std.proofs.Math.IntN.{ℤ, pos}
use Rattle.std.proofs.lemmas.List.{length-map, length_push, append_assoc, drop_more}
use Rattle.std.proofs.lemmas.List.Elements.{All-head, All-tail}
use Rattle.dsv_word.specs.declared.format.Format.{Format}
use Rattle.dsv_word.specs.Words.{width, IsWord}
use Rattle.dsv_system.specs.Runs.{past_after}
use Rattle.dsv_netlist.specs.Nodes.{Net, step_of}
use Rattle.dsv_netlist.specs.Conditions.{IsNetlist}
use Rattle.dsv_netlist.specs.Law.{AreWords}
use Rattle.dsv_template.specs.declared.candidate.Candidate.{Candidate}
use Rattle.dsv_template.specs.Candidates.{is_shaped}
use Rattle.dsv_term.specs.declared.node.TermId.{TermId}
use Rattle.dsv_term.specs.Growth.{Adds}
use Rattle.dsv_term.specs.Terms.{KeepsTerms, word_of}
use Rattle.dsv_term.specs.TermsView.{TermsView}
use Rattle.dsv_term.specs.Word.{bit_of}
use Rattle.dsv_term.proofs.Made.{KeepsTerms-both}
use Rattle.dsv_unroll.specs.declared.rules.FitRule.TheVariants as fit_rule
use Rattle.dsv_unroll.specs.Goals.{sample_terms}
use Rattle.dsv_unroll.specs.Ready.{AreReady, AreAllValues, IsSetReady, AreStatesReady}
use Rattle.dsv_unroll.specs.Rules.{term_at}
use Rattle.dsv_unroll.specs.SetGoals.{set_term, StateTerms, with_state, with_next, states_from}
use Rattle.dsv_unroll.proofs.Follows.{Means, means_later}
use Rattle.dsv_unroll.proofs.SampleSteps.{bits_later}
use Rattle.dsv_unroll.proofs.Runs.{InputsMean, loaded_stand}
use Rattle.dsv_unroll.proofs.InputTests.{bits_kept, bit_added, bits_push, BitsMean, bits_mean_later, bits_mean_push}
use Rattle.dsv_unroll.proofs.CycleTerms.{all_later, tail_values, AllMean, mean_later}
use Rattle.dsv_unroll.proofs.FaithfulSamples.{faithful_sample}
use Rattle.dsv_unroll.proofs.Breaking.{inputs_mean_later}
use Rattle.dsv_unroll.proofs.SetTerms.{SaysOf, is_inside, set_says}

-- ---- a state
pub set_ready : (net : Net) (t : TermsView) (zero_bit : TermId) (registers inside : List TermId) → IsNetlist net → AreStatesReady net t zero_bit registers inside → IsSetReady t zero_bit registers
set_ready net t zero_bit registers inside h r =
    record { sound = r.sound; zero_has_bit = r.zero_has_bit; registers_stand = r.registers_stand; few = (let few = h.few_registers in let c = r.count in omega arith) }

pub shaped_for : (net : Net) (candidate : Candidate) (t : TermsView) (zero_bit : TermId) (registers inside : List TermId) → AreStatesReady net t zero_bit registers inside → is_shaped (length net.next) candidate ≡ true → is_shaped (length registers) candidate ≡ true
shaped_for net candidate t zero_bit registers inside r h = subst (λ (k : ℕ). is_shaped k candidate ≡ true) (sym r.count) h

pub state_says : (net : Net) (candidate : Candidate) (t : TermsView) (zero_bit : TermId) (registers inside : List TermId) → IsNetlist net → is_shaped (length net.next) candidate ≡ true → AreStatesReady net t zero_bit registers inside
    → SaysOf net.format t zero_bit registers (is_inside candidate) (set_term (width net.format) zero_bit t candidate registers)
state_says net candidate t zero_bit registers inside h shaped r = set_says net.format t zero_bit registers candidate (set_ready net t zero_bit registers inside h r) (shaped_for net candidate t zero_bit registers inside r shaped)

pub states_ready_with : (net : Net) (t u : TermsView) (zero_bit : TermId) (registers inside : List TermId) (here : TermId) → AreStatesReady net t zero_bit registers inside → Adds t u here 1 → AreStatesReady net u zero_bit registers (inside ++ here ∷ [])
states_ready_with net t u zero_bit registers inside here r a =
    record {
      sound = a.sound;
      zero_has_bit = bits_kept t u zero_bit 1 a.kept r.zero_has_bit;
      registers_stand = all_later t u registers a.kept r.registers_stand;
      count = r.count;
      inside_bits = bits_push u inside here (bits_later t u inside a.kept r.inside_bits) (bit_added t u here a);
    }

-- ---- the states so far
-- The states so far and the inputs to come, where these are the words in the registers, and whether each state is in the set.
pub record StatesStand (net : Net) (values : List ℕ) (zero_bit : TermId) (t : TermsView) (xs : List TermId) (zs : List ℤ) (s : StateTerms) (rs : List ℤ) (truths : List Bool) : Type 0 where
  pub ready : AreStatesReady net s.terms zero_bit s.registers s.inside
  pub inputs : s.terms.inputs ≡ t.inputs
  pub kept : KeepsTerms t s.terms
  pub zero_bit_word : word_of s.terms values zero_bit ≡ bit_of false
  pub zero_bit_means : Means s.terms values zero_bit (pos 0)
  pub registers_mean : AllMean s.terms values s.registers rs
  pub words : All (IsWord net.format) rs
  pub inside_mean : BitsMean s.terms values s.inside truths
  pub inputs_stand : AreAllValues s.terms xs
  pub inputs_mean : InputsMean net.format s.terms values xs zs

with_state_stands : (net : Net) (values : List ℕ) (zero_bit : TermId) (candidate : Candidate) (t : TermsView) (xs : List TermId) (zs : List ℤ) (s : StateTerms) (rs : List ℤ) (truths : List Bool) → IsNetlist net → is_shaped (length net.next) candidate ≡ true → StatesStand net values zero_bit t xs zs s rs truths
    → StatesStand net values zero_bit t xs zs (with_state net zero_bit candidate s) rs (truths ++ is_inside candidate rs ∷ [])
with_state_stands net values zero_bit candidate t xs zs s rs truths h shaped c =
    let b = set_term (width net.format) zero_bit s.terms candidate s.registers in
    let q = state_says net candidate s.terms zero_bit s.registers s.inside h shaped c.ready in
    let k = q.adds.kept in
    let r = c.ready in
    record {
      ready = states_ready_with net s.terms b.terms zero_bit s.registers s.inside b.id r q.adds;
      inputs = q.adds.inputs ∙ c.inputs;
      kept = KeepsTerms-both t s.terms b.terms c.kept k;
      zero_bit_word = k.words values zero_bit r.zero_has_bit.stands ∙ c.zero_bit_word;
      zero_bit_means = means_later s.terms b.terms values zero_bit (pos 0) k r.zero_has_bit.stands c.zero_bit_means;
      registers_mean = mean_later s.terms b.terms values s.registers rs k r.registers_stand c.registers_mean;
      words = c.words;
      inside_mean = bits_mean_push b.terms values s.inside truths b.id (is_inside candidate rs) (bits_mean_later s.terms b.terms values s.inside truths k r.inside_bits c.inside_mean)
          (q.word values rs (record { zero_bit_means = c.zero_bit_means; registers_mean = c.registers_mean; words = c.words }));
      inputs_stand = all_later s.terms b.terms xs k c.inputs_stand;
      inputs_mean = inputs_mean_later net.format s.terms b.terms values xs zs k (λ i p. (c.inputs_stand.stand i p).stands) c.inputs_mean;
    }

tail_inputs : (f : Format) (t : TermsView) (values : List ℕ) (x : TermId) (xs : List TermId) (z : ℤ) (zs : List ℤ) → InputsMean f t values (x ∷ xs) (z ∷ zs) → InputsMean f t values xs zs
tail_inputs f t values x xs z zs m = record { count = (let c = m.count in omega arith); each = λ i p. m.each (suc i) (omega arith); words = All-tail (IsWord f) z zs m.words }

with_next_stands : (net : Net) (values : List ℕ) (zero_bit : TermId) (t : TermsView) (x : TermId) (xs : List TermId) (z : ℤ) (zs : List ℤ) (s : StateTerms) (rs : List ℤ) (truths : List Bool) → IsNetlist net → StatesStand net values zero_bit t (x ∷ xs) (z ∷ zs) s rs truths
    → StatesStand net values zero_bit t xs zs (with_next net zero_bit x s) (step_of net rs z).past truths
with_next_stands net values zero_bit t x xs z zs s rs truths h c =
    let r = c.ready in
    let words : AreWords net rs z = record { many = sym c.registers_mean.count ∙ r.count; words = c.words; input = All-head (IsWord net.format) z zs c.inputs_mean.words } in
    let u = sample_terms fit_rule.Faithful net s.registers x s.terms zero_bit in
    let m = faithful_sample net values s.terms s.registers x zero_bit rs z h words r.sound r.zero_has_bit c.zero_bit_word r.registers_stand c.registers_mean (c.inputs_stand.stand 0 (omega arith)) (c.inputs_mean.each 0 (omega arith)) in
    let k = m.kept in
    let rest = tail_values s.terms x xs c.inputs_stand in
    record {
      ready = record {
        sound = m.sound;
        zero_has_bit = bits_kept s.terms u.terms zero_bit 1 k r.zero_has_bit;
        registers_stand = m.registers_stand;
        count = length-map net.next (term_at u.ids);
        inside_bits = bits_later s.terms u.terms s.inside k r.inside_bits;
      };
      inputs = m.inputs ∙ c.inputs;
      kept = KeepsTerms-both t s.terms u.terms c.kept k;
      zero_bit_word = k.words values zero_bit r.zero_has_bit.stands ∙ c.zero_bit_word;
      zero_bit_means = means_later s.terms u.terms values zero_bit (pos 0) k r.zero_has_bit.stands c.zero_bit_means;
      registers_mean = m.registers_mean;
      words = m.words;
      inside_mean = bits_mean_later s.terms u.terms values s.inside truths k r.inside_bits c.inside_mean;
      inputs_stand = all_later s.terms u.terms xs k rest;
      inputs_mean = inputs_mean_later net.format s.terms u.terms values xs zs k (λ i p. (rest.stand i p).stands) (tail_inputs net.format s.terms values x xs z zs c.inputs_mean);
    }

-- whether each state is in the set: the one before these inputs, those between them, and the one after the last
abbrev pub insides : Net → Candidate → List ℤ → List ℤ → List Bool
insides net candidate rs [] = is_inside candidate rs ∷ []
insides net candidate rs (z ∷ zs) = is_inside candidate rs ∷ insides net candidate (step_of net rs z).past zs

pub states_stand : (net : Net) (values : List ℕ) (zero_bit : TermId) (candidate : Candidate) (t : TermsView) (xs : List TermId) (zs : List ℤ) (s : StateTerms) (rs : List ℤ) (truths : List Bool) → IsNetlist net → is_shaped (length net.next) candidate ≡ true
    → StatesStand net values zero_bit t xs zs s rs truths → StatesStand net values zero_bit t [] [] (states_from net zero_bit candidate s xs) (past_after (step_of net) rs zs) (truths ++ insides net candidate rs zs)
states_stand net values zero_bit candidate t [] [] s rs truths h shaped c = with_state_stands net values zero_bit candidate t [] [] s rs truths h shaped c
states_stand net values zero_bit candidate t [] (z ∷ zs) s rs truths h shaped c = absurd (let k = c.inputs_mean.count in omega arith)
states_stand net values zero_bit candidate t (x ∷ xs) [] s rs truths h shaped c = absurd (let k = c.inputs_mean.count in omega arith)
states_stand net values zero_bit candidate t (x ∷ xs) (z ∷ zs) s rs truths h shaped c =
    let here = with_state net zero_bit candidate s in
    let next = with_next net zero_bit x here in
    let past = (step_of net rs z).past in
    let now = truths ++ is_inside candidate rs ∷ [] in
    let one = with_state_stands net values zero_bit candidate t (x ∷ xs) (z ∷ zs) s rs truths h shaped c in
    let rest = states_stand net values zero_bit candidate t xs zs next past now h shaped (with_next_stands net values zero_bit t x xs z zs here rs now h one) in
    subst (StatesStand net values zero_bit t [] [] (states_from net zero_bit candidate next xs) (past_after (step_of net) past zs)) (append_assoc truths (is_inside candidate rs ∷ []) (insides net candidate past zs)) rest

-- ---- as the code has it
pub next_ready : (net : Net) (zero_bit x : TermId) (t u : TermsView) (registers seen ids shown next inside : List TermId) (overflowed : TermId) → IsNetlist net → AreStatesReady net t zero_bit registers inside → KeepsTerms t u → AreReady net seen x u ids overflowed → length ids ≡ length net.nodes → shown ≡ ids
    → next ≡ map (term_at shown) net.next → AreStatesReady net u zero_bit next inside
next_ready net zero_bit x t u registers seen ids shown next inside overflowed h r k a c e n =
    let m : next ≡ map (term_at ids) net.next = n ∙ ap (λ (js : List TermId). map (term_at js) net.next) e in
    record {
      sound = a.sound;
      zero_has_bit = bits_kept t u zero_bit 1 k r.zero_has_bit;
      registers_stand = subst (AreAllValues u) (sym m) (loaded_stand net u ids h c a.nodes);
      count = ap length m ∙ length-map net.next (term_at ids);
      inside_bits = bits_later t u inside k r.inside_bits;
    }

-- the inputs from one on are to come
pub record IsWalking (net : Net) (zero_bit : TermId) (candidate : Candidate) (t : TermsView) (xs : List TermId) (k : ℕ) (s end : StateTerms) : Type 0 where
  pub ready : AreStatesReady net s.terms zero_bit s.registers s.inside
  pub inputs_stand : AreAllValues s.terms xs
  pub kept : KeepsTerms t s.terms
  pub count : length s.inside ≡ k
  pub same : states_from net zero_bit candidate s (drop k xs) ≡ end

pub walk_step : (net : Net) (zero_bit : TermId) (candidate : Candidate) (t : TermsView) (xs : List TermId) (k : ℕ) (s here now end : StateTerms) (x : TermId) → k < length xs → x ≡ term_at xs k → IsWalking net zero_bit candidate t xs k s end → here ≡ with_state net zero_bit candidate s → KeepsTerms s.terms here.terms
    → now ≡ with_next net zero_bit x here → AreStatesReady net now.terms zero_bit now.registers now.inside → KeepsTerms here.terms now.terms → IsWalking net zero_bit candidate t xs (k + 1) now end
walk_step net zero_bit candidate t xs k s here now end x l e w b kb n ready kn =
    let d : drop k xs ≡ x ∷ drop (k + 1) xs = drop_more xs k (record { 0 = 0 }) l ∙ ap (λ (y : TermId). y ∷ drop (k + 1) xs) (sym e) in
    let all = KeepsTerms-both s.terms here.terms now.terms kb kn in
    let first = with_state net zero_bit candidate s in
    let step : states_from net zero_bit candidate s (x ∷ drop (k + 1) xs) ≡ end = ap (states_from net zero_bit candidate s) (sym d) ∙ w.same in
    let more : now ≡ with_next net zero_bit x first = n ∙ ap (with_next net zero_bit x) b in
    let c : length now.inside ≡ length s.inside + 1 = ap (λ (r : StateTerms). length r.inside) more ∙ length_push s.inside (set_term (width net.format) zero_bit s.terms candidate s.registers).id in
    record {
      ready = ready;
      inputs_stand = all_later s.terms now.terms xs all w.inputs_stand;
      kept = KeepsTerms-both t s.terms now.terms w.kept all;
      count = (let o = w.count in omega arith);
      same = ap (λ (r : StateTerms). states_from net zero_bit candidate r (drop (k + 1) xs)) more ∙ step;
    }
