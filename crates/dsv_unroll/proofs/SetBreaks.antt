-- The bits that say whether a sentence of a set is broken.
use Rattle.std.proofs.Common.{◌≡◌, ℕ, ◌+◌, ◌<◌, Bool, true, false, not, ◌&&◌, List, [], ◌∷◌, refl, arith, ap, sym, ◌∙◌, length, get_or, take}
use Rattle.std.proofs.Math.IntN.{ℤ}
use Rattle.std.proofs.lemmas.List.{length-take, get_or-take}
use Rattle.dsv_word.specs.Words.{width}
use Rattle.dsv_netlist.specs.Nodes.{Net, step_of}
use Rattle.dsv_netlist.specs.Conditions.{IsNetlist}
use Rattle.dsv_template.specs.declared.candidate.Candidate.{Candidate}
use Rattle.dsv_template.specs.declared.verdict.SetPart.{SetPart}
use Rattle.dsv_template.specs.declared.verdict.SetPart.TheVariants as set_part
use Rattle.dsv_template.specs.Candidates.{is_shaped}
use Rattle.dsv_term.specs.declared.node.TermId.{TermId}
use Rattle.dsv_term.specs.declared.node.TermNode.TheVariants.{Constant, And, Not}
use Rattle.dsv_term.specs.declared.word.Word.{Word}
use Rattle.dsv_term.specs.Building.{with_node}
use Rattle.dsv_term.specs.Growth.{AreSound}
use Rattle.dsv_term.specs.Terms.{KeepsTerms, width_of, word_of}
use Rattle.dsv_term.specs.TermsView.{TermsView}
use Rattle.dsv_term.specs.Word.{bit_of, and_of, complement_of}
use Rattle.dsv_term.proofs.Made.{KeepsTerms-both}
use Rattle.dsv_term.proofs.Building.{Adds-both, Adds-width, later, constant_gives, complement_gives, and_gives}
use Rattle.dsv_term.proofs.Complement.{and-bits, complement-bit}
use Rattle.dsv_unroll.specs.Goals.{RunTerms, run_from, conjunction_from}
use Rattle.dsv_unroll.specs.Ready.{AreRunReady, AreBits, AreAllValues, AreStatesReady}
use Rattle.dsv_unroll.specs.Rules.{term_at}
use Rattle.dsv_unroll.specs.SetGoals.{set_term, StateTerms, SetStart, states_of, base_break, step_break, safe_break, break_of, samples_of}
use Rattle.dsv_unroll.proofs.Runs.{breaks_from, run_follows}
use Rattle.dsv_unroll.proofs.SampleSteps.{bits_later}
use Rattle.dsv_unroll.proofs.InputTests.{bits_kept, bit_added, adds_after, joined, joined-split, BitsMean, bits_mean_later, TestsMean, tests_later, Joins, conjunction_joins}
use Rattle.dsv_unroll.proofs.CycleTerms.{all_later, mean_later}
use Rattle.dsv_unroll.proofs.Breaking.{inputs_mean_later}
use Rattle.dsv_unroll.proofs.SetTerms.{is_inside}
use Rattle.dsv_unroll.proofs.SetStates.{StatesStand, insides, state_says, states_stand}

-- the first state of a start
abbrev pub first_state : SetStart → StateTerms
first_state s = record { terms = s.terms; registers = s.registers; inside = [] }

-- What a goal begins with: these are the words in the registers and the values of the inputs, and the tests hold where q does.
pub record SetStands (net : Net) (values : List ℕ) (s : SetStart) (rs vs : List ℤ) (q : Bool) : Type 0 where
  pub states : StatesStand net values s.zero_bit s.terms s.inputs vs (first_state s) rs []
  pub tests_bits : AreBits s.terms s.tests
  pub tests : TestsMean s.terms values s.tests q

-- ---- the base
pub base_joins : (net : Net) (values : List ℕ) (candidate : Candidate) (s : SetStart) (rs vs : List ℤ) (q : Bool) → IsNetlist net → is_shaped (length net.next) candidate ≡ true → SetStands net values s rs vs q
    → Joins values s.terms (base_break net candidate s) (not (joined true (insides net candidate rs vs)))
base_joins net values candidate s rs vs q h shaped c =
    let truths = insides net candidate rs vs in
    let states = states_of net candidate s in
    let st = states_stand net values s.zero_bit candidate s.terms s.inputs vs (first_state s) rs [] h shaped c.states in
    let whole = with_node states.terms (Constant 1 1) in
    let g = constant_gives states.terms 1 1 st.ready.sound (record { some = omega arith; narrow = omega arith }) (omega arith) in
    let bits = bits_later states.terms whole.terms states.inside g.adds.kept st.ready.inside_bits in
    let mean = bits_mean_later states.terms whole.terms values states.inside truths g.adds.kept st.ready.inside_bits st.inside_mean in
    let j = conjunction_joins values whole.terms whole.id states.inside truths true g.adds.sound (bit_added states.terms whole.terms whole.id g.adds) (g.word values) bits mean in
    let all = conjunction_from whole states.inside in
    let n = complement_gives all.terms all.id j.adds.sound j.adds.stands in
    let b = with_node all.terms (Not all.id) in
    let one = Adds-width all.terms b.terms b.id (width_of all.terms all.id) 1 n.adds j.adds.width in
    record {
      adds = adds_after s.terms states.terms b.terms b.id 1 st.inputs st.kept
          (Adds-both states.terms whole.terms b.terms whole.id b.id 1 1 g.adds (Adds-both whole.terms all.terms b.terms all.id b.id 1 1 j.adds one));
      word = n.word values ∙ (ap complement_of j.word ∙ complement-bit (joined true truths));
    }

-- ---- the step
bits_take : (t : TermsView) (ids : List TermId) (d : ℕ) → AreBits t ids → AreBits t (take d ids)
bits_take t ids d b =
    record {
      stand = λ i p.
          let m = length-take d ids in
          let e : term_at (take d ids) i ≡ term_at ids i = get_or-take d ids i (record { 0 = 0 }) (omega arith) in
          let k = b.stand i (omega arith) in
          rw e k;
    }

mean_take : (t : TermsView) (values : List ℕ) (ids : List TermId) (truths : List Bool) (d : ℕ) → BitsMean t values ids truths → BitsMean t values (take d ids) (take d truths)
mean_take t values ids truths d b =
    record {
      count = (let c = b.count in omega (arith, length-take d ids, length-take d truths));
      each = λ i p.
          let m = length-take d ids in
          let e : term_at (take d ids) i ≡ term_at ids i = get_or-take d ids i (record { 0 = 0 }) (omega arith) in
          let g : get_or (take d truths) i false ≡ get_or truths i false = get_or-take d truths i false (omega arith) in
          rw (e, g) (b.each i (omega arith));
    }

insides-length : (net : Net) (candidate : Candidate) (rs zs : List ℤ) → length (insides net candidate rs zs) ≡ length zs + 1
insides-length net candidate rs [] = refl
insides-length net candidate rs (z ∷ zs) = (let e = insides-length net candidate (step_of net rs z).past zs in omega arith)

-- these states are in the set, and the one after them isn't
abbrev pub leaves_after : ℕ → List Bool → Bool
leaves_after d truths = joined (not (get_or truths d false)) (take d truths)

pub step_joins : (net : Net) (values : List ℕ) (candidate : Candidate) (s : SetStart) (rs vs : List ℤ) (q : Bool) → IsNetlist net → is_shaped (length net.next) candidate ≡ true → length vs ≡ candidate.depth → SetStands net values s rs vs q
    → Joins values s.terms (step_break net candidate s) (leaves_after candidate.depth (insides net candidate rs vs))
step_joins net values candidate s rs vs q h shaped e c =
    let d = candidate.depth in
    let truths = insides net candidate rs vs in
    let states = states_of net candidate s in
    let st = states_stand net values s.zero_bit candidate s.terms s.inputs vs (first_state s) rs [] h shaped c.states in
    let below : d < length states.inside = (let m = st.inside_mean.count in let n = insides-length net candidate rs vs in omega arith) in
    let last = term_at states.inside d in
    let bit = st.ready.inside_bits.stand d below in
    let n = complement_gives states.terms last st.ready.sound bit.stands in
    let left = with_node states.terms (Not last) in
    let one = Adds-width states.terms left.terms left.id (width_of states.terms last) 1 n.adds bit.width in
    let word : word_of left.terms values left.id ≡ bit_of (not (get_or truths d false)) = n.word values ∙ (ap complement_of (st.inside_mean.each d below) ∙ complement-bit (get_or truths d false)) in
    let bits = bits_later states.terms left.terms states.inside one.kept st.ready.inside_bits in
    let mean = bits_mean_later states.terms left.terms values states.inside truths one.kept st.ready.inside_bits st.inside_mean in
    let j = conjunction_joins values left.terms left.id (take d states.inside) (take d truths) (not (get_or truths d false)) one.sound (bit_added states.terms left.terms left.id one) word
    (bits_take left.terms states.inside d bits) (mean_take left.terms values states.inside truths d mean) in
    let b = conjunction_from left (take d states.inside) in
    record {
      adds = adds_after s.terms states.terms b.terms b.id 1 st.inputs st.kept (Adds-both states.terms left.terms b.terms left.id b.id 1 1 one j.adds);
      word = j.word;
    }

-- ---- the safe sentence
-- the run from the registers of a start, after more terms
pub run_ready : (net : Net) (t u : TermsView) (zero_bit : TermId) (registers inputs : List TermId) → AreStatesReady net t zero_bit registers [] → AreAllValues t inputs → AreSound u → KeepsTerms t u → AreRunReady net registers inputs u zero_bit
run_ready net t u zero_bit registers inputs r i s k =
    let bit = bits_kept t u zero_bit 1 k r.zero_has_bit in
    record {
      sound = s;
      count = r.count;
      registers_stand = (all_later t u registers k r.registers_stand).stand;
      inputs_stand = (all_later t u inputs k i).stand;
      overflowed_stands = bit.stands;
      overflowed_bit = bit.width;
    }

pub safe_joins : (net : Net) (values : List ℕ) (candidate : Candidate) (s : SetStart) (rs vs : List ℤ) (q : Bool) → IsNetlist net → is_shaped (length net.next) candidate ≡ true → SetStands net values s rs vs q
    → Joins values s.terms (safe_break net candidate s) (breaks_from net false rs vs && is_inside candidate rs)
safe_joins net values candidate s rs vs q h shaped c =
    let st = c.states in
    let r = st.ready in
    let a = set_term (width net.format) s.zero_bit s.terms candidate s.registers in
    let says = state_says net candidate s.terms s.zero_bit s.registers [] h shaped r in
    let k = says.adds.kept in
    let start : RunTerms = record { terms = a.terms; registers = s.registers; overflowed = s.zero_bit } in
    let run = run_from net s.inputs start in
    let ready = run_ready net s.terms a.terms s.zero_bit s.registers s.inputs r st.inputs_stand says.adds.sound k in
    let mean = mean_later s.terms a.terms values s.registers rs k r.registers_stand st.registers_mean in
    let f = run_follows net values s.inputs vs start rs false h (sym st.registers_mean.count ∙ r.count) st.words ready (k.words values s.zero_bit r.zero_has_bit.stands ∙ st.zero_bit_word) (λ e. record { each = mean.each })
    (inputs_mean_later net.format s.terms a.terms values s.inputs vs k (λ i p. (st.inputs_stand.stand i p).stands) st.inputs_mean) in
    let l = later a.terms run.terms a.id f.kept says.adds.stands in
    let word : word_of run.terms values a.id ≡ bit_of (is_inside candidate rs) =
    l.word values ∙ says.word values rs (record { zero_bit_means = st.zero_bit_means; registers_mean = st.registers_mean; words = st.words }) in
    let g = and_gives run.terms run.overflowed a.id f.ready.sound f.stands l.stands (f.bit ∙ sym (l.width ∙ says.adds.width)) in
    let b = with_node run.terms (And run.overflowed a.id) in
    let one = Adds-width run.terms b.terms b.id (width_of run.terms run.overflowed) 1 g.adds f.bit in
    record {
      adds = adds_after s.terms run.terms b.terms b.id 1 (f.inputs ∙ says.adds.inputs) (KeepsTerms-both s.terms a.terms run.terms k f.kept) one;
      word = g.word values ∙ (ap (λ (w : Word). and_of w (word_of run.terms values a.id)) f.overflows ∙ (ap (and_of (bit_of (breaks_from net false rs vs))) word ∙ and-bits (breaks_from net false rs vs) (is_inside candidate rs)));
    }

-- ---- each sentence
-- whether a sentence is broken from these registers over these inputs
abbrev pub is_broken : Net → Candidate → SetPart → List ℤ → List ℤ → Bool
is_broken net candidate set_part.Base rs zs = not (joined true (insides net candidate rs zs))
is_broken net candidate set_part.Step rs zs = leaves_after candidate.depth (insides net candidate rs zs)
is_broken net candidate set_part.Safe rs zs = breaks_from net false rs zs && is_inside candidate rs

pub break_joins : (net : Net) (values : List ℕ) (candidate : Candidate) (part : SetPart) (s : SetStart) (rs vs : List ℤ) (q : Bool) → IsNetlist net → is_shaped (length net.next) candidate ≡ true → length vs ≡ samples_of candidate part → SetStands net values s rs vs q
    → Joins values s.terms (break_of net candidate part s) (is_broken net candidate part rs vs)
break_joins net values candidate set_part.Base s rs vs q h shaped e c = base_joins net values candidate s rs vs q h shaped c
break_joins net values candidate set_part.Step s rs vs q h shaped e c = step_joins net values candidate s rs vs q h shaped e c
break_joins net values candidate set_part.Safe s rs vs q h shaped e c = safe_joins net values candidate s rs vs q h shaped c

-- and the tests hold
pub root_joins : (net : Net) (values : List ℕ) (candidate : Candidate) (part : SetPart) (s : SetStart) (rs vs : List ℤ) (q : Bool) → IsNetlist net → is_shaped (length net.next) candidate ≡ true → length vs ≡ samples_of candidate part → SetStands net values s rs vs q
    → Joins values s.terms (conjunction_from (break_of net candidate part s) s.tests) (is_broken net candidate part rs vs && q)
root_joins net values candidate part s rs vs q h shaped e c =
    let b = break_of net candidate part s in
    let broken = is_broken net candidate part rs vs in
    let j = break_joins net values candidate part s rs vs q h shaped e c in
    let t = tests_later s.terms b.terms values s.tests q j.adds.kept c.tests_bits c.tests in
    let r = conjunction_joins values b.terms b.id s.tests t.truths broken j.adds.sound (bit_added s.terms b.terms b.id j.adds) j.word (bits_later s.terms b.terms s.tests j.adds.kept c.tests_bits) t.mean in
    let root = conjunction_from b s.tests in
    record {
      adds = Adds-both s.terms b.terms root.terms b.id root.id 1 1 j.adds r.adds;
      word = r.word ∙ ap bit_of (joined-split broken t.truths ∙ ap (λ (d : Bool). broken && d) t.all);
    }
