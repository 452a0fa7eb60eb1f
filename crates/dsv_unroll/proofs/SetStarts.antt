-- What the goal of a set begins with: the terms spell the registers' words and the inputs' values, and the tests say whether the inputs are in range.
use Rattle.std.proofs.Common.{◌≡◌, ℕ, ◌+◌, ◌^◌, ◌<◌, true, false, List, [], refl, arith, ap, sym, subst, ◌∙◌, length, map, replicate}
use Rattle.std.specs.Prelude.{slice_index, ◌≤ℤ◌}
use Rattle.std.proofs.Math.IntN.{ℤ, pos}
use Rattle.std.proofs.lemmas.Nat.{pow_pos}
use Rattle.std.proofs.lemmas.List.{length-map, length-replicate}
use Rattle.std.proofs.lemmas.List.Elements.{All-replicate}
use Rattle.dsv_word.specs.Words.{width, lo, hi, IsWord}
use Rattle.dsv_word.proofs.Meanings.{zero_word}
use Rattle.dsv_system.specs.Systems.{zeros}
use Rattle.dsv_netlist.specs.Nodes.{Net}
use Rattle.dsv_template.specs.declared.verdict.SetPart.{SetPart}
use Rattle.dsv_template.specs.declared.verdict.SetPart.TheVariants as set_part
use Rattle.dsv_term.specs.declared.node.TermId.{TermId}
use Rattle.dsv_term.specs.declared.node.TermNode.TheVariants.{Constant}
use Rattle.dsv_term.specs.Building.{with_node}
use Rattle.dsv_term.specs.Terms.{word_of, HasBits}
use Rattle.dsv_term.specs.TermsView.{TermsView, no_terms}
use Rattle.dsv_term.specs.Word.{bit_of}
use Rattle.dsv_term.proofs.Building.{KeepsTerms-self, constant_gives}
use Rattle.dsv_unroll.specs.CycleGoals.{StartTerms, starts_from}
use Rattle.dsv_unroll.specs.Goals.{InputTerms, inputs_from}
use Rattle.dsv_unroll.specs.Ready.{IsStartReady}
use Rattle.dsv_unroll.specs.SetGoals.{SetStart, registers_of, set_start}
use Rattle.dsv_unroll.proofs.NodeTerms.{width_small}
use Rattle.dsv_unroll.proofs.Follows.{Means, means_later, means_added}
use Rattle.dsv_unroll.proofs.InputTests.{bits_kept, bit_added, no_bits_mean, InputsStand, inputs_stand, words_at, all_in_range}
use Rattle.dsv_unroll.proofs.ValueTerms.{value_of}
use Rattle.dsv_unroll.proofs.CycleTerms.{all_later, mean_later}
use Rattle.dsv_unroll.proofs.CycleGoal.{StartsDone, starts_stand, zero_bit_starts}
use Rattle.dsv_unroll.proofs.Breaking.{none_sound, none_stand, inputs_mean, zero_bit_spelled, word_width, words_at-length, same_items}
use Rattle.dsv_unroll.proofs.SetBreaks.{SetStands}
use Rattle.dsv_unroll.proofs.SetWords.{AreStart}

-- the registers' words, and how many inputs they have
abbrev pub start_words : Net → SetPart → List ℕ → List ℤ
start_words net set_part.Base values = zeros (length net.next)
start_words net set_part.Step values = words_at (width net.format) values 0 (length net.next)
start_words net set_part.Safe values = words_at (width net.format) values 0 (length net.next)

abbrev pub start_inputs : Net → SetPart → ℕ
start_inputs net set_part.Base = 0
start_inputs net set_part.Step = length net.next
start_inputs net set_part.Safe = length net.next

-- ---- the registers
-- the zero in one bit that a goal begins with
pub record ZeroBitStands (values : List ℕ) (t : TermsView) (zero_bit : TermId) : Type 0 where
  pub bit : HasBits t zero_bit 1
  pub word : word_of t values zero_bit ≡ bit_of false
  pub means : Means t values zero_bit (pos 0)

zero_bit_stands : (values : List ℕ) → let u = with_node no_terms (Constant 1 0) in ZeroBitStands values u.terms u.id
zero_bit_stands values =
    let u = with_node no_terms (Constant 1 0) in
    let g = constant_gives no_terms 1 0 none_sound (record { some = omega arith; narrow = omega arith }) (omega arith) in
    record { bit = bit_added no_terms u.terms u.id g.adds; word = g.word values; means = means_added u.terms values u.id 1 (pos 0) g.adds.width (record { word = g.word values; fits = zero_bit_spelled }) }

no_inputs : length (with_node no_terms (Constant 1 0)).terms.inputs ≡ 0
no_inputs = ap length (constant_gives no_terms 1 0 none_sound (record { some = omega arith; narrow = omega arith }) (omega arith)).adds.inputs

free_registers : (net : Net) (values : List ℕ) → ((j : ℕ) → j < length net.next → slice_index values j < 2 ^ width net.format)
    → let u = with_node no_terms (Constant 1 0) in StartsDone net.format values u.terms (starts_from (width net.format) (length net.next) (record { terms = u.terms; ids = [] })) (words_at (width net.format) values 0 (length net.next)) (length net.next)
free_registers net values l =
    let n = width net.format in
    let m = length net.next in
    let u = with_node no_terms (Constant 1 0) in
    let first : StartTerms = record { terms = u.terms; ids = [] } in
    let end = starts_from n m first in
    let zero = no_inputs in
    let none : 0 + m ≡ m = omega arith in
    let d = starts_stand net.format values u.terms m first [] (λ j p. l j (omega arith)) (zero_bit_starts net.format values 0) in
    let e : StartsDone net.format values u.terms end (words_at n values 0 m) (0 + m) = subst (λ (k : ℕ). StartsDone net.format values u.terms end (words_at n values k m) (k + m)) zero d in
    subst (λ (k : ℕ). StartsDone net.format values u.terms end (words_at n values 0 m) k) none e

registers_done : (net : Net) (part : SetPart) (values : List ℕ) → ((j : ℕ) → j < start_inputs net part → slice_index values j < 2 ^ width net.format)
    → let u = with_node no_terms (Constant 1 0) in StartsDone net.format values u.terms (registers_of net u.terms u.id part) (start_words net part values) (start_inputs net part)
registers_done net set_part.Base values l = record { stands = zero_bit_starts net.format values (length net.next); inputs = no_inputs }
registers_done net set_part.Step values l = free_registers net values l
registers_done net set_part.Safe values l = free_registers net values l

pub are_start : (net : Net) (part : SetPart) (values : List ℕ) → ((j : ℕ) → j < start_inputs net part → slice_index values j < 2 ^ width net.format) → AreStart net part (start_words net part values)
are_start net set_part.Base values l = record { many = length-replicate (length net.next) (pos 0); words = All-replicate (IsWord net.format) (length net.next) (pos 0) (zero_word net.format); zero_base = λ e. refl }
are_start net set_part.Step values l = record { many = words_at-length (width net.format) values 0 (length net.next); words = (free_registers net values l).stands.words; zero_base = λ e. absurd cc }
are_start net set_part.Safe values l = record { many = words_at-length (width net.format) values 0 (length net.next); words = (free_registers net values l).stands.words; zero_base = λ e. absurd cc }

-- ---- the inputs
-- so many inputs, after those of the registers
pub record StartStands (net : Net) (low high : ℤ) (samples : ℕ) (part : SetPart) (values : List ℕ) (s : SetStart) : Type 0 where
  pub stands : SetStands net values s (start_words net part values) (map (value_of (width net.format) low high) (words_at (width net.format) values (start_inputs net part) samples)) (all_in_range low high true (words_at (width net.format) values (start_inputs net part) samples))
  pub inputs : s.terms.inputs ≡ replicate (start_inputs net part + samples) (width net.format)

pub start_stands : (net : Net) (low high : ℤ) (samples : ℕ) (part : SetPart) (values : List ℕ) → low ≤ℤ hi (width net.format) → lo (width net.format) ≤ℤ high → ((j : ℕ) → j < start_inputs net part + samples → slice_index values j < 2 ^ width net.format)
    → StartStands net low high samples part values (set_start net low high samples part)
start_stands net low high samples part values l h f =
    let n = width net.format in
    let first = start_inputs net part in
    let u = with_node no_terms (Constant 1 0) in
    let zero_bit = zero_bit_stands values in
    let registers = registers_of net u.terms u.id part in
    let rs = start_words net part values in
    let d = registers_done net part values (λ j p. f j (omega arith)) in
    let r = d.stands in
    let none : InputTerms = record { terms = registers.terms; ids = []; tests = [] } in
    let all = inputs_stand n low high values registers.terms samples none [] true (word_width net.format) l h (λ j p. f j (let e = d.inputs in omega arith)) (none_stand n low high values registers.terms r.sound r.widths) in
    let i = inputs_from n low high samples none in
    let zs = words_at n values first samples in
    let q = all_in_range low high true zs in
    let s : InputsStand n low high values registers.terms i zs q = subst (λ (k : ℕ). InputsStand n low high values registers.terms i (words_at n values k samples) (all_in_range low high true (words_at n values k samples))) d.inputs all in
    let k = s.kept in
    let kn = r.kept in
    let bit = bits_kept u.terms registers.terms u.id 1 kn zero_bit.bit in
    let many : length rs ≡ length net.next = (are_start net part values (λ j p. f j (omega arith))).many in
    let small = width_small net.format in
    record {
      stands = record {
        states = record {
          ready = record {
            sound = s.sound;
            zero_has_bit = bits_kept registers.terms i.terms u.id 1 k bit;
            registers_stand = all_later registers.terms i.terms registers.ids k r.stand;
            count = r.mean.count ∙ many;
            inside_bits = record { stand = λ j p. absurd (omega arith) };
          };
          inputs = refl;
          kept = KeepsTerms-self i.terms;
          zero_bit_word = k.words values u.id bit.stands ∙ (kn.words values u.id zero_bit.bit.stands ∙ zero_bit.word);
          zero_bit_means = means_later registers.terms i.terms values u.id (pos 0) k bit.stands (means_later u.terms registers.terms values u.id (pos 0) kn zero_bit.bit.stands zero_bit.means);
          registers_mean = mean_later registers.terms i.terms values registers.ids rs k r.stand r.mean;
          words = r.words;
          inside_mean = no_bits_mean i.terms values;
          inputs_stand = record { stand = λ j p. (let v = s.stand j p in record { stands = v.stands; narrow = (let w = v.narrow in omega arith) }) };
          inputs_mean = inputs_mean net.format values low high registers.terms i zs q s;
        };
        tests_bits = s.bits;
        tests = s.tests;
      };
      inputs = same_items n i.terms.inputs (first + samples) (let c = s.count in let w = s.words in let e = d.inputs in omega (arith, words_at-length n values first samples)) s.widths;
    }

-- ---- as the code has it
pub no_values : (n j : ℕ) → slice_index [] j < 2 ^ n
no_values n j = pow_pos n

pub record IsStarted (net : Net) (samples : ℕ) (s : SetStart) : Type 0 where
  pub ready : IsStartReady net s
  pub count : length s.inputs ≡ samples

pub set_started : (net : Net) (low high : ℤ) (samples : ℕ) (part : SetPart) (s : SetStart) → low ≤ℤ hi (width net.format) → lo (width net.format) ≤ℤ high → s ≡ set_start net low high samples part → IsStarted net samples s
set_started net low high samples part s l h e =
    let first = start_inputs net part in
    let c = (start_stands net low high samples part [] l h (λ j p. no_values (width net.format) j)).stands in
    let zs = words_at (width net.format) [] first samples in
    subst (IsStarted net samples) (sym e) (record {
      ready = record { states = c.states.ready; inputs_stand = c.states.inputs_stand; tests_bits = c.tests_bits };
      count = c.states.inputs_mean.count ∙ (length-map zs (value_of (width net.format) low high) ∙ words_at-length (width net.format) [] first samples);
    })
