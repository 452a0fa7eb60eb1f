-- The root of a set's goal is 1 exactly where the words break the sentence.
use Rattle.std.proofs.Common.{◌≡◌, ℕ, zero, suc, ◌+◌, ◌^◌, ◌<◌, true, ◌&&◌, List, [], ◌∷◌, ◌++◌, refl, arith, ap, sym, subst, ◌∙◌, length, map, replicate}
use Rattle.std.specs.Prelude.{slice_index, ◌≤ℤ◌}
use Rattle.std.proofs.Math.IntN.{ℤ}
use Rattle.std.proofs.lemmas.List.{length-map, length-replicate, get_or-replicate}
use Rattle.dsv_word.specs.Words.{width, lo, hi}
use Rattle.dsv_netlist.specs.Nodes.{Net}
use Rattle.dsv_netlist.specs.Conditions.{IsNetlist}
use Rattle.dsv_template.specs.declared.candidate.Candidate.{Candidate}
use Rattle.dsv_template.specs.declared.verdict.SetPart.{SetPart}
use Rattle.dsv_template.specs.declared.verdict.SetPart.TheVariants as set_part
use Rattle.dsv_template.specs.Candidates.{is_shaped}
use Rattle.dsv_term.specs.declared.node.TermId.{TermId}
use Rattle.dsv_term.specs.Building.{Built, built_of}
use Rattle.dsv_term.specs.Terms.{AreValues, word_of, HasBits}
use Rattle.dsv_term.specs.TermsView.{TermsView}
use Rattle.dsv_term.specs.Word.{bit_of}
use Rattle.dsv_term.proofs.Building.{Adds-built}
use Rattle.dsv_unroll.specs.Ready.{AreBits}
use Rattle.dsv_unroll.specs.SetGoals.{SetStart, set_start, break_of, samples_of, set_inputs, set_of}
use Rattle.dsv_unroll.specs.Words.{spelled_words, Tells, BreaksPart}
use Rattle.dsv_unroll.proofs.SampleSteps.{bits_later}
use Rattle.dsv_unroll.proofs.InputTests.{bit_added, word_at, words_at, all_in_range}
use Rattle.dsv_unroll.proofs.ValueTerms.{value_of}
use Rattle.dsv_unroll.proofs.Breaking.{values_say, tells_by, words_map, words_at-length}
use Rattle.dsv_unroll.proofs.SetTerms.{shaped_from}
use Rattle.dsv_unroll.proofs.SetBreaks.{is_broken, break_joins, root_joins}
use Rattle.dsv_unroll.proofs.SetWords.{all_words, words_decide}
use Rattle.dsv_unroll.proofs.SetStarts.{start_words, start_inputs, are_start, start_stands, no_values}

-- ---- the words
words_at-both : (n : ℕ) (values : List ℕ) (j a b : ℕ) → words_at n values j (a + b) ≡ words_at n values j a ++ words_at n values (j + a) b
words_at-both n values j zero b =
    let e : 0 + b ≡ b = omega arith in
    let d : j ≡ j + 0 = omega arith in
    ap (words_at n values j) e ∙ ap (λ (k : ℕ). words_at n values k b) d
words_at-both n values j (suc a) b =
    let e : suc a + b ≡ suc (a + b) = omega arith in
    let d : j + 1 + a ≡ j + suc a = omega arith in
    ap (words_at n values j) e ∙ ap (λ (zs : List ℤ). word_at n values j ∷ zs) (words_at-both n values (j + 1) a b ∙ ap (λ (k : ℕ). words_at n values (j + 1) a ++ words_at n values k b) d)

behind : (net : Net) (values : List ℕ) (samples : ℕ) → words_at (width net.format) values 0 (length net.next + samples) ≡ words_at (width net.format) values 0 (length net.next) ++ words_at (width net.format) values (length net.next) samples
behind net values samples = let e : 0 + length net.next ≡ length net.next = omega arith in words_at-both (width net.format) values 0 (length net.next) samples ∙ ap (λ (k : ℕ). words_at (width net.format) values 0 (length net.next) ++ words_at (width net.format) values k samples) e

-- the words of a goal's inputs, in their order
in_order : (net : Net) (part : SetPart) (values : List ℕ) (samples : ℕ) → words_at (width net.format) values 0 (start_inputs net part + samples) ≡ all_words part (start_words net part values) (words_at (width net.format) values (start_inputs net part) samples)
in_order net set_part.Base values samples = let e : 0 + samples ≡ samples = omega arith in ap (words_at (width net.format) values 0) e
in_order net set_part.Step values samples = behind net values samples
in_order net set_part.Safe values samples = behind net values samples

count_of : (net : Net) (candidate : Candidate) (part : SetPart) → start_inputs net part + samples_of candidate part ≡ set_inputs net candidate part
count_of net candidate set_part.Base = omega arith
count_of net candidate set_part.Step = refl
count_of net candidate set_part.Safe = refl

-- ---- the goal
pub record SetGoalStands (net : Net) (low high : ℤ) (candidate : Candidate) (part : SetPart) (values : List ℕ) (g : Built) : Type 0 where
  pub word : (let zs = words_at (width net.format) values (start_inputs net part) (samples_of candidate part) in word_of g.terms values g.id ≡ bit_of (is_broken net candidate part (start_words net part values) zs && all_in_range low high true zs))
  pub inputs : g.terms.inputs ≡ replicate (set_inputs net candidate part) (width net.format)

goal_stands : (net : Net) (low high : ℤ) (candidate : Candidate) (part : SetPart) (values : List ℕ) → IsNetlist net → low ≤ℤ hi (width net.format) → lo (width net.format) ≤ℤ high → is_shaped (length net.next) candidate ≡ true
    → ((j : ℕ) → j < set_inputs net candidate part → slice_index values j < 2 ^ width net.format) → SetGoalStands net low high candidate part values (set_of net low high candidate part)
unfolding set_of
goal_stands net low high candidate part values net_ l h shaped f =
    let n = width net.format in
    let samples = samples_of candidate part in
    let s = set_start net low high samples part in
    let rs = start_words net part values in
    let zs = words_at n values (start_inputs net part) samples in
    let vs = map (value_of n low high) zs in
    let q = all_in_range low high true zs in
    let c = count_of net candidate part in
    let st = start_stands net low high samples part values l h (λ j p. f j (omega arith)) in
    let many : length vs ≡ samples = length-map zs (value_of n low high) ∙ words_at-length n values (start_inputs net part) samples in
    let j = root_joins net values candidate part s rs vs q net_ shaped many st.stands in
    record {
      word = j.word ∙ ap bit_of (values_say net.format low high (is_broken net candidate part rs) zs);
      inputs = j.adds.inputs ∙ (st.inputs ∙ ap (λ (k : ℕ). replicate k n) c);
    }

pub set_goal_inputs : (net : Net) (low high : ℤ) (candidate : Candidate) (part : SetPart) → IsNetlist net → low ≤ℤ hi (width net.format) → lo (width net.format) ≤ℤ high → is_shaped (length net.next) candidate ≡ true
    → (set_of net low high candidate part).terms.inputs ≡ replicate (set_inputs net candidate part) (width net.format)
set_goal_inputs net low high candidate part net_ l h shaped = (goal_stands net low high candidate part [] net_ l h shaped (λ j p. no_values (width net.format) j)).inputs

pub set_tells : (net : Net) (low high : ℤ) (candidate : Candidate) (part : SetPart) (values : List ℕ) → IsNetlist net → low ≤ℤ hi (width net.format) → lo (width net.format) ≤ℤ high → is_shaped (length net.next) candidate ≡ true
    → let g = set_of net low high candidate part in AreValues g.terms.inputs values → Tells (word_of g.terms values g.id) (BreaksPart net low high candidate part (spelled_words net.format values))
set_tells net low high candidate part values net_ l h shaped v =
    let n = width net.format in
    let total = set_inputs net candidate part in
    let samples = samples_of candidate part in
    let g = set_of net low high candidate part in
    let is = g.terms.inputs in
    let inputs = set_goal_inputs net low high candidate part net_ l h shaped in
    let many : length is ≡ total = ap length inputs ∙ length-replicate total n in
    let c : length values ≡ total = v.count ∙ many in
    let wide : (j : ℕ) → j < total → slice_index is j ≡ n = λ j p. ap (λ (xs : List ℕ). slice_index xs j) inputs ∙ get_or-replicate total j n 0 p in
    let fit : (j : ℕ) → j < total → slice_index values j < 2 ^ n = λ j p. subst (λ (w : ℕ). slice_index values j < 2 ^ w) (wide j p) (v.fit j (omega arith)) in
    let st = goal_stands net low high candidate part values net_ l h shaped fit in
    let rs = start_words net part values in
    let zs = words_at n values (start_inputs net part) samples in
    let truth = is_broken net candidate part rs zs && all_in_range low high true zs in
    let k = count_of net candidate part in
    let d = words_decide net low high candidate part rs zs (shaped_from (length net.next) candidate shaped) (are_start net part values (λ j p. fit j (omega arith))) (words_at-length n values (start_inputs net part) samples) in
    let e : all_words part rs zs ≡ spelled_words net.format values =
    sym (in_order net part values samples) ∙ (ap (words_at n values 0) (k ∙ sym c) ∙ words_map net.format values values 0 (λ i p. ap (slice_index values) (let z : i ≡ 0 + i = omega arith in z))) in
    subst (λ (ys : List ℤ). Tells (word_of g.terms values g.id) (BreaksPart net low high candidate part ys)) e (tells_by (word_of g.terms values g.id) (BreaksPart net low high candidate part (all_words part rs zs)) truth st.word d.0 d.1)

-- ---- as the code has it
-- the bit of a sentence, and the tests after it
pub record IsRootReady (t : TermsView) (broken : TermId) (tests : List TermId) : Type 0 where
  pub bit : HasBits t broken 1
  pub tests_bits : AreBits t tests

pub root_ready : (net : Net) (low high : ℤ) (candidate : Candidate) (part : SetPart) (s : SetStart) (t : TermsView) (broken : TermId) → IsNetlist net → low ≤ℤ hi (width net.format) → lo (width net.format) ≤ℤ high → is_shaped (length net.next) candidate ≡ true
    → s ≡ set_start net low high (samples_of candidate part) part → built_of t broken ≡ break_of net candidate part s → IsRootReady t broken s.tests
root_ready net low high candidate part s t broken net_ l h shaped e b =
    let n = width net.format in
    let samples = samples_of candidate part in
    let first = set_start net low high samples part in
    let zs = words_at n [] (start_inputs net part) samples in
    let vs = map (value_of n low high) zs in
    let many : length vs ≡ samples = length-map zs (value_of n low high) ∙ words_at-length n [] (start_inputs net part) samples in
    let st = (start_stands net low high samples part [] l h (λ j p. no_values n j)).stands in
    let j = break_joins net [] candidate part first (start_words net part []) vs (all_in_range low high true zs) net_ shaped many st in
    let same : built_of t broken ≡ break_of net candidate part first = b ∙ ap (break_of net candidate part) e in
    let a = Adds-built first.terms t broken (break_of net candidate part first) 1 same j.adds in
    record { bit = bit_added first.terms t broken a; tests_bits = subst (λ (r : SetStart). AreBits t r.tests) (sym e) (bits_later first.terms t first.tests a.kept st.tests_bits) }

pub made_set_tells : (net : Net) (low high : ℤ) (candidate : Candidate) (part : SetPart) (t : TermsView) (root : TermId) (values : List ℕ) → built_of t root ≡ set_of net low high candidate part → IsNetlist net → low ≤ℤ hi (width net.format) → lo (width net.format) ≤ℤ high
    → is_shaped (length net.next) candidate ≡ true → AreValues t.inputs values → Tells (word_of t values root) (BreaksPart net low high candidate part (spelled_words net.format values))
made_set_tells net low high candidate part t root values e n l h shaped v =
    let w = subst (λ (g : Built). AreValues g.terms.inputs values) e v in
    subst (λ (g : Built). Tells (word_of g.terms values g.id) (BreaksPart net low high candidate part (spelled_words net.format values))) (sym e) (set_tells net low high candidate part values n l h shaped w)

pub made_set_inputs : (net : Net) (low high : ℤ) (candidate : Candidate) (part : SetPart) (t : TermsView) (root : TermId) → built_of t root ≡ set_of net low high candidate part → IsNetlist net → low ≤ℤ hi (width net.format) → lo (width net.format) ≤ℤ high → is_shaped (length net.next) candidate ≡ true
    → t.inputs ≡ replicate (set_inputs net candidate part) (width net.format)
made_set_inputs net low high candidate part t root e n l h shaped = ap (λ (g : Built). g.terms.inputs) e ∙ set_goal_inputs net low high candidate part n l h shaped
