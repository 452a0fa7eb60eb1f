-- The terms of runs without input spell the registers, and the root says whether a cycle was found.
use Rattle.std.proofs.Common.{◌≡◌, ℕ, zero, suc, ◌+◌, ◌-◌, ◌*◌, ◌<◌, Bool, true, false, not, ◌||◌, List, arith, rules, ap, sym, ◌∙◌, length, map}
use Rattle.std.specs.Prelude.{nat_lt, if◌then◌else◌}
use Rattle.std.specs.List.{All}
use Rattle.std.specs.Ordering.{int_eq}
use Rattle.std.proofs.Math.IntN.{ℤ, pos}
use Rattle.dsv_word.specs.Words.{width, IsWord}
use Rattle.dsv_word.proofs.Meanings.{zero_word}
use Rattle.dsv_netlist.specs.Nodes.{Net, step_of}
use Rattle.dsv_netlist.specs.Conditions.{IsNetlist}
use Rattle.dsv_netlist.specs.Law.{AreWords}
use Rattle.dsv_netlist.proofs.Naming.{names_word-below}
use Rattle.dsv_term.specs.declared.node.TermId.{TermId}
use Rattle.dsv_term.specs.declared.node.TermNode.TheVariants.{Or}
use Rattle.dsv_term.specs.declared.word.Word.{Word}
use Rattle.dsv_term.specs.Building.{built_of, with_node}
use Rattle.dsv_term.specs.Growth.{AreSound}
use Rattle.dsv_term.specs.Terms.{word_of, HasBits}
use Rattle.dsv_term.specs.Word.{bit_of, or_of}
use Rattle.dsv_term.proofs.Made.{KeepsTerms-both}
use Rattle.dsv_term.proofs.Building.{or_gives}
use Rattle.dsv_term.proofs.Complement.{or-bits}
use Rattle.dsv_unroll.specs.declared.rules.FitRule.TheVariants as fit_rule
use Rattle.dsv_unroll.specs.Goals.{sample_terms}
use Rattle.dsv_unroll.specs.CycleGoals.{CycleTerms, returned_from, sounding_term, with_found, with_quiet_sample, cycles_from}
use Rattle.dsv_unroll.specs.Ready.{AreAllValues}
use Rattle.dsv_unroll.specs.Rules.{term_at}
use Rattle.dsv_unroll.proofs.Follows.{Means, means_later}
use Rattle.dsv_unroll.proofs.InputTests.{bits_kept, bit_value}
use Rattle.dsv_unroll.proofs.FaithfulSamples.{faithful_sample}
use Rattle.dsv_unroll.proofs.CycleTerms.{sounded, matches, all_later, AllMean, mean_later, returned_adds, returned_means}
use Rattle.dsv_unroll.proofs.Cycling.{finds_from}

-- ---- a run without input so far
pub record CycleStands (base : List ℕ) (net : Net) (values : List ℕ) (starts : List TermId) (ss : List ℤ) (zero_bit : TermId) (r : CycleTerms) (rs : List ℤ) (loud f : Bool) : Type 0 where
  pub inputs : r.terms.inputs ≡ base
  pub sound : AreSound r.terms
  pub registers_stand : AreAllValues r.terms r.registers
  pub starts_stand : AreAllValues r.terms starts
  pub zero_has_bit : HasBits r.terms zero_bit 1
  pub sounding_bit : HasBits r.terms r.sounding 1
  pub found_bit : HasBits r.terms r.found 1
  pub registers_mean : AllMean r.terms values r.registers rs
  pub starts_mean : AllMean r.terms values starts ss
  pub zero_bit_word : word_of r.terms values zero_bit ≡ bit_of false
  pub zero_bit_means : Means r.terms values zero_bit (pos 0)
  pub sounding_word : word_of r.terms values r.sounding ≡ bit_of loud
  pub found_word : word_of r.terms values r.found ≡ bit_of f
  pub count : length rs ≡ length net.next
  pub words : All (IsWord net.format) rs

pub quiet_stands : (base : List ℕ) (net : Net) (values : List ℕ) (starts : List TermId) (ss : List ℤ) (zero_bit : TermId) (r : CycleTerms) (rs : List ℤ) (loud f : Bool) → IsNetlist net → CycleStands base net values starts ss zero_bit r rs loud f
    → CycleStands base net values starts ss zero_bit (with_quiet_sample net zero_bit r) (step_of net rs (pos 0)).past (loud || not (int_eq (step_of net rs (pos 0)).y (pos 0))) f
quiet_stands base net values starts ss zero_bit r rs loud f h c =
    let words : AreWords net rs (pos 0) = record { many = c.count; words = c.words; input = zero_word net.format } in
    let m = faithful_sample net values r.terms r.registers zero_bit zero_bit rs (pos 0) h words c.sound c.zero_has_bit c.zero_bit_word c.registers_stand c.registers_mean (bit_value r.terms zero_bit c.zero_has_bit) c.zero_bit_means in
    let s = sample_terms fit_rule.Faithful net r.registers zero_bit r.terms zero_bit in
    let next = map (term_at s.ids) net.next in
    let past = (step_of net rs (pos 0)).past in
    let o : net.output < length s.ids = (let b = names_word-below net.nodes net.output (let t = h.output in search rules) in let n = m.count in omega arith) in
    let output = term_at s.ids net.output in
    let nb = bits_kept r.terms s.terms zero_bit 1 m.kept c.zero_has_bit in
    let sb = bits_kept r.terms s.terms r.sounding 1 m.kept c.sounding_bit in
    let nm = means_later r.terms s.terms values zero_bit (pos 0) m.kept c.zero_has_bit.stands c.zero_bit_means in
    let u = sounding_term s.terms output zero_bit r.sounding in
    let d = sounded s.terms output zero_bit r.sounding m.sound (m.nodes_stand.stand net.output o) (bit_value s.terms zero_bit nb) sb in
    let k = KeepsTerms-both r.terms s.terms u.terms m.kept d.adds.kept in
    record {
      inputs = d.adds.inputs ∙ (m.inputs ∙ c.inputs);
      sound = d.adds.sound;
      registers_stand = all_later s.terms u.terms next d.adds.kept m.registers_stand;
      starts_stand = all_later r.terms u.terms starts k c.starts_stand;
      zero_has_bit = bits_kept r.terms u.terms zero_bit 1 k c.zero_has_bit;
      sounding_bit = record { stands = d.adds.stands; width = d.adds.width };
      found_bit = bits_kept r.terms u.terms r.found 1 k c.found_bit;
      registers_mean = mean_later s.terms u.terms values next past d.adds.kept m.registers_stand m.registers_mean;
      starts_mean = mean_later r.terms u.terms values starts ss k c.starts_stand c.starts_mean;
      zero_bit_word = k.words values zero_bit c.zero_has_bit.stands ∙ c.zero_bit_word;
      zero_bit_means = means_later r.terms u.terms values zero_bit (pos 0) k c.zero_has_bit.stands c.zero_bit_means;
      sounding_word = d.word values (step_of net rs (pos 0)).y loud (m.nodes_mean net.output o) nm (m.kept.words values r.sounding c.sounding_bit.stands ∙ c.sounding_word);
      found_word = k.words values r.found c.found_bit.stands ∙ c.found_word;
      count = m.many;
      words = m.words;
    }

pub found_stands : (base : List ℕ) (net : Net) (values : List ℕ) (starts : List TermId) (ss : List ℤ) (zero_bit : TermId) (r : CycleTerms) (rs : List ℤ) (loud f : Bool) → CycleStands base net values starts ss zero_bit r rs loud f
    → CycleStands base net values starts ss zero_bit (with_found r starts) rs loud (f || matches loud rs ss)
found_stands base net values starts ss zero_bit r rs loud f c =
    let a = returned_from (built_of r.terms r.sounding) r.registers starts in
    let ra = returned_adds r.terms r.sounding r.registers starts c.sound c.sounding_bit c.registers_stand c.starts_stand in
    let w = returned_means r.terms values r.sounding r.registers starts rs ss loud c.sound c.sounding_bit c.registers_stand c.starts_stand c.registers_mean c.starts_mean c.sounding_word in
    let fb = bits_kept r.terms a.terms r.found 1 ra.kept c.found_bit in
    let b = with_node a.terms (Or r.found a.id) in
    let g = or_gives a.terms r.found a.id ra.sound fb.stands ra.bit.stands (fb.width ∙ sym ra.bit.width) in
    let k = KeepsTerms-both r.terms a.terms b.terms ra.kept g.adds.kept in
    record {
      inputs = g.adds.inputs ∙ (ra.inputs ∙ c.inputs);
      sound = g.adds.sound;
      registers_stand = all_later r.terms b.terms r.registers k c.registers_stand;
      starts_stand = all_later r.terms b.terms starts k c.starts_stand;
      zero_has_bit = bits_kept r.terms b.terms zero_bit 1 k c.zero_has_bit;
      sounding_bit = bits_kept r.terms b.terms r.sounding 1 k c.sounding_bit;
      found_bit = record { stands = g.adds.stands; width = g.adds.width ∙ fb.width };
      registers_mean = mean_later r.terms b.terms values r.registers rs k c.registers_stand c.registers_mean;
      starts_mean = mean_later r.terms b.terms values starts ss k c.starts_stand c.starts_mean;
      zero_bit_word = k.words values zero_bit c.zero_has_bit.stands ∙ c.zero_bit_word;
      zero_bit_means = means_later r.terms b.terms values zero_bit (pos 0) k c.zero_has_bit.stands c.zero_bit_means;
      sounding_word = k.words values r.sounding c.sounding_bit.stands ∙ c.sounding_word;
      found_word = g.word values ∙ (ap (λ (i : Word). or_of i (word_of a.terms values a.id)) (ra.kept.words values r.found c.found_bit.stands ∙ c.found_word) ∙ (ap (or_of (bit_of f)) w ∙ or-bits f (matches loud rs ss)));
      count = c.count;
      words = c.words;
    }

asked_stands : (base : List ℕ) (net : Net) (values : List ℕ) (starts : List TermId) (ss : List ℤ) (zero_bit : TermId) (r : CycleTerms) (rs : List ℤ) (loud f t : Bool) → CycleStands base net values starts ss zero_bit r rs loud f
    → CycleStands base net values starts ss zero_bit (if t then with_found r starts else r) rs loud (if t then f || matches loud rs ss else f)
asked_stands base net values starts ss zero_bit r rs loud f true c = found_stands base net values starts ss zero_bit r rs loud f c
asked_stands base net values starts ss zero_bit r rs loud f false c = c

pub record EndStands (base : List ℕ) (values : List ℕ) (r : CycleTerms) (f : Bool) : Type 0 where
  pub inputs : r.terms.inputs ≡ base
  pub bit : HasBits r.terms r.found 1
  pub word : word_of r.terms values r.found ≡ bit_of f

pub cycles_stand : (base : List ℕ) (net : Net) (values : List ℕ) (starts : List TermId) (ss : List ℤ) (zero_bit : TermId) (periods sample left : ℕ) (r : CycleTerms) (rs : List ℤ) (loud f : Bool) → IsNetlist net → CycleStands base net values starts ss zero_bit r rs loud f
    → EndStands base values (cycles_from net starts zero_bit periods sample left r) (finds_from net ss periods sample left rs loud f)
cycles_stand base net values starts ss zero_bit periods sample zero r rs loud f h c = record { inputs = c.inputs; bit = c.found_bit; word = c.found_word }
cycles_stand base net values starts ss zero_bit periods sample (suc left) r rs loud f h c =
    let q = step_of net rs (pos 0) in
    let l = loud || not (int_eq q.y (pos 0)) in
    let t = nat_lt periods (2 * sample) in
    let next = with_quiet_sample net zero_bit r in
    let one = quiet_stands base net values starts ss zero_bit r rs loud f h c in
    let two = asked_stands base net values starts ss zero_bit next q.past l f t one in
    cycles_stand base net values starts ss zero_bit periods (sample + 1) left (if t then with_found next starts else next) q.past l (if t then f || matches l q.past ss else f) h two
