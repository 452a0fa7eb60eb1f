-- The plain goal of an overflow has the root of the goal with facts.
use Rattle.std.proofs.Common.{◌≡◌, ℕ, ◌^◌, ◌<◌, false, List, [], arith, ap, sym, subst, ◌∙◌, length, map, replicate}
use Rattle.std.specs.Prelude.{slice_index, ◌≤ℤ◌}
use Rattle.std.proofs.Math.IntN.{ℤ}
use Rattle.std.proofs.lemmas.Nat.{pow_pos}
use Rattle.std.proofs.lemmas.List.{length-replicate, get_or-replicate}
use Rattle.dsv_word.specs.Words.{width, lo, hi}
use Rattle.dsv_system.specs.Systems.{zeros}
use Rattle.dsv_linear.specs.Known.{facts_of}
use Rattle.dsv_linear.proofs.Runs.{facts_are}
use Rattle.dsv_netlist.specs.Nodes.{Net}
use Rattle.dsv_netlist.specs.Conditions.{IsNetlist}
use Rattle.dsv_term.specs.declared.node.TermNode.TheVariants.{Constant}
use Rattle.dsv_term.specs.Building.{with_node}
use Rattle.dsv_term.specs.Terms.{AreValues}
use Rattle.dsv_term.specs.Word.{bit_of}
use Rattle.dsv_term.specs.TermsView.{no_terms}
use Rattle.dsv_unroll.specs.Goals.{first_inputs, zero_run, overflow_of, plain_overflow_of}
use Rattle.dsv_unroll.specs.Law.{FactsKeepRoot}
use Rattle.dsv_unroll.proofs.Runs.{breaks_from}
use Rattle.dsv_unroll.proofs.InputTests.{words_at}
use Rattle.dsv_unroll.proofs.ValueTerms.{value_of}
use Rattle.dsv_unroll.proofs.Breaking.{values_say, starts_by, inputs_of, GoalStands, starts_follow, range_joins, goal_stands, same_items, overflow_inputs}

plain_stands : (net : Net) (low high : ℤ) (samples : ℕ) (values : List ℕ) → IsNetlist net → low ≤ℤ hi (width net.format) → lo (width net.format) ≤ℤ high → ((j : ℕ) → j < samples → slice_index values j < 2 ^ width net.format)
    → GoalStands net low high samples values (plain_overflow_of net low high samples)
unfolding plain_overflow_of
plain_stands net low high samples values n l h f =
    let zs = words_at (width net.format) values 0 samples in
    let m = length net.next in
    let i = first_inputs net no_terms low high samples in
    let s = starts_by net values low high samples i (inputs_of net values low high samples l h f) in
    let u = with_node i.terms (Constant 1 0) in
    let run = zero_run net i in
    let r = starts_follow net values low high samples i u.terms u.id n s in
    let b = breaks_from net false (zeros m) (map (value_of (width net.format) low high) zs) in
    let j = range_joins net values low high samples i u.terms run.terms u.id run.overflowed b s r.ready.sound (record { stands = r.stands; width = r.bit }) r.overflows r.kept in
    let same = j.adds.inputs ∙ r.inputs in
    record {
      bit = (let a = j.adds in record { stands = a.stands; width = a.width });
      word = j.word ∙ ap bit_of (values_say net.format low high (breaks_from net false (zeros m)) zs);
      count = ap length same ∙ s.count;
      widths = λ d p. ap (λ (is : List ℕ). slice_index is d) same ∙ s.widths d (let c = ap length same in omega arith);
    }

plain_inputs : (net : Net) (low high : ℤ) (samples : ℕ) → IsNetlist net → low ≤ℤ hi (width net.format) → lo (width net.format) ≤ℤ high → (plain_overflow_of net low high samples).terms.inputs ≡ replicate samples (width net.format)
plain_inputs net low high samples n l h =
    let none = plain_stands net low high samples [] n l h (λ j p. pow_pos (width net.format)) in
    same_items (width net.format) (plain_overflow_of net low high samples).terms.inputs samples none.count none.widths

-- values of inputs of so many bits
values_fit : (bits k : ℕ) (inputs values : List ℕ) → inputs ≡ replicate k bits → AreValues inputs values → (j : ℕ) → j < k → slice_index values j < 2 ^ bits
values_fit bits k inputs values e v j p =
    let w : AreValues (replicate k bits) values = subst (λ (is : List ℕ). AreValues is values) e v in
    subst (λ (b : ℕ). slice_index values j < 2 ^ b) (get_or-replicate k j bits 0 p) (w.fit j (omega (arith, length-replicate k bits)))

pub facts_keep_root : FactsKeepRoot
unfolding overflow_of
facts_keep_root net low high samples n l h =
    let facts = facts_of net low high samples in
    let a = facts_are net low high samples in
    let plain = plain_inputs net low high samples n l h in
    record {
      inputs = overflow_inputs net low high samples facts n l h a ∙ sym plain;
      word = λ values v.
          let f = values_fit (width net.format) samples (plain_overflow_of net low high samples).terms.inputs values plain v in
          (goal_stands net low high samples facts values n l h a f).word ∙ sym (plain_stands net low high samples values n l h f).word;
    }
