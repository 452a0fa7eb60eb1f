-- The goal of a limit cycle: runs without input from start words.
use Rattle.std.specs.Prelude.{ℕ, zero, suc, ◌+◌, ◌-◌, ◌*◌}
use Rattle.std.specs.Prelude.{nat_lt, max, Bool, if◌then◌else◌}
use Rattle.std.specs.Prelude.{List, [], ◌∷◌, ◌++◌, length, map, replicate}
use Rattle.dsv_word.specs.Words.{width}
use Rattle.dsv_netlist.specs.Nodes.{Net}
use Rattle.dsv_term.specs.declared.node.TermId.{TermId}
use Rattle.dsv_term.specs.declared.node.TermNode.TheVariants.{Constant, Eq, And, Or, Not}
use Rattle.dsv_term.specs.Building.{Built, built_of, with_node, with_new_input}
use Rattle.dsv_term.specs.Terms.{width_of}
use Rattle.dsv_term.specs.TermsView.{TermsView, no_terms}
use Rattle.dsv_unroll.specs.declared.rules.FitRule.TheVariants.{Faithful}
use Rattle.dsv_unroll.specs.Rules.{widened_term, term_at}
use Rattle.dsv_unroll.specs.Goals.{sample_terms}

-- whether two terms spell one number
abbrev pub same_term : TermsView → TermId → TermId → Built
same_term t left right =
    let bits = max (width_of t left) (width_of t right) in
    let a = widened_term t left bits in
    let b = widened_term a.terms right bits in
    with_node b.terms (Eq a.id b.id)

-- a bit, and whether the registers hold the words of the start
abbrev pub returned_from : Built → List TermId → List TermId → Built
returned_from b [] starts = b
returned_from b (register ∷ registers) [] = b
returned_from b (register ∷ registers) (start ∷ starts) =
    let same = same_term b.terms register start in
    returned_from (with_node same.terms (And b.id same.id)) registers starts

-- whether the output isn't 0, or the bit holds
abbrev pub sounding_term : TermsView → TermId → TermId → TermId → Built
sounding_term t output zero_bit sounding =
    let quiet = same_term t output zero_bit in
    let sound = with_node quiet.terms (Not quiet.id) in
    with_node sound.terms (Or sounding sound.id)

-- A run without input so far: the terms of the registers, whether an output so far wasn't 0, and
-- whether a cycle was found.
pub record CycleTerms : Type 0 where
  pub terms : TermsView
  pub registers : List TermId
  pub sounding : TermId
  pub found : TermId

-- a cycle is found where the registers hold the start again and an output wasn't 0
abbrev pub with_found : CycleTerms → List TermId → CycleTerms
with_found r starts =
    let cycle = returned_from (built_of r.terms r.sounding) r.registers starts in
    let found = with_node cycle.terms (Or r.found cycle.id) in
    record {
      terms = found.terms;
      registers = r.registers;
      sounding = r.sounding;
      found = found.id;
    }

-- the same, where it is asked
abbrev pub with_asked : Bool → CycleTerms → List TermId → CycleTerms
with_asked asked r starts = if asked then with_found r starts else r

abbrev pub with_quiet_sample : Net → TermId → CycleTerms → CycleTerms
with_quiet_sample net zero_bit r =
    let s = sample_terms Faithful net r.registers zero_bit r.terms zero_bit in
    let sounding = sounding_term s.terms (term_at s.ids net.output) zero_bit r.sounding in
    record {
      terms = sounding.terms;
      registers = map (term_at s.ids) net.next;
      sounding = sounding.id;
      found = r.found;
    }

-- the samples from one on: a period of at most half the periods has a multiple among the others,
-- so only the others are asked
abbrev pub cycles_from : Net → List TermId → TermId → ℕ → ℕ → ℕ → CycleTerms → CycleTerms
cycles_from net starts zero_bit periods sample zero r = r
cycles_from net starts zero_bit periods sample (suc left) r =
    let next = with_quiet_sample net zero_bit r in
    cycles_from net starts zero_bit periods (sample + 1) left
    (with_asked (nat_lt periods (2 * sample)) next starts)

abbrev pub found_of : CycleTerms → Built
found_of r = built_of r.terms r.found

-- so many inputs more, and their terms
pub record StartTerms : Type 0 where
  pub terms : TermsView
  pub ids : List TermId

abbrev pub starts_from : ℕ → ℕ → StartTerms → StartTerms
starts_from n zero s = s
starts_from n (suc k) s =
    let x = with_new_input s.terms n in
    starts_from n k (record { terms = x.terms; ids = s.ids ++ x.id ∷ [] })

-- The goal of a cycle: the start words of the registers that aren't feed-forward are its inputs,
-- and the feed-forward registers start with 0.
unfoldable pub cycle_of : Net → ℕ → Built
cycle_of net periods =
    let zero_bit = with_node no_terms (Constant 1 0) in
    let start = starts_from (width net.format) (length net.next - net.feed_forward)
    (record { terms = zero_bit.terms; ids = replicate net.feed_forward zero_bit.id }) in
    let end = cycles_from net start.ids zero_bit.id periods 1 periods (record {
      terms = start.terms;
      registers = start.ids;
      sounding = zero_bit.id;
      found = zero_bit.id;
    }) in
    found_of end
