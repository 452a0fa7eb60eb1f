use Rattle.std.proofs.Common.{◌≡◌, ◌∙◌, ◌<◌, ℕ, ap, sym, length, subst, List, get_or, arith}
use Rattle.std.proofs.lemmas.List.{get_or_read}
use Rattle.dsv_unroll.specs.Ready.{IsValue}
use Rattle.dsv_term.specs.declared.node.TermId.{TermId}
use Rattle.dsv_unroll.specs.Goals.{SampleTerms}
use Rattle.dsv_unroll.specs.Rules.{term_at}
use Rattle.dsv_term.proofs.Made.{KeepsTerms-both}
use Rattle.dsv_unroll.proofs.SampleSteps.{next_below}
use Rattle.dsv_unroll.proofs.CycleSteps.{output_below, quiet_built, quiet_ready}
use Rattle.dsv_unroll.proofs.unroller.Unroller.quiet_sample.Goals as goal

pub next_terms-requires : goal.next_terms-requires
next_terms-requires c = next_below c.args.self.now.net.now (length c.deref-2.result.now) c.requires.netlist (ap length c.deref-2.ensures.value ∙ c.in_ok-sample.ensures.count)

pub returns-clause-kept : goal.returns-clause-kept
returns-clause-kept c = KeepsTerms-both c.args.terms.now c.sample_terms.new.terms c.sounding_term.new.terms c.in_ok-sample.ensures.kept c.in_ok-sounding.ensures.adds.kept

pub returns-clause-ready : goal.returns-clause-ready
returns-clause-ready c =
    quiet_ready c.args.self.now.net.now c.args.self.now.zero_bit c.args.terms.now c.sample_terms.new.terms c.sounding_term.new.terms c.args.state.registers.items c.deref.result.now c.in_ok-sample.sample.ids.items c.deref-2.result.now c.in_ok-registers.registers.items
    c.args.state.sounding c.args.state.found c.in_ok-sounding.sounding c.in_ok-sample.sample.overflowed c.requires.netlist c.requires.ready c.in_ok-sample.ensures.kept c.in_ok-sample.ensures.ready c.in_ok-sample.ensures.count c.deref-2.ensures.value c.in_ok-registers.ensures c.in_ok-sounding.ensures.adds

pub index-output-requires : goal.index-output-requires
index-output-requires c =
    let n = output_below c.args.self.now.net.now (length c.deref-2.result.now) c.requires.netlist (ap length c.deref-2.ensures.value ∙ c.in_ok-sample.ensures.count) in
    omega (arith, c.output.ensures, c.deref-2.ensures.len)

-- the output's term
output_term : (ids : List TermId) (i k : ℕ) (id : TermId) → i < length ids → id ≡ get_or ids i id → i ≡ k → id ≡ term_at ids k
output_term ids i k id l e o = get_or_read ids i id l e (record { 0 = 0 }) ∙ ap (term_at ids) o

pub sounding_term-requires-clause-output : goal.sounding_term-requires-clause-output
sounding_term-requires-clause-output c =
    let net = c.args.self.now.net.now in
    let ids = c.in_ok-sample.sample.ids.items in
    let below = output_below net (length ids) c.requires.netlist c.in_ok-sample.ensures.count in
    let o = output_term ids c.output.result net.output c.index-output.result.now (omega (arith, c.output.ensures)) c.index-output.ensures c.output.ensures in
    subst (IsValue c.sample_terms.new.terms) (sym o) (c.in_ok-sample.ensures.ready.nodes net.output below)

pub returns-clause-built : goal.returns-clause-built
returns-clause-built c =
    let net = c.args.self.now.net.now in
    let ids = c.in_ok-sample.sample.ids.items in
    let below = output_below net (length ids) c.requires.netlist c.in_ok-sample.ensures.count in
    let o = output_term ids c.output.result net.output c.index-output.result.now (omega (arith, c.output.ensures)) c.index-output.ensures c.output.ensures in
    let s : SampleTerms = record { terms = c.sample_terms.new.terms; ids = ids; overflowed = c.in_ok-sample.sample.overflowed } in
    quiet_built net c.args.self.now.zero_bit c.args.terms.now c.args.state.registers.items c.args.state.sounding c.args.state.found s c.deref.result.now c.deref-2.result.now c.in_ok-registers.registers.items c.index-output.result.now
    c.sounding_term.new.terms c.in_ok-sounding.sounding c.deref.ensures.value c.in_ok-sample.ensures.built c.deref-2.ensures.value c.in_ok-registers.ensures o c.in_ok-sounding.ensures.built
