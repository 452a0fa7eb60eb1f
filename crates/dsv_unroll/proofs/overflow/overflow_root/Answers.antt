use Rattle.std.proofs.Common.{◌≡◌, ◌∙◌, ap, sym, subst, List, Result, Ok, Err, IfOk, rules, w64, SFits}
use Rattle.std.proofs.lemmas.Int.{to_z-of_z}
use Rattle.std.proofs.lemmas.Result.{IfOk-weaker}
use Rattle.dsv_linear.specs.Facts.{AreFacts}
use Rattle.dsv_linear.specs.Known.{facts_of}
use Rattle.dsv_term.specs.declared.node.TermId.{TermId}
use Rattle.dsv_term.specs.Building.{built_of}
use Rattle.dsv_unroll.specs.Beside.{run_with}
use Rattle.dsv_unroll.specs.Goals.{RunTerms, run_from, run_tests, conjunction_from, first_inputs, overflow_with, overflow_of}
use Rattle.dsv_unroll.specs.Ready.{AreRunReady, AreTested, AreKnown}
use Rattle.dsv_unroll.proofs.InputTests.{bits_kept}
use Rattle.dsv_unroll.proofs.OverflowRoots.{zero_started, root_made}
use Rattle.dsv_unroll.proofs.overflow.overflow_root.Goals as goal

pub run_terms-requires-clause-ready : goal.run_terms-requires-clause-ready
run_terms-requires-clause-ready c =
    let net = c.args.net.now in
    let s = c.in_ok-start.start in
    let e = c.in_ok-start.ensures in
    let z = zero_started net c.args.range.now.low c.args.range.now.high c.args.samples c.args.terms.now c.zero_start.new.terms s.zero_bit s.registers.items c.requires.empty c.requires.low c.requires.high e.zero_bit e.registers in
    subst (λ (ids : List TermId). AreRunReady net s.registers.items ids c.zero_start.new.terms s.zero_bit) (sym (c.deref.ensures.value ∙ e.inputs)) z.ready

pub fact_tests-requires-clause-known : goal.fact_tests-requires-clause-known
fact_tests-requires-clause-known c =
    let net = c.args.net.now in
    let s = c.in_ok-start.start in
    let e = c.in_ok-start.ensures in
    let z = zero_started net c.args.range.now.low c.args.range.now.high c.args.samples c.args.terms.now c.zero_start.new.terms s.zero_bit s.registers.items c.requires.empty c.requires.low c.requires.high e.zero_bit e.registers in
    let start : RunTerms = record { terms = c.zero_start.new.terms; registers = s.registers.items; overflowed = s.zero_bit } in
    let run = c.in_ok-run.ensures.built ∙ ap (λ (ids : List TermId). run_from net ids start) (c.deref.ensures.value ∙ e.inputs) in
    subst (λ (ids : List TermId). AreKnown c.run_terms.new.terms s.zero_bit ids) (sym e.tests) (subst (λ (r : RunTerms). AreKnown r.terms s.zero_bit (first_inputs net c.args.terms.now c.args.range.now.low c.args.range.now.high c.args.samples).tests) (sym run) (z.known c.len-count.ensures.netlist))

pub fact_tests-requires-clause-tested : goal.fact_tests-requires-clause-tested
fact_tests-requires-clause-tested c =
    let net = c.args.net.now in
    let s = c.in_ok-start.start in
    let e = c.in_ok-start.ensures in
    let first = first_inputs net c.args.terms.now c.args.range.now.low c.args.range.now.high c.args.samples in
    let z = zero_started net c.args.range.now.low c.args.range.now.high c.args.samples c.args.terms.now c.zero_start.new.terms s.zero_bit s.registers.items c.requires.empty c.requires.low c.requires.high e.zero_bit e.registers in
    let start : RunTerms = record { terms = c.zero_start.new.terms; registers = s.registers.items; overflowed = s.zero_bit } in
    let run = c.in_ok-run.ensures.built ∙ ap (λ (ids : List TermId). run_from net ids start) (c.deref.ensures.value ∙ e.inputs) in
    let tests = c.deref-2.ensures.value ∙ (c.in_ok-run.ensures.tests ∙ ap (λ (ids : List TermId). run_tests net ids start) (c.deref.ensures.value ∙ e.inputs)) in
    subst (AreTested c.run_terms.new.terms) (sym tests) (subst (λ (r : RunTerms). AreTested r.terms (run_tests net first.ids start)) (sym run) (z.tested c.len-count.ensures.netlist))

pub conjunction-requires-clause-first : goal.conjunction-requires-clause-first
conjunction-requires-clause-first c = bits_kept c.run_terms.new.terms c.fact_tests.new.terms c.in_ok-run.run'.overflowed 1 c.in_ok-tests.ensures.kept c.in_ok-run.ensures.overflowed

pub returns-clause-built : goal.returns-clause-built
unfolding overflow_of
returns-clause-built c =
    let net = c.args.net.now in
    let low = c.args.range.now.low in
    let high = c.args.range.now.high in
    let samples = c.args.samples in
    let low_fits : SFits w64 low = search rules in
    let high_fits : SFits w64 high = search rules in
    let facts : c.as_slice.result.now ≡ facts_of net low high samples = c.as_slice.ensures ∙ (rw (to_z-of_z w64 low low_fits, to_z-of_z w64 high high_fits) at c.in_ok-facts.ensures.made) in
    let s = c.in_ok-start.start in
    let e = c.in_ok-start.ensures in
    let r = c.in_ok-run.run' in
    let run = run_with c.run_terms.new.terms r in
    let made = root_made net low high samples c.as_slice.result.now c.args.terms.now c.deref.result.now s.tests.items s.registers.items c.zero_start.new.terms s.zero_bit run c.deref-2.result.now c.fact_tests.new.terms c.in_ok-tests.tests.items
    c.requires.empty e.zero_bit (c.deref.ensures.value ∙ e.inputs) e.tests e.registers c.in_ok-run.ensures.built (c.deref-2.ensures.value ∙ c.in_ok-run.ensures.tests) c.in_ok-tests.ensures.terms c.in_ok-tests.ensures.tests in
    let same = ap (λ (ids : List TermId). conjunction_from (built_of c.fact_tests.new.terms r.overflowed) ids) c.deref-3.ensures.value ∙ (made ∙ ap (overflow_with net low high samples) facts) in
    IfOk-weaker c.conjunction.result (λ root. built_of c.conjunction.new.terms root ≡ conjunction_from (built_of c.fact_tests.new.terms r.overflowed) c.deref-3.result.now) (λ root. built_of c.conjunction.new.terms root ≡ overflow_with net low high samples (facts_of net low high samples)) (λ root m. m ∙ same) c.conjunction.ensures.built

always : {A E : Type 0} (P : Type 0) (r : Result A E) → P → IfOk r (λ a. P)
always P (Ok a) p = p
always P (Err e) p = tt

pub returns-clause-netlist : goal.returns-clause-netlist
returns-clause-netlist c = always _ c.conjunction.result c.len-count.ensures.netlist

pub returns-clause-facts : goal.returns-clause-facts
returns-clause-facts c =
    let net = c.args.net.now in
    let low = c.args.range.now.low in
    let high = c.args.range.now.high in
    let low_fits : SFits w64 low = search rules in
    let high_fits : SFits w64 high = search rules in
    let made = rw (to_z-of_z w64 low low_fits, to_z-of_z w64 high high_fits) at c.in_ok-facts.ensures.made in
    let holds = rw (to_z-of_z w64 low low_fits, to_z-of_z w64 high high_fits) at c.in_ok-facts.ensures.holds in
    always _ c.conjunction.result (subst (AreFacts net low high c.args.samples) made holds)
