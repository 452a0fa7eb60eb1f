use Rattle.std.proofs.Common.{◌≡◌, ◌∙◌, ◌++◌, [], List, Option, length, drop, rules, arith, refl, ap, sym}
use Rattle.std.proofs.lemmas.List.{append-nil, drop_all}
use Rattle.dsv_term.specs.declared.node.TermId.{TermId}
use Rattle.dsv_term.proofs.Made.{KeepsTerms-both}
use Rattle.dsv_term.proofs.Building.{KeepsTerms-self}
use Rattle.dsv_unroll.specs.declared.fitting.TestedTerm.{TestedTerm}
use Rattle.dsv_unroll.specs.Goals.{RunTerms, SampleTerms, run_from, run_tests}
use Rattle.dsv_unroll.specs.Rules.{term_at}
use Rattle.dsv_unroll.proofs.SampleSteps.{run_step, run_ready, next_below, tests_step}
use Rattle.dsv_unroll.proofs.unroller.Unroller.run_terms.Goals as goal

pub sample_terms-requires-clause-ready : goal.sample_terms-requires-clause-ready
sample_terms-requires-clause-ready c =
    let l = c.loop-x in
    let net = c.args.self.now.net.now in
    let start : RunTerms = run_from net c.args.inputs.now (record { terms = c.args.terms.now; registers = c.args.start.items; overflowed = c.args.self.now.zero_bit }) in
    run_ready net c.args.inputs.now l.x-index (term_at c.args.inputs.now l.x-index) l.terms l.registers.items c.deref.result.now l.overflowed start c.loop-x-test.true refl
    (record { ready = l.invariant.ready; same = l.invariant.same }) c.deref.ensures.value

pub next_terms-requires : goal.next_terms-requires
next_terms-requires c =
    next_below c.args.self.now.net.now (length c.deref-in-loop-x.result.now) c.requires.netlist (ap length c.deref-in-loop-x.ensures.value ∙ c.in_ok-sample.ensures.count)

pub loop-x-preserved : goal.loop-x-preserved
loop-x-preserved c =
    let l = c.loop-x in
    let net = c.args.self.now.net.now in
    let start : RunTerms = run_from net c.args.inputs.now (record { terms = c.args.terms.now; registers = c.args.start.items; overflowed = c.args.self.now.zero_bit }) in
    let s : SampleTerms = record { terms = c.sample_terms.new.terms; ids = c.in_ok-sample.sample.ids.items; overflowed = c.in_ok-sample.sample.overflowed } in
    let e = c.in_ok-sample.ensures in
    let r = run_step net c.args.inputs.now l.x-index (term_at c.args.inputs.now l.x-index) l.terms l.registers.items c.deref.result.now l.overflowed start s c.deref-in-loop-x.result.now c.in_ok-registers.registers.items
    c.requires.netlist c.loop-x-test.true refl (record { ready = l.invariant.ready; same = l.invariant.same }) c.deref.ensures.value e.built e.kept e.ready e.count c.deref-in-loop-x.ensures.value c.in_ok-registers.ensures in
    let tests : List (Option TestedTerm) = run_tests net c.args.inputs.now (record { terms = c.args.terms.now; registers = c.args.start.items; overflowed = c.args.self.now.zero_bit }) in
    let t = tests_step net c.args.inputs.now l.x-index (term_at c.args.inputs.now l.x-index) l.terms l.registers.items c.deref.result.now l.overflowed tests s c.deref-in-loop-x.result.now c.in_ok-registers.registers.items
    l.tested.items c.extend_from_slice.new.self.items c.in_ok-sample.sample.tested.items c.loop-x-test.true refl l.invariant.tests c.deref.ensures.value e.built c.deref-in-loop-x.ensures.value c.in_ok-registers.ensures e.tests (search rules) in
    record { ready = r.ready; kept = KeepsTerms-both c.args.terms.now l.terms c.sample_terms.new.terms l.invariant.kept e.kept; same = r.same; tests = t }

pub loop-x-init : goal.loop-x-init
loop-x-init c = record { ready = search rules; kept = KeepsTerms-self c.args.terms.now; same = search rules; tests = search rules }

pub returns-clause-built : goal.returns-clause-built
returns-clause-built c =
    let l = c.loop-x in
    let s : RunTerms = record { terms = l.terms; registers = l.registers.items; overflowed = l.overflowed } in
    let none : drop l.x-index c.args.inputs.now ≡ [] = drop_all l.x-index c.args.inputs.now (omega arith) in
    sym (ap (λ (xs : List TermId). run_from c.args.self.now.net.now xs s) none) ∙ l.invariant.same

pub returns-clause-tests : goal.returns-clause-tests
returns-clause-tests c =
    let l = c.loop-x in
    let s : RunTerms = record { terms = l.terms; registers = l.registers.items; overflowed = l.overflowed } in
    let none : drop l.x-index c.args.inputs.now ≡ [] = drop_all l.x-index c.args.inputs.now (omega arith) in
    sym (append-nil l.tested.items) ∙ (sym (ap (λ (xs : List TermId). l.tested.items ++ run_tests c.args.self.now.net.now xs s) none) ∙ l.invariant.tests)

pub returns-clause-kept : goal.returns-clause-kept
returns-clause-kept c = c.loop-x.invariant.kept

pub returns-clause-overflowed : goal.returns-clause-overflowed
returns-clause-overflowed c = let r = c.loop-x.invariant.ready in record { stands = r.overflowed_stands; width = r.overflowed_bit }
