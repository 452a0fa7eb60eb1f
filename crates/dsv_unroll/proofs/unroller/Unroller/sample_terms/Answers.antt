use Rattle.std.proofs.Common.{◌≡◌, ◌∙◌, ◌++◌, [], arith, rules, refl, drop, ap, sym, List, Option}
use Rattle.std.proofs.lemmas.List.{append-nil, drop_all}
use Rattle.dsv_netlist.specs.declared.node.Node.{Node}
use Rattle.dsv_term.proofs.Building.{KeepsTerms-self}
use Rattle.dsv_unroll.specs.declared.fitting.TestedTerm.{TestedTerm}
use Rattle.dsv_unroll.specs.Goals.{SampleTerms, nodes_from, tests_from, sample_terms, sample_tests}
use Rattle.dsv_unroll.specs.Beside.{node_with, sample_with}
use Rattle.dsv_unroll.proofs.SampleSteps.{named, node_step, entry_step}
use Rattle.dsv_unroll.proofs.unroller.Unroller.sample_terms.Goals as goal

pub node_term-requires-clause-backwards : goal.node_term-requires-clause-backwards
node_term-requires-clause-backwards c =
    let i = c.loop-i.invariant in
    (named c.args.self.now.net.now c.args.sample.now.registers.now c.loop-i.made.ids.items c.loop-i.i c.node-node.result c.requires.netlist i.count i.ready.count c.node-node.ensures).backwards

pub node_term-requires-clause-reads : goal.node_term-requires-clause-reads
node_term-requires-clause-reads c =
    let i = c.loop-i.invariant in
    (named c.args.self.now.net.now c.args.sample.now.registers.now c.loop-i.made.ids.items c.loop-i.i c.node-node.result c.requires.netlist i.count i.ready.count c.node-node.ensures).reads

pub loop-i-preserved : goal.loop-i-preserved
loop-i-preserved c =
    let l = c.loop-i in
    let i = l.invariant in
    let net = c.args.self.now.net.now in
    let rule = c.args.sample.now.rule in
    let registers = c.args.sample.now.registers.now in
    let x = c.args.sample.now.x in
    let ids = l.made.ids.items in
    let first : SampleTerms = record { terms = c.args.terms.now; ids = []; overflowed = c.args.overflowed } in
    let start : SampleTerms = nodes_from rule net registers x net.nodes first in
    let u = node_with c.node_term.new.terms c.in_ok-next.next in
    let s = node_step rule net registers x c.args.terms.now l.i l.terms ids l.made.overflowed start c.node-node.result u ids c.push.new.self.items
    c.requires.netlist (omega arith) c.node-node.ensures (record { count = i.count; ready = i.ready; kept = i.kept; same = i.same }) refl c.in_ok-next.ensures.built c.in_ok-push.ensures.items in
    let tests : List (Option TestedTerm) = tests_from rule net registers x net.nodes first in
    let e = entry_step rule net registers x l.i l.terms ids l.made.overflowed tests c.node-node.result u ids c.push.new.self.items l.made.tested.items c.put_tested.new.tested.items c.in_ok-next.next.tested
    (omega arith) c.node-node.ensures refl c.in_ok-next.ensures.built c.in_ok-push.ensures.items i.tests c.in_ok-next.ensures.tests c.in_ok-put_tested.ensures in
    record { count = s.count; ready = s.ready; kept = s.kept; same = s.same; tests = e }

pub loop-i-init : goal.loop-i-init
loop-i-init c = record { count = search rules; ready = search rules; kept = KeepsTerms-self c.args.terms.now; same = search rules; tests = search rules }

pub returns-clause-built : goal.returns-clause-built
unfolding sample_terms
returns-clause-built c =
    let l = c.loop-i in
    let net = c.args.self.now.net.now in
    let sample = c.args.sample.now in
    let none : drop l.i net.nodes ≡ [] = drop_all l.i net.nodes (omega arith) in
    sym (ap (λ (ns : List Node). nodes_from sample.rule net sample.registers.now sample.x ns (sample_with l.terms l.made)) none) ∙ l.invariant.same

pub returns-clause-tests : goal.returns-clause-tests
unfolding sample_tests
returns-clause-tests c =
    let l = c.loop-i in
    let net = c.args.self.now.net.now in
    let sample = c.args.sample.now in
    let none : drop l.i net.nodes ≡ [] = drop_all l.i net.nodes (omega arith) in
    sym (append-nil l.made.tested.items) ∙ (sym (ap (λ (ns : List Node). l.made.tested.items ++ tests_from sample.rule net sample.registers.now sample.x ns (sample_with l.terms l.made)) none) ∙ l.invariant.tests)

pub returns-clause-kept : goal.returns-clause-kept
returns-clause-kept c = c.loop-i.invariant.kept

pub returns-clause-ready : goal.returns-clause-ready
returns-clause-ready c = c.loop-i.invariant.ready
