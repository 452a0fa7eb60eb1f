use Rattle.std.proofs.Common.{◌≡◌, ◌<◌, ◌≤◌, ◌∙◌, ℕ, List, Some, arith, ap, sym, subst, length, slice_get, get_or}
use Rattle.std.specs.Prelude.{slice_index_or}
use Rattle.std.proofs.lemmas.Option.{slice_get-get_or}
use Rattle.dsv_term.specs.declared.node.TermId.{TermId}
use Rattle.dsv_term.specs.declared.node.TermNode.{TermNode}
use Rattle.dsv_term.specs.declared.node.TermNode.TheVariants.{Input}
use Rattle.dsv_term.specs.TermsView.{TermsView, no_terms}
use Rattle.dsv_rewrite.specs.Ready.{IsReady}
use Rattle.dsv_rewrite.specs.Rules.{term_of, rewritten_from, inputs_from}
use Rattle.dsv_rewrite.proofs.PassRules.{node_ready, pass_step}
use Rattle.dsv_rewrite.proofs.Starts.{IsRewritten, first_terms, pass_start, pass_end}
use Rattle.dsv_rewrite.proofs.rewriting.simplify.Goals as goal

pub loop-node-init : goal.loop-node-init
loop-node-init c = pass_start c.args.goal.now.terms c.put_inputs.new.terms c.in_ok-ids.ids.items c.nodes-nodes.ensures.terms (c.in_ok-put_inputs.ensures ∙ ap (λ (ws : List ℕ). inputs_from ws no_terms) c.inputs.ensures.inputs) c.in_ok-ids.ensures.items

pub rewritten-requires-clause-ready : goal.rewritten-requires-clause-ready
rewritten-requires-clause-ready c =
    let old : TermsView = c.args.goal.now.terms in
    let l = c.loop-node in
    let k = c.nodes-nodes.ensures.nodes in
    let n : TermNode = slice_index_or c.nodes-nodes.result.now l.node-index (Input 0) in
    let inside : l.node-index < length old.nodes = subst (λ (ns : List TermNode). l.node-index < length ns) k c.loop-node-test.true in
    let e : slice_get old.nodes l.node-index ≡ Some n = slice_get-get_or old.nodes l.node-index (Input 0) inside ∙ ap (λ (ns : List TermNode). Some (get_or ns l.node-index (Input 0))) (sym k) in
    subst (λ (js : List TermId). IsReady l.terms js n) (sym c.deref.ensures.value) (node_ready old l.node-index l.terms l.ids.items n c.nodes-nodes.ensures.terms inside e l.invariant.pass)

pub loop-node-preserved : goal.loop-node-preserved
loop-node-preserved c =
    let old : TermsView = c.args.goal.now.terms in
    let l = c.loop-node in
    let k = c.nodes-nodes.ensures.nodes in
    let n : TermNode = slice_index_or c.nodes-nodes.result.now l.node-index (Input 0) in
    let inside : l.node-index < length old.nodes = subst (λ (ns : List TermNode). l.node-index < length ns) k c.loop-node-test.true in
    let e : slice_get old.nodes l.node-index ≡ Some n = slice_get-get_or old.nodes l.node-index (Input 0) inside ∙ ap (λ (ns : List TermNode). Some (get_or ns l.node-index (Input 0))) (sym k) in
    pass_step old l.node-index l.terms c.rewritten.new.terms l.ids.items c.deref.result.now c.push.new.self.items c.in_ok-id.id n (rewritten_from old.nodes (first_terms old))
    c.nodes-nodes.ensures.terms inside e (record { pass = l.invariant.pass; rest = l.invariant.rest }) c.deref.ensures.value c.in_ok-id.ensures c.in_ok-push.ensures.items

pub returns-clause-made : goal.returns-clause-made
returns-clause-made c =
    let old : TermsView = c.args.goal.now.terms in
    let l = c.loop-node in
    let root : TermId = c.args.goal.now.root in
    let new = c.in_ok-new.new in
    let k = c.nodes-nodes.ensures.nodes in
    let all : length old.nodes ≤ l.node-index = subst (λ (ns : List TermNode). length ns ≤ l.node-index) k c.loop-node-test.false in
    let stands : root.0 < length old.nodes = c.args.goal.now.stands in
    let r = pass_end old l.terms l.node-index l.ids.items root c.term_of-root.result all (omega arith) (c.term_of-root.ensures ∙ ap (λ (js : List TermId). term_of js root) c.deref-2.ensures.value) (record { pass = l.invariant.pass; rest = l.invariant.rest }) in
    let q = subst (λ (v : TermsView). IsRewritten old v root new.root) (sym c.in_ok-new.ensures.terms) (subst (λ (j : TermId). IsRewritten old l.terms root j) (sym c.in_ok-new.ensures.root) r) in
    q.made

pub returns-clause-inputs : goal.returns-clause-inputs
returns-clause-inputs c =
    let old : TermsView = c.args.goal.now.terms in
    let l = c.loop-node in
    let root : TermId = c.args.goal.now.root in
    let new = c.in_ok-new.new in
    let k = c.nodes-nodes.ensures.nodes in
    let all : length old.nodes ≤ l.node-index = subst (λ (ns : List TermNode). length ns ≤ l.node-index) k c.loop-node-test.false in
    let stands : root.0 < length old.nodes = c.args.goal.now.stands in
    let r = pass_end old l.terms l.node-index l.ids.items root c.term_of-root.result all (omega arith) (c.term_of-root.ensures ∙ ap (λ (js : List TermId). term_of js root) c.deref-2.ensures.value) (record { pass = l.invariant.pass; rest = l.invariant.rest }) in
    let q = subst (λ (v : TermsView). IsRewritten old v root new.root) (sym c.in_ok-new.ensures.terms) (subst (λ (j : TermId). IsRewritten old l.terms root j) (sym c.in_ok-new.ensures.root) r) in
    q.inputs

pub returns-clause-value : goal.returns-clause-value
returns-clause-value c =
    let old : TermsView = c.args.goal.now.terms in
    let l = c.loop-node in
    let root : TermId = c.args.goal.now.root in
    let new = c.in_ok-new.new in
    let k = c.nodes-nodes.ensures.nodes in
    let all : length old.nodes ≤ l.node-index = subst (λ (ns : List TermNode). length ns ≤ l.node-index) k c.loop-node-test.false in
    let stands : root.0 < length old.nodes = c.args.goal.now.stands in
    let r = pass_end old l.terms l.node-index l.ids.items root c.term_of-root.result all (omega arith) (c.term_of-root.ensures ∙ ap (λ (js : List TermId). term_of js root) c.deref-2.ensures.value) (record { pass = l.invariant.pass; rest = l.invariant.rest }) in
    let q = subst (λ (v : TermsView). IsRewritten old v root new.root) (sym c.in_ok-new.ensures.terms) (subst (λ (j : TermId). IsRewritten old l.terms root j) (sym c.in_ok-new.ensures.root) r) in
    q.same.word

pub returns-clause-simple : goal.returns-clause-simple
returns-clause-simple c =
    let old : TermsView = c.args.goal.now.terms in
    let l = c.loop-node in
    let root : TermId = c.args.goal.now.root in
    let new = c.in_ok-new.new in
    let k = c.nodes-nodes.ensures.nodes in
    let all : length old.nodes ≤ l.node-index = subst (λ (ns : List TermNode). length ns ≤ l.node-index) k c.loop-node-test.false in
    let stands : root.0 < length old.nodes = c.args.goal.now.stands in
    let r = pass_end old l.terms l.node-index l.ids.items root c.term_of-root.result all (omega arith) (c.term_of-root.ensures ∙ ap (λ (js : List TermId). term_of js root) c.deref-2.ensures.value) (record { pass = l.invariant.pass; rest = l.invariant.rest }) in
    let q = subst (λ (v : TermsView). IsRewritten old v root new.root) (sym c.in_ok-new.ensures.terms) (subst (λ (j : TermId). IsRewritten old l.terms root j) (sym c.in_ok-new.ensures.root) r) in
    q.simple
