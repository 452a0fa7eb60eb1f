use Rattle.std.proofs.Common.{◌≡◌, ◌∙◌, [], List, drop, refl, ap, sym, arith}
use Rattle.std.proofs.lemmas.List.{drop_all}
use Rattle.std.proofs.lemmas.Result.{IfOk-weaker}
use Rattle.dsv_term.specs.declared.node.TermId.{TermId}
use Rattle.dsv_term.specs.Terms.{KeepsTerms}
use Rattle.dsv_term.proofs.Made.{KeepsTerms-both}
use Rattle.dsv_unroll.specs.Rules.{term_at}
use Rattle.dsv_unroll.specs.Beside.{states_with}
use Rattle.dsv_unroll.specs.SetGoals.{StateTerms, with_state, states_from}
use Rattle.dsv_unroll.proofs.SetStates.{IsWalking, walk_step}
use Rattle.dsv_unroll.proofs.unroller.Unroller.state_terms.Goals as goal

pub loop-x-preserved : goal.loop-x-preserved
loop-x-preserved c =
    let l = c.loop-x in
    let i = l.invariant in
    let net = c.args.self.now.net.now in
    let xs = c.args.inputs.now in
    let s = states_with l.terms l.state in
    let here = states_with c.with_state.new.terms c.in_ok-here.here in
    let now = states_with c.with_next.new.terms c.in_ok-state.state in
    let end : StateTerms = states_from net c.args.self.now.zero_bit c.args.candidate.now (record { terms = c.args.terms.now; registers = c.args.start.items; inside = [] }) xs in
    let before : IsWalking net c.args.self.now.zero_bit c.args.candidate.now c.args.terms.now xs l.x-index s end = record { ready = i.ready; inputs_stand = i.inputs; kept = i.kept; count = i.count; same = i.same } in
    let e = c.in_ok-here.ensures in
    let g = c.in_ok-state.ensures in
    let a = walk_step net c.args.self.now.zero_bit c.args.candidate.now c.args.terms.now xs l.x-index s here now end (term_at xs l.x-index) c.loop-x-test.true refl before e.built e.kept g.built g.ready g.kept in
    record { ready = a.ready; inputs = a.inputs_stand; kept = a.kept; count = a.count; same = a.same }

pub returns-clause-kept : goal.returns-clause-kept
returns-clause-kept c =
    IfOk-weaker c.with_state-2.result (λ states. KeepsTerms c.loop-x.terms c.with_state-2.new.terms) (λ states. KeepsTerms c.args.terms.now c.with_state-2.new.terms)
    (λ states k. KeepsTerms-both c.args.terms.now c.loop-x.terms c.with_state-2.new.terms c.loop-x.invariant.kept k) c.with_state-2.ensures.kept

pub returns-clause-built : goal.returns-clause-built
returns-clause-built c =
    let l = c.loop-x in
    let net = c.args.self.now.net.now in
    let zero_bit = c.args.self.now.zero_bit in
    let candidate = c.args.candidate.now in
    let u = c.with_state-2.new.terms in
    let s = states_with l.terms l.state in
    let none : drop l.x-index c.args.inputs.now ≡ [] = drop_all l.x-index c.args.inputs.now (omega arith) in
    let start : StateTerms = record { terms = c.args.terms.now; registers = c.args.start.items; inside = [] } in
    let rest = sym (ap (λ (xs : List TermId). states_from net zero_bit candidate s xs) none) ∙ l.invariant.same in
    IfOk-weaker c.with_state-2.result (λ states. states_with u states ≡ with_state net zero_bit candidate s) (λ states. states_with u states ≡ states_from net zero_bit candidate start c.args.inputs.now) (λ states e. e ∙ rest) c.with_state-2.ensures.built

pub returns-clause-ready : goal.returns-clause-ready
returns-clause-ready c = c.with_state-2.ensures.ready
