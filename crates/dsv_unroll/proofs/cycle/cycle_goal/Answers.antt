use Rattle.std.proofs.Common.{◌≡◌, ◌-◌, ℕ, List, length, replicate}
use Rattle.dsv_word.specs.Words.{width}
use Rattle.dsv_term.specs.declared.node.TermId.{TermId}
use Rattle.dsv_term.specs.Building.{built_of}
use Rattle.dsv_term.specs.Terms.{AreValues, word_of}
use Rattle.dsv_term.specs.TermsView.{TermsView}
use Rattle.dsv_unroll.specs.CycleGoals.{cycle_of}
use Rattle.dsv_unroll.specs.Words.{cycle_start, HasCycle, Tells}
use Rattle.dsv_unroll.proofs.CycleGoal.{made_cycle_tells, made_cycle_inputs}
use Rattle.dsv_unroll.proofs.MadeGoals.{goal_made}
use Rattle.dsv_unroll.proofs.cycle.cycle_goal.Goals as goal

pub returns-clause-made : goal.returns-clause-made
returns-clause-made c =
    let net = c.args.net.now in
    goal_made c.new.result (λ g. g.terms) (λ g. g.root) (λ (t : TermsView) (id : TermId). built_of t id ≡ cycle_of net c.args.periods) c.cycle_root.new.terms c.in_ok-root.root c.in_ok-root.ensures.built c.new.ensures.terms c.new.ensures.root

pub returns-clause-inputs : goal.returns-clause-inputs
returns-clause-inputs c =
    let net = c.args.net.now in
    goal_made c.new.result (λ g. g.terms) (λ g. g.root) (λ (t : TermsView) (id : TermId). t.inputs ≡ replicate (length net.next - net.feed_forward) (width net.format)) c.cycle_root.new.terms c.in_ok-root.root
    (made_cycle_inputs net c.args.periods c.cycle_root.new.terms c.in_ok-root.root c.in_ok-root.ensures.built c.len-count.ensures.netlist) c.new.ensures.terms c.new.ensures.root

pub returns-clause-exact : goal.returns-clause-exact
returns-clause-exact c =
    let net = c.args.net.now in
    let t = c.cycle_root.new.terms in
    let root = c.in_ok-root.root in
    goal_made c.new.result (λ g. g.terms) (λ g. g.root)
    (λ (u : TermsView) (id : TermId). (values : List ℕ) → AreValues u.inputs values → Tells (word_of u values id) (HasCycle net (cycle_start net values) c.args.periods)) t root
    (λ values v. made_cycle_tells net c.args.periods t root values c.in_ok-root.ensures.built c.len-count.ensures.netlist v) c.new.ensures.terms c.new.ensures.root
