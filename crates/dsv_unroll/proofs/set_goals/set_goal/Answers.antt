use Rattle.std.proofs.Common.{◌≡◌, ℕ, List, replicate}
use Rattle.dsv_word.specs.Words.{width}
use Rattle.dsv_term.specs.declared.node.TermId.{TermId}
use Rattle.dsv_term.specs.Building.{built_of}
use Rattle.dsv_term.specs.Terms.{AreValues, word_of}
use Rattle.dsv_term.specs.TermsView.{TermsView}
use Rattle.dsv_unroll.specs.SetGoals.{set_of, set_inputs}
use Rattle.dsv_unroll.specs.Words.{spelled_words, Tells, BreaksPart}
use Rattle.dsv_unroll.proofs.SetGoal.{made_set_tells, made_set_inputs}
use Rattle.dsv_unroll.proofs.MadeGoals.{goal_made}
use Rattle.dsv_unroll.proofs.set_goals.set_goal.Goals as goal

pub returns-clause-made : goal.returns-clause-made
returns-clause-made c =
    let a = c.args in
    goal_made c.new.result (λ g. g.terms) (λ g. g.root) (λ (t : TermsView) (id : TermId). built_of t id ≡ set_of a.net.now a.range.low a.range.high a.candidate.now a.part) c.set_root.new.terms c.in_ok-root.root
    c.in_ok-root.ensures.built c.new.ensures.terms c.new.ensures.root

pub returns-clause-inputs : goal.returns-clause-inputs
returns-clause-inputs c =
    let a = c.args in
    let net = a.net.now in
    let t = c.set_root.new.terms in
    goal_made c.new.result (λ g. g.terms) (λ g. g.root) (λ (u : TermsView) (id : TermId). u.inputs ≡ replicate (set_inputs net a.candidate.now a.part) (width net.format)) t c.in_ok-root.root
    (made_set_inputs net a.range.low a.range.high a.candidate.now a.part t c.in_ok-root.root c.in_ok-root.ensures.built c.len-count.ensures.netlist c.requires.low c.requires.high c.requires.shaped)
    c.new.ensures.terms c.new.ensures.root

pub returns-clause-exact : goal.returns-clause-exact
returns-clause-exact c =
    let a = c.args in
    let net = a.net.now in
    let t = c.set_root.new.terms in
    let root = c.in_ok-root.root in
    goal_made c.new.result (λ g. g.terms) (λ g. g.root)
    (λ (u : TermsView) (id : TermId). (values : List ℕ) → AreValues u.inputs values → Tells (word_of u values id) (BreaksPart net a.range.low a.range.high a.candidate.now a.part (spelled_words net.format values))) t root
    (λ values v. made_set_tells net a.range.low a.range.high a.candidate.now a.part t root values c.in_ok-root.ensures.built c.len-count.ensures.netlist c.requires.low c.requires.high c.requires.shaped v)
    c.new.ensures.terms c.new.ensures.root
