use Rattle.std.proofs.Common.{◌≡◌, ℕ, List, replicate, w64}
use Rattle.std.proofs.lemmas.Int.{to_z-of_z}
use Rattle.dsv_word.specs.Words.{width}
use Rattle.dsv_system.specs.Breaks.{Breaks}
use Rattle.dsv_term.specs.declared.node.TermId.{TermId}
use Rattle.dsv_term.specs.Building.{built_of}
use Rattle.dsv_term.specs.Terms.{AreValues, word_of}
use Rattle.dsv_term.specs.TermsView.{TermsView}
use Rattle.dsv_unroll.specs.Goals.{overflow_of}
use Rattle.dsv_unroll.specs.Words.{spelled_words, Tells}
use Rattle.dsv_unroll.proofs.Breaking.{made_tells, made_inputs}
use Rattle.dsv_unroll.proofs.MadeGoals.{goal_made}
use Rattle.dsv_netlist.specs.Systems.{runs_of}
use Rattle.dsv_unroll.proofs.overflow.overflow_goal.Goals as goal

pub returns-clause-made : goal.returns-clause-made
returns-clause-made c =
    let net = c.args.net.now in
    let built = rw (to_z-of_z w64 c.args.low c.ranges.low, to_z-of_z w64 c.args.high c.ranges.high) at c.in_ok-root.ensures.built in
    goal_made c.new.result (λ g. g.terms) (λ g. g.root) (λ (t : TermsView) (id : TermId). built_of t id ≡ overflow_of net c.args.low c.args.high c.args.samples) c.overflow_root.new.terms c.in_ok-root.root
    built c.new.ensures.terms c.new.ensures.root

pub returns-clause-inputs : goal.returns-clause-inputs
returns-clause-inputs c =
    let net = c.args.net.now in
    let t = c.overflow_root.new.terms in
    let e = c.in_ok-root.ensures in
    let built = rw (to_z-of_z w64 c.args.low c.ranges.low, to_z-of_z w64 c.args.high c.ranges.high) at e.built in
    let facts = rw (to_z-of_z w64 c.args.low c.ranges.low, to_z-of_z w64 c.args.high c.ranges.high) at e.facts in
    goal_made c.new.result (λ g. g.terms) (λ g. g.root) (λ (u : TermsView) (id : TermId). u.inputs ≡ replicate c.args.samples (width net.format)) t c.in_ok-root.root
    (made_inputs net c.args.low c.args.high c.args.samples t c.in_ok-root.root built e.netlist c.requires.low c.requires.high facts) c.new.ensures.terms c.new.ensures.root

pub returns-clause-exact : goal.returns-clause-exact
returns-clause-exact c =
    let net = c.args.net.now in
    let low = c.args.low in
    let high = c.args.high in
    let t = c.overflow_root.new.terms in
    let root = c.in_ok-root.root in
    let e = c.in_ok-root.ensures in
    let built = rw (to_z-of_z w64 low c.ranges.low, to_z-of_z w64 high c.ranges.high) at e.built in
    let facts = rw (to_z-of_z w64 low c.ranges.low, to_z-of_z w64 high c.ranges.high) at e.facts in
    goal_made c.new.result (λ g. g.terms) (λ g. g.root)
    (λ (u : TermsView) (id : TermId). (values : List ℕ) → AreValues u.inputs values → Tells (word_of u values id) (Breaks (runs_of net) low high (spelled_words net.format values))) t root
    (λ values v. made_tells net low high c.args.samples t root values built e.netlist c.requires.low c.requires.high facts v) c.new.ensures.terms c.new.ensures.root
