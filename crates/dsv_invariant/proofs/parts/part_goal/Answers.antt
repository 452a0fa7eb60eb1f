use Rattle.std.proofs.Common.{◌≡◌, ◌∙◌, ap, sym, subst, true, SFits, rules, ℕ}
use Rattle.std.specs.Int.{w64}
use Rattle.std.proofs.lemmas.Int.{to_z-of_z}
use Rattle.dsv_netlist.specs.Nodes.{Net}
use Rattle.dsv_template.specs.Candidates.{is_shaped}
use Rattle.dsv_unroll.specs.SetGoals.{set_of}
use Rattle.dsv_invariant.proofs.Sentences.{part_asks}
use Rattle.dsv_invariant.proofs.parts.part_goal.Goals as goal

pub set_goal-requires-clause-shaped : goal.set_goal-requires-clause-shaped
set_goal-requires-clause-shaped c = subst (λ (k : ℕ). is_shaped k c.args.candidate.now ≡ true) (sym c.requires.net.runs.many) c.requires.shaped

pub returns-clause-made : goal.returns-clause-made
returns-clause-made c =
    let q = c.args.quantised.now in
    let low : SFits w64 c.xlo.result = search rules in
    let high : SFits w64 c.xhi.result = search rules in
    let made = rw (to_z-of_z w64 c.xlo.result low, to_z-of_z w64 c.xhi.result high, c.xlo.ensures.same, c.xhi.ensures.same) at c.in_ok-goal.ensures.made in
    made ∙ ap (λ (net : Net). set_of net q.xlo q.xhi c.args.candidate.now c.args.part) c.requires.net.same

pub returns-clause-asks : goal.returns-clause-asks
returns-clause-asks c =
    let g = c.in_ok-goal.goal in
    let e = c.in_ok-goal.ensures in
    let low : SFits w64 c.xlo.result = search rules in
    let high : SFits w64 c.xhi.result = search rules in
    let exact = rw (to_z-of_z w64 c.xlo.result low, to_z-of_z w64 c.xhi.result high, c.xlo.ensures.same, c.xhi.ensures.same) at e.exact in
    part_asks c.args.quantised.now c.args.net.now c.args.candidate.now c.args.part g.terms g.root c.requires.net.runs c.len-count.ensures.terms g.stands g.one_bit e.inputs exact
