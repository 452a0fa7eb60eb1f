use Rattle.std.proofs.Common.{◌∙◌, sym}
use Rattle.dsv_term.specs.declared.node.TermNode.TheVariants.{Or}
use Rattle.dsv_term.specs.Building.{with_node}
use Rattle.dsv_term.specs.Terms.{width_of}
use Rattle.dsv_term.proofs.Made.{KeepsTerms-both}
use Rattle.dsv_term.proofs.Building.{Adds-built, later, or_gives}
use Rattle.dsv_unroll.proofs.cycle.found_cycle.Goals as goal

pub returns-clause-sound : goal.returns-clause-sound
returns-clause-sound c =
    let u = c.returned_terms.new.terms in
    let v = c.or.new.self in
    let before = c.args.state.found in
    let cycle = c.in_ok-cycle.cycle in
    let e = c.in_ok-cycle.ensures in
    let l = later c.args.terms.now u before e.kept c.requires.found.stands in
    (Adds-built u v c.in_ok-found.found (with_node u (Or before cycle)) (width_of u before) c.in_ok-found.ensures.made.built
    (or_gives u before cycle e.sound l.stands e.bit.stands (l.width ∙ (c.requires.found.width ∙ sym e.bit.width))).adds).sound

pub returns-clause-kept : goal.returns-clause-kept
returns-clause-kept c = KeepsTerms-both c.args.terms.now c.returned_terms.new.terms c.or.new.self c.in_ok-cycle.ensures.kept c.in_ok-found.ensures.made.kept
