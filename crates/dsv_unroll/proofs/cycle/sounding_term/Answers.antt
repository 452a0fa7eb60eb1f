use Rattle.std.proofs.Common.{◌∙◌, sym}
use Rattle.std.proofs.lemmas.Result.{IfOk-weaker}
use Rattle.dsv_term.specs.declared.node.TermNode.TheVariants.{Not, Or}
use Rattle.dsv_term.specs.Building.{with_node}
use Rattle.dsv_term.specs.Growth.{Adds}
use Rattle.dsv_term.specs.Terms.{Makes, width_of}
use Rattle.dsv_term.proofs.Made.{KeepsTerms-both}
use Rattle.dsv_term.proofs.Building.{Adds-built, Adds-both, Adds-width, later, complement_gives, or_gives}
use Rattle.dsv_unroll.proofs.cycle.sounding_term.Goals as goal

pub returns-clause-adds : goal.returns-clause-adds
returns-clause-adds c =
    let t = c.args.terms.now in
    let u = c.same_term.new.terms in
    let v = c.not.new.self in
    let w = c.or.new.self in
    let quiet = c.in_ok-quiet.quiet in
    let sound = c.in_ok-sound.sound in
    let bit = c.requires.bit in
    let a = c.in_ok-quiet.ensures.adds in
    let b = Adds-built u v sound (with_node u (Not quiet)) (width_of u quiet) c.in_ok-sound.ensures.made.built (complement_gives u quiet a.sound a.stands).adds in
    let l = later t v c.args.sounding (KeepsTerms-both t u v a.kept b.kept) bit.stands in
    let g = or_gives v c.args.sounding sound b.sound l.stands b.stands (l.width ∙ (bit.width ∙ sym (b.width ∙ a.width))) in
    IfOk-weaker c.or.result (λ made. Makes v w (Or c.args.sounding sound) made) (λ made. Adds t w made 1) (λ made m.
    let d = Adds-built v w made (with_node v (Or c.args.sounding sound)) (width_of v c.args.sounding) m.built g.adds in
    Adds-width t w made (width_of v c.args.sounding) 1 (Adds-both t v w sound made (width_of u quiet) (width_of v c.args.sounding) (Adds-both t u v quiet sound 1 (width_of u quiet) a b) d) (l.width ∙ bit.width)) c.or.ensures.made
