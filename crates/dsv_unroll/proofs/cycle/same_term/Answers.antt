use Rattle.std.proofs.Common.{◌∙◌, sym}
use Rattle.std.proofs.lemmas.Result.{IfOk-weaker}
use Rattle.dsv_term.specs.declared.node.TermNode.TheVariants.{Eq}
use Rattle.dsv_term.specs.Building.{with_node}
use Rattle.dsv_term.specs.Growth.{Adds}
use Rattle.dsv_term.specs.Terms.{Makes}
use Rattle.dsv_term.proofs.Building.{Adds-built, Adds-both, later, same_gives}
use Rattle.dsv_unroll.proofs.cycle.same_term.Goals as goal

pub returns-clause-adds : goal.returns-clause-adds
returns-clause-adds c =
    let t = c.args.terms.now in
    let u = c.widened_term.new.terms in
    let v = c.widened_term-2.new.terms in
    let w = c.eq.new.self in
    let a = c.in_ok-first.first in
    let b = c.in_ok-second.second in
    let bits = c.max-bits.result in
    let first = c.in_ok-first.ensures.adds in
    let second = c.in_ok-second.ensures.adds in
    let l = later u v a second.kept first.stands in
    let g = same_gives v a b second.sound l.stands second.stands (l.width ∙ (first.width ∙ sym second.width)) in
    IfOk-weaker c.eq.result (λ made. Makes v w (Eq a b) made) (λ made. Adds t w made 1) (λ made m.
    let last = Adds-built v w made (with_node v (Eq a b)) 1 m.built g.adds in
    Adds-both t v w b made bits 1 (Adds-both t u v a b bits bits first second) last) c.eq.ensures.made
