use Rattle.std.proofs.Common.{sym, ◌∙◌}
use Rattle.std.proofs.lemmas.Result.{IfOk-weaker}
use Rattle.dsv_term.specs.declared.node.TermNode.TheVariants.{Constant, Add}
use Rattle.dsv_term.specs.Building.{with_node}
use Rattle.dsv_term.specs.Growth.{Adds}
use Rattle.dsv_term.specs.Terms.{Makes, width_of}
use Rattle.dsv_term.proofs.Building.{Adds-built, Adds-both, Adds-width, later, constant_gives, sum_gives}
use Rattle.dsv_unroll.proofs.rules.with_addend.Goals as goal

pub returns-clause-adds : goal.returns-clause-adds
returns-clause-adds c =
    let t = c.args.terms.now in
    let u = c.constant.new.self in
    let v = c.add.new.self in
    let a = c.args.id in
    let k = c.in_ok-constant.constant in
    let bits = c.args.bits in
    let r = c.requires in
    let first = Adds-built t u k (with_node t (Constant bits c.args.addend)) bits c.in_ok-constant.ensures.made.built (constant_gives t bits c.args.addend r.sound r.width r.small).adds in
    let l = later t u a first.kept r.stands in
    let g = sum_gives u a k first.sound l.stands first.stands (l.width ∙ (r.same ∙ sym first.width)) in
    IfOk-weaker c.add.result (λ made. Makes u v (Add a k) made) (λ made. Adds t v made bits) (λ made m.
    let second = Adds-built u v made (with_node u (Add a k)) (width_of u a) m.built g.adds in
    Adds-width t v made (width_of u a) bits (Adds-both t u v k made bits (width_of u a) first second) (l.width ∙ r.same)) c.add.ensures.made
