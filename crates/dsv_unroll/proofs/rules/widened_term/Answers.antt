use Rattle.std.proofs.lemmas.Result.{IfOk-weaker}
use Rattle.dsv_term.specs.declared.node.TermNode.TheVariants.{Sext}
use Rattle.dsv_term.specs.Building.{with_node}
use Rattle.dsv_term.specs.Growth.{Adds}
use Rattle.dsv_term.specs.Terms.{Makes}
use Rattle.dsv_term.proofs.Building.{Adds-built, extension_gives}
use Rattle.dsv_unroll.proofs.rules.widened_term.Goals as goal

pub returns-clause-adds : goal.returns-clause-adds
returns-clause-adds c =
    let t = c.args.terms.now in
    let u = c.sext.new.self in
    let bits = c.args.bits in
    let r = c.requires in
    let a = (extension_gives t c.args.id bits r.sound r.stands r.wider r.narrow).adds in
    IfOk-weaker c.sext.result (λ made. Makes t u (Sext c.args.id bits) made) (λ made. Adds t u made bits) (λ made m. Adds-built t u made (with_node t (Sext c.args.id bits)) bits m.built a) c.sext.ensures.made
