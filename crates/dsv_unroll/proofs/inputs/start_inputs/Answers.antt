use Rattle.std.proofs.Common.{◌∙◌, ap, arith}
use Rattle.dsv_word.specs.Words.{width}
use Rattle.dsv_term.specs.Building.{with_new_input}
use Rattle.dsv_unroll.specs.CycleGoals.{StartTerms, starts_from}
use Rattle.dsv_unroll.proofs.CycleSteps.{start_step}
use Rattle.dsv_unroll.proofs.inputs.start_inputs.Goals as goal

pub loop-k-preserved : goal.loop-k-preserved
loop-k-preserved c =
    let l = c.loop-k in
    let n = width c.args.format.now in
    let end : StartTerms = starts_from n c.args.count (record { terms = c.args.terms.now; ids = c.args.before.items }) in
    start_step n c.args.count l.k l.terms c.input.new.self l.ids.items c.push.new.self.items c.in_ok-x.x end (omega arith) l.invariant
    (c.in_ok-x.ensures.made.built ∙ ap (with_new_input l.terms) c.width-bits.ensures.value) c.in_ok-push.ensures.items
