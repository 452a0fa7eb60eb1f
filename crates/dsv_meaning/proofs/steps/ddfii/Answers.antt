use Rattle.std.proofs.Common.{rules}
use Rattle.std.proofs.lemmas.Int.{to_z-of_z}
use mir.Syntax.{w64}
use mir.Val.{SFits}
use Rattle.dsv_meaning.proofs.StepLemmas.{ddfii_sample}
use Rattle.dsv_meaning.proofs.steps.ddfii.Goals as goal

pub returns-clause-sample : goal.returns-clause-sample
returns-clause-sample c =
    let result : SFits w64 c.line-y.result = search rules in
    let w : SFits w64 c.line-w.result = search rules in
    simp to_z-of_z
    (ddfii_sample c.args.quantised.now c.args.registers.now.items c.args.x.now
    (record { value = c.line-w.result; exact = c.line-w.new.exact.items }) (record { value = c.line-y.result; exact = c.line-y.new.exact.items })
    (record { words = c.delta_chain.new.registers.items; exact = c.delta_chain.new.exact.items })
    (rw (c.requires.empty, c.state_summands.ensures.value, c.as_slice-old.ensures.value) at c.line-w.ensures.value)
    (simp (to_z-of_z, c.forward_summands.ensures.value, c.as_slice-old.ensures.value) at c.line-y.ensures.value)
    (simp (to_z-of_z, c.new-next.ensures, c.as_slice-old.ensures.value) at c.delta_chain.ensures.value))
