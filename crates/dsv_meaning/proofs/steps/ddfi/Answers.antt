use Rattle.std.proofs.Common.{◌≡◌, rules, arith}
use Rattle.std.proofs.lemmas.Int.{to_z-of_z}
use mir.Syntax.{w64}
use mir.Val.{SFits}
use Rattle.dsv_meaning.specs.Equations.{order}
use Rattle.dsv_meaning.proofs.StepLemmas.{ddfi_sample}
use Rattle.dsv_meaning.proofs.steps.ddfi.Goals as goal

pub returns-clause-sample : goal.returns-clause-sample
returns-clause-sample c =
    let result : SFits w64 c.line-y.result = search rules in
    let n : c.order.result ≡ order c.args.quantised.now = omega arith in
    simp to_z-of_z
    (ddfi_sample c.args.quantised.now c.args.registers.now.items c.split_at.result.0.now c.split_at.result.1.now c.args.x.now
    (record { value = c.line-y.result; exact = c.line-y.new.exact.items })
    (record { words = c.delta_chain.new.registers.items; exact = c.delta_chain.new.exact.items }) (record { words = c.delta_chain-2.new.registers.items; exact = c.delta_chain-2.new.exact.items })
    (rw (n, c.as_slice.ensures.value) at c.split_at.ensures.front) (rw (n, c.as_slice.ensures.value) at c.split_at.ensures.back)
    (rw (c.requires.empty, c.direct_summands.ensures.value) at c.line-y.ensures.value) (rw c.new-next.ensures at c.delta_chain.ensures.value) (simp to_z-of_z at c.delta_chain-2.ensures.value))
