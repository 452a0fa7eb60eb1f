use Rattle.std.proofs.Common.{◌≡◌, rules, arith, ap}
use Rattle.std.proofs.lemmas.Int.{to_z-of_z}
use mir.Syntax.{w64}
use mir.Val.{SFits}
use Rattle.std.proofs.Common.{length}
use Rattle.dsv_meaning.specs.Equations.{order}
use Rattle.dsv_meaning.proofs.StepLemmas.{dfi_sample}
use Rattle.dsv_meaning.proofs.steps.dfi.Goals as goal

pub returns-clause-sample : goal.returns-clause-sample
returns-clause-sample c =
    let result : SFits w64 c.line-y.result = search rules in
    let n : c.order.result ≡ order c.args.quantised.now = omega arith in
    let all = ap length c.as_slice.ensures.value in
    simp to_z-of_z
    (dfi_sample c.args.quantised.now c.args.registers.now.items c.split_at.result.0.now c.split_at.result.1.now c.delay.new.registers.items c.delay-2.new.registers.items c.args.x.now
    (record { value = c.line-y.result; exact = c.line-y.new.exact.items })
    (rw (n, c.as_slice.ensures.value) at c.split_at.ensures.front) (rw (n, c.as_slice.ensures.value) at c.split_at.ensures.back) (omega arith) (omega (arith, c.requires.many))
    (rw (c.requires.empty, c.direct_summands-summands.ensures.value) at c.line-y.ensures.value) (rw c.new-next.ensures at c.delay.ensures.value) (simp to_z-of_z at c.delay-2.ensures.value))
