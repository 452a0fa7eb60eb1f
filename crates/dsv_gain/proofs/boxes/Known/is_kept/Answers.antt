use Rattle.std.proofs.Common.{arith, sym}
use Rattle.dsv_gain.proofs.BoxLoops.{kept_unequal}
use Rattle.dsv_gain.proofs.boxes.Known.is_kept.Goals as goal

pub returns-then-self-next : goal.returns-then-self-next
returns-then-self-next c =
    let known = c.args.self.now in
    let list = known.registers.now in
    sym (kept_unequal c.args.format.now known.input list known.fitted.now c.args.nodes.now c.args.next.now list (λ e. absurd (omega (arith, e, c.if-self-next.true))))
