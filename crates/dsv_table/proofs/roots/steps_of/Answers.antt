use Rattle.std.proofs.Common.{◌≡◌, false, length, rules}
use Rattle.std.proofs.Math.IntN.{◌+ℤ◌}
use Rattle.dsv_table.specs.RootSize.{is_inside_at}
use Rattle.dsv_table.proofs.RootSizes.{nearer, steps_more, top_positive}
use Rattle.dsv_table.proofs.roots.steps_of.Goals as goal

pub loop-top-smaller : goal.loop-top-smaller
loop-top-smaller c =
    let cs = c.args.coefficients.now in
    let top = c.loop-top.top in
    let e : c.in_ok-next.next ≡ top +ℤ top = search rules in
    let t : is_inside_at top cs ≡ false = search rules in
    rw e (nearer cs top c.requires.order c.requires.lead (top_positive top (length c.loop-top.steps.items) c.loop-top.invariant.top) t)

pub loop-top-preserved : goal.loop-top-preserved
loop-top-preserved c =
    let top = c.loop-top.top in
    let steps = c.loop-top.steps.items in
    let next = c.in_ok-next.next in
    let e : next ≡ top +ℤ top = search rules in
    let m = steps_more steps c.push.new.self.items top next c.loop-top.invariant.powers c.loop-top.invariant.top e c.in_ok-push.ensures.items in
    record { powers = m.0; top = m.1 }
