use Rattle.std.proofs.Common.{false, true, ◌≡◌}
use Rattle.dsv_netlist.specs.Bounds.{bounds_of}
use Rattle.dsv_netlist.proofs.BoundLemmas.{AreBelow, here_below}
use Rattle.dsv_netlist.proofs.bounds.bounds_of.Goals as goal

pub returns-in_err-bound-clause-exact : goal.returns-in_err-bound-clause-exact
returns-in_err-bound-clause-exact c =
    let i = c.loop-i.invariant in
    let here = λ (all : AreBelow (bounds_of c.args.format.now c.args.nodes.now)). here_below c.args.format.now c.args.nodes.now c.loop-i.i c.loop-i.bounds c.loop-i-test.true (record { same = i.same; below = i.below }) all in
    rw c.from_residual.ensures (λ (some : false ≡ true). absurd cc, λ all. c.in_err-bound.ensures.exact.1 (here all))
