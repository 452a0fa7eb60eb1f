use Rattle.std.proofs.Common.{◌≡◌, ℕ, length, true, arith, rules}
use Rattle.std.specs.Prelude.{ℤ, pos}
use Rattle.dsv_algebra.specs.Floor.{floor_of}
use Rattle.dsv_netlist.specs.Nodes.{at}
use Rattle.dsv_linear.specs.Forms.{entries}
use Rattle.dsv_linear.proofs.Entries.{entries_stop}
use Rattle.dsv_network.specs.Samples.{owned, is_lawful, step_of}
use Rattle.dsv_network.proofs.Steps.{lawful_none}
use Rattle.dsv_network.proofs.walk.quotient_form.Goals as goal

pub returns-in_default : goal.returns-in_default
returns-in_default c =
    let near = c.args.near.now in
    let yes : is_lawful near ≡ true = grind (arith, c.is_lawful.ensures, c.if-not-is_lawful.false) in
    let all : ℕ → ℤ = λ j. owned c.args.pass.now.is_first c.args.own j (pos (step_of near)) (floor_of (at c.args.form.now j) near.divisor) in
    lawful_none near (entries (length c.args.pass.now.ranges) all) yes (entries_stop all c.loop-j.j (length c.args.pass.now.ranges) c.loop-j.list (omega arith) c.loop-j.invariant (search rules))
