use Rattle.std.proofs.Common.{arith, rules, unsigned_abs}
use Rattle.std.proofs.lemmas.Int.{to_z-of_z, ints}
use mir.Syntax.{w128}
use mir.Val.{SFits}
use Rattle.dsv_delta.proofs.Overs.{first_wide, first_given, next_given, next_wide}
use Rattle.dsv_delta.proofs.powers.bounded_over_power.Goals as goal

pub returns-in_err-quotient : goal.returns-in_err-quotient
returns-in_err-quotient c =
    let a : SFits w128 c.get.result = search rules in
    let b : SFits w128 c.get-2.result = search rules in
    let made = rw (c.get.ensures, c.get-2.ensures) at (simp to_z-of_z at c.new.ensures.exact) in
    first_wide c.args.delta.now c.args.sum c.args.common c.args.power c.new.result c.from_residual.result c.in_err-quotient.field-0.0 c.requires.common made c.in_err-quotient.was c.from_residual.ensures.0

pub dividing-init : goal.dividing-init
dividing-init c =
    let a : SFits w128 c.get.result = search rules in
    let b : SFits w128 c.get-2.result = search rules in
    let made = rw (c.get.ensures, c.get-2.ensures) at (simp to_z-of_z at c.new.ensures.exact) in
    first_given c.args.delta.now c.args.sum c.args.common c.new.result c.in_ok-quotient.quotient c.requires.common made c.in_ok-quotient.was

pub dividing-preserved : goal.dividing-preserved
dividing-preserved c =
    next_given c.args.delta.now c.args.sum (unsigned_abs c.args.common) c.dividing.counter c.dividing.quotient c.div.result c.in_ok-quotient-2.quotient
    (omega (arith, ints)) c.requires.delta c.dividing.invariant c.div.ensures.exact c.in_ok-quotient-2.was

pub returns-in_err-quotient-2 : goal.returns-in_err-quotient-2
returns-in_err-quotient-2 c =
    next_wide c.args.delta.now c.args.sum (unsigned_abs c.args.common) c.dividing.counter c.args.power c.dividing.quotient c.div.result c.from_residual-in_err-quotient-2.result
    c.in_err-quotient-2.field-0.0 (omega (arith, ints)) c.requires.delta c.dividing.invariant c.div.ensures.exact c.in_err-quotient-2.was (omega arith) c.from_residual-in_err-quotient-2.ensures.0
