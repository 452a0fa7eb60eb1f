use Rattle.std.proofs.Common.{◌^◌, ◌*◌, ◌≤◌, arith}
use Rattle.std.proofs.Math.Nat.{mod-le, pow-le-pow_right}
use Rattle.dsv_unroll.proofs.nodes.addend_of.Goals as goal

pub returns-in-Nearest-clause-small : goal.returns-in-Nearest-clause-small
returns-in-Nearest-clause-small c =
    let k = c.saturating_sub.result in
    let m = mod-le (1 * 2 ^ k) (2 ^ 128) in
    let p : 2 ^ k ≤ 2 ^ c.args.format.now.frac_bits = pow-le-pow_right (omega arith) (omega (arith, c.saturating_sub.ensures)) in
    omega (arith, m, p)
