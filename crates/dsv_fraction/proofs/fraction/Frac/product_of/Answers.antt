use Rattle.std.proofs.Common.{arith}
use Rattle.dsv_fraction.specs.Parts.{differ}
use Rattle.dsv_fraction.proofs.Products.{refused_num, refused_den, given, product_coprime}
use Rattle.dsv_fraction.proofs.fraction.Frac.product_of.Goals as goal

pub returns-in_default : goal.returns-in_default
returns-in_default c =
    refused_num (differ c.args.own.negative c.args.its.negative) c.requires.own c.requires.its c.cancel-first.ensures.parts c.cancel-second.ensures.parts (omega (arith, c.in_default.ensures))

pub returns-in_default-checked_mul : goal.returns-in_default-checked_mul
returns-in_default-checked_mul c =
    refused_den (differ c.args.own.negative c.args.its.negative) c.requires.own c.requires.its c.cancel-first.ensures.parts c.cancel-second.ensures.parts (omega (arith, c.in_default-checked_mul.ensures))

pub exact_fraction-requires : goal.exact_fraction-requires
exact_fraction-requires c =
    let g = product_coprime c.requires.own c.requires.its c.cancel-first.ensures.parts c.cancel-second.ensures.parts in
    let p = c.in-Some.ensures in
    let q = c.in-Some-checked_mul.ensures in
    rw (p.1, q.1) g

pub returns : goal.returns
returns c =
    let p = c.in-Some.ensures in
    let q = c.in-Some-checked_mul.ensures in
    given (differ c.args.own.negative c.args.its.negative) c.requires.own c.requires.its c.cancel-first.ensures.parts c.cancel-second.ensures.parts p.1 q.1 c.exact_fraction.ensures
