use Rattle.std.proofs.Common.{◌+◌, ◌-◌, arith}
use Rattle.dsv_term.proofs.Building.{Adds-built}
use Rattle.dsv_rewrite.specs.Parts.{bits_term}
use Rattle.dsv_rewrite.proofs.PartRules.{bits_rewrites}
use Rattle.dsv_rewrite.proofs.PartSteps.{part_small}
use Rattle.dsv_rewrite.proofs.part.extended_bits.Goals as goal

pub overflow_add-part : goal.overflow_add-part
overflow_add-part c = omega (arith, part_small c.args.terms.now c.args.part c.requires.sound c.requires.part)

pub sext-requires-clause-stands : goal.sext-requires-clause-stands
sext-requires-clause-stands c =
    let t = c.args.terms.now in
    let p = c.args.part in
    let r = c.requires in
    (Adds-built t c.bits_term.new.terms c.in_ok-bits.bits (bits_term t p) (p.high + 1 - p.low) c.in_ok-bits.ensures (bits_rewrites t p r.sound r.part r.is_open).rewrites.adds).stands

pub sext-requires-clause-wider : goal.sext-requires-clause-wider
sext-requires-clause-wider c =
    let t = c.args.terms.now in
    let p = c.args.part in
    let r = c.requires in
    let a = Adds-built t c.bits_term.new.terms c.in_ok-bits.bits (bits_term t p) (p.high + 1 - p.low) c.in_ok-bits.ensures (bits_rewrites t p r.sound r.part r.is_open).rewrites.adds in
    omega (arith, a.width, r.wide, r.part.order)
