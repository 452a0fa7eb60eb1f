use Rattle.std.proofs.Common.{arith, sym, subst}
use Rattle.dsv_rewrite.specs.declared.part.Part.{Part}
use Rattle.dsv_rewrite.proofs.PartRules.{SamePart, innermost_part_same}
use Rattle.dsv_rewrite.proofs.part.part_term.Goals as goal

pub extended_bits-requires-clause-wide : goal.extended_bits-requires-clause-wide
extended_bits-requires-clause-wide c =
    let t = c.args.terms.now in
    let p = c.args.part in
    let k = subst (λ (q : Part). SamePart t p q) (sym c.innermost_part-inner.ensures.inner) (innermost_part_same p.of.0 t p c.requires.sound c.requires.part) in
    omega (arith, k.fewer, c.requires.wide)
