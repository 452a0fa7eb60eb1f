use Rattle.std.proofs.Common.{◌≡◌, ◌∙◌, ◌-◌, arith, ap, refl, Some, None, ℕ, min}
use Rattle.dsv_term.specs.declared.node.TermNode.TheVariants.{Concat, Sext, Extract}
use Rattle.dsv_rewrite.specs.declared.part.Part.{Part}
use Rattle.dsv_rewrite.specs.Parts.{inside_joined, inside_extension}
use Rattle.dsv_rewrite.proofs.PartSteps.{joined_stands, extended_stands, extract_small, inner_part_is, joined_lower, joined_upper, joined_across, not_inner}
use Rattle.dsv_rewrite.proofs.part.inner_part.Goals as goal

pub width-bits-requires : goal.width-bits-requires
width-bits-requires c = joined_stands c.args.terms.now c.args.part c.in-Concat.a c.in-Concat.b c.requires.sound c.requires.part (c.node.ensures.node ∙ ap Some c.in-Concat.is)

pub width-top-requires : goal.width-top-requires
width-top-requires c = extended_stands c.args.terms.now c.args.part c.in-Sext.of c.in-Sext.width c.requires.sound c.requires.part (c.node.ensures.node ∙ ap Some c.in-Sext.is)

pub overflow_add-result : goal.overflow_add-result
overflow_add-result c = omega (arith, extract_small c.args.terms.now c.args.part c.in-Extract.of c.in-Extract.high c.in-Extract.low c.requires.sound c.requires.part (c.node.ensures.node ∙ ap Some c.in-Extract.is))

pub overflow_add-result-in-Extract : goal.overflow_add-result-in-Extract
overflow_add-result-in-Extract c = omega (arith, c.requires.part.order, extract_small c.args.terms.now c.args.part c.in-Extract.of c.in-Extract.high c.in-Extract.low c.requires.sound c.requires.part (c.node.ensures.node ∙ ap Some c.in-Extract.is))

pub returns-then-part-bits : goal.returns-then-part-bits
returns-then-part-bits c =
    let p = c.args.part in
    let a = c.in-Concat.a in
    let b = c.in-Concat.b in
    inner_part_is c.args.terms.now p (Concat a b) (Some (record p { of = b })) (c.node.ensures.node ∙ ap Some c.in-Concat.is)
    (joined_lower a b c.width-bits.result p c.if-part-bits.true ∙ ap (λ (n : ℕ). inside_joined a b n p) c.width-bits.ensures.width)

pub returns-then-bits-part : goal.returns-then-bits-part
returns-then-bits-part c =
    let p = c.args.part in
    let a = c.in-Concat.a in
    let b = c.in-Concat.b in
    let bits = c.width-bits.result in
    let q : Part = record { of = a; high = p.high - bits; low = p.low - bits } in
    inner_part_is c.args.terms.now p (Concat a b) (Some q) (c.node.ensures.node ∙ ap Some c.in-Concat.is)
    (joined_upper a b bits p c.if-part-bits.false c.if-bits-part.true ∙ ap (λ (n : ℕ). inside_joined a b n p) c.width-bits.ensures.width)

pub returns-else-bits-part : goal.returns-else-bits-part
returns-else-bits-part c =
    let p = c.args.part in
    let a = c.in-Concat.a in
    let b = c.in-Concat.b in
    inner_part_is c.args.terms.now p (Concat a b) None (c.node.ensures.node ∙ ap Some c.in-Concat.is)
    (joined_across a b c.width-bits.result p c.if-part-bits.false c.if-bits-part.false ∙ ap (λ (n : ℕ). inside_joined a b n p) c.width-bits.ensures.width)

pub returns-in-Sext : goal.returns-in-Sext
returns-in-Sext c =
    let p = c.args.part in
    let w = c.width-top.result in
    let q : Part = record { of = c.in-Sext.of; high = c.min.result; low = c.min-in-Sext.result } in
    let high : c.min.result ≡ min p.high (w - 1) = c.min.ensures in
    let low : c.min-in-Sext.result ≡ min p.low (w - 1) = c.min-in-Sext.ensures in
    inner_part_is c.args.terms.now p (Sext c.in-Sext.of c.in-Sext.width) (Some q) (c.node.ensures.node ∙ ap Some c.in-Sext.is)
    (ap Some (rw (high, low) (ap (λ (n : ℕ). inside_extension c.in-Sext.of n p) c.width-top.ensures.width)))

pub returns-in-Extract : goal.returns-in-Extract
returns-in-Extract c =
    let p = c.args.part in
    inner_part_is c.args.terms.now p (Extract c.in-Extract.of c.in-Extract.high c.in-Extract.low) _ (c.node.ensures.node ∙ ap Some c.in-Extract.is) refl

pub returns-in_default : goal.returns-in_default
returns-in_default c =
    inner_part_is c.args.terms.now c.args.part c.node.result None c.node.ensures.node (not_inner c.args.terms.now c.args.part c.node.result c.in_default.not-Concat c.in_default.not-Sext c.in_default.not-Extract)
