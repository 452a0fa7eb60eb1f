use Rattle.std.proofs.Common.{ℕ, ◌^◌, ◌<◌, subst, sym, arith}
use Rattle.dsv_unroll.proofs.RoundTerms.{shift_width-narrow, shift_width-point, addend_room}
use Rattle.dsv_unroll.proofs.rules.shifted_term.Goals as goal

pub widened_term-requires-clause-narrow : goal.widened_term-requires-clause-narrow
widened_term-requires-clause-narrow c =
    let a = c.args in
    let n = shift_width-narrow a.terms.now a.of a.bound a.addend a.frac_bits c.requires.value c.requires.small c.requires.addend c.requires.point in
    rw c.shift_width-bits.ensures n

pub with_addend-requires-clause-width : goal.with_addend-requires-clause-width
with_addend-requires-clause-width c =
    let a = c.args in
    let n = shift_width-narrow a.terms.now a.of a.bound a.addend a.frac_bits c.requires.value c.requires.small c.requires.addend c.requires.point in
    let p = shift_width-point a.terms.now a.of a.bound a.addend a.frac_bits in
    record { some = omega (arith, c.shift_width-bits.ensures, p); narrow = omega (arith, c.shift_width-bits.ensures, n) }

pub with_addend-requires-clause-small : goal.with_addend-requires-clause-small
with_addend-requires-clause-small c =
    let a = c.args in
    subst (λ (k : ℕ). a.addend < 2 ^ k) (sym c.shift_width-bits.ensures) (addend_room a.terms.now a.of a.bound a.addend a.frac_bits c.requires.addend)
