use Rattle.std.proofs.Common.{◌≡◌, ◌+◌, set, sym, subst, refl, arith}
use Rattle.std.proofs.Math.IntN.{◌+ℤ◌, ◌*ℤ◌}
use Rattle.dsv_algebra.specs.Vectors.{vector_of}
use Rattle.dsv_closed_forms.proofs.Division.{IsDivision, division_step, division_quotient}
use Rattle.dsv_closed_forms.proofs.root.division_by.Goals as goal

pub loop-i-preserved : goal.loop-i-preserved
loop-i-preserved c =
    let t = c.args.t in
    let cs = c.args.c.now in
    let i = c.loop-i.i in
    let carried : c.sum-carry.result ≡ vector_of cs (i + 1) +ℤ t *ℤ c.loop-i.carry = rw (c.sum-carry.ensures, c.coefficient.ensures, c.product.ensures) refl in
    subst (λ carry. IsDivision t cs (i + 1) carry (set c.loop-i.quotient i c.loop-i.carry)) (sym carried)
    (division_step t c.loop-i.carry cs c.loop-i.quotient i c.loop-i.invariant (omega (arith, c.loop-i-test.true)) c.requires.few c.requires.unit (c.requires.small (i + 1)))

pub returns-clause-quotient : goal.returns-clause-quotient
returns-clause-quotient c =
    division_quotient c.args.t c.loop-i.carry c.args.c.now c.loop-i.quotient c.loop-i.i c.loop-i.invariant (omega (arith, c.loop-i-test.false))
