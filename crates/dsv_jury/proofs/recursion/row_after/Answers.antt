use Rattle.std.proofs.Common.{◌∙◌, ◌-◌, pos, length, slice_index_or, arith, ap, sym, refl}
use Rattle.dsv_jury.specs.CommonFactor.{common_factor}
use Rattle.dsv_jury.proofs.Verdicts.{differences_have_factor, wide_row}
use Rattle.dsv_jury.proofs.recursion.row_after.Goals as goal

pub narrow_quotient-requires : goal.narrow_quotient-requires
narrow_quotient-requires c =
    let e = c.as_slice.ensures.value in
    let f = c.as_slice-number-items.ensures.value in
    let long = ap length e in
    let same = ap length f in
    let test = c.loop-number-test.true in
    rw c.common_factor-factor.ensures
    (differences_have_factor (length c.args.row.now - 1) c.args.row.now c.as_slice.result.now c.loop-number.number-index c.requires.apart (e ∙ c.cross_differences-differences.ensures) (omega arith))

pub returns-in_err-narrow_quotient : goal.returns-in_err-narrow_quotient
returns-in_err-narrow_quotient c =
    let e = c.as_slice.ensures.value in
    let f = c.as_slice-number-items.ensures.value in
    let wide = rw c.in_err-narrow_quotient.was at c.narrow_quotient.ensures in
    let xs = c.as_slice-number-items.result.now in
    let i = c.loop-number.number-index in
    let factor = c.common_factor-factor.ensures ∙ ap common_factor (e ∙ sym f) in
    rw c.from_residual.ensures
    (wide_row (length c.args.row.now - 1) c.args.row.now xs c.common_factor-factor.result i (slice_index_or xs i (pos 0))
    (f ∙ c.cross_differences-differences.ensures) factor c.loop-number-test.true refl wide)
