use Rattle.std.proofs.Common.{◌≡◌, ◌∙◌, ◌-◌, length, List, ℤ, arith, ap, sym, false}
use Rattle.dsv_algebra.specs.Vectors.{vector_of}
use Rattle.dsv_jury.specs.Jury.{last_leads, verdict_from, jury_of}
use Rattle.dsv_jury.proofs.Verdicts.{verdict_after, length-row_after}
use Rattle.dsv_jury.proofs.recursion.jury.Goals as goal

pub loop-row-init : goal.loop-row-init
loop-row-init c =
    let poly = c.first_row-row.ensures.poly in
    let some = poly.some in
    let few = poly.few in
    record {
      some = some;
      few = omega arith;
      same = ap (λ (xs : List ℤ). verdict_from (length xs - 1) 0 xs) c.first_row-row.ensures.same;
    }

pub loop-row-smaller : goal.loop-row-smaller
loop-row-smaller c =
    let row = c.as_slice-in-loop-row.result.now in
    let same = ap length c.as_slice-in-loop-row.ensures.value in
    let after = rw c.in-Some.is at c.row_after.ensures in
    let long = ap length after.0 ∙ length-row_after (length row - 1) row in
    let more = c.loop-row-test.true in
    let is = c.len.ensures.value in
    let some = c.loop-row.invariant.some in
    omega arith

pub loop-row-preserved : goal.loop-row-preserved
loop-row-preserved c =
    let row = c.as_slice-in-loop-row.result.now in
    let e = c.as_slice-in-loop-row.ensures.value in
    let f = c.as_slice.ensures.value in
    let same = ap length e in
    let after = rw c.in-Some.is at c.row_after.ensures in
    let long = ap length after.0 ∙ length-row_after (length row - 1) row in
    let more = c.loop-row-test.true in
    let is = c.len.ensures.value in
    let few = c.loop-row.invariant.few in
    let apart : last_leads (length row - 1) (vector_of row) ≡ false =
    ap (λ (xs : List ℤ). last_leads (length xs - 1) (vector_of xs)) (e ∙ sym f) ∙ sym c.if-last_leads.ensures in
    record {
      some = omega arith;
      few = omega arith;
      same = verdict_after (length row - 1) (length row - 2) c.loop-row.number row c.in-Some.next.items (jury_of c.args.poly.now) (omega arith) apart after.0 after.1
          (ap (λ (xs : List ℤ). verdict_from (length xs - 1) c.loop-row.number xs) e ∙ c.loop-row.invariant.same);
    }
