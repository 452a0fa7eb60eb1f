use Rattle.std.proofs.Common.{◌≡◌, ◌-◌, ◌<◌, ℤ, length, below_more, sym, ap, ◌∙◌, arith, rules}
use Rattle.std.proofs.lemmas.Int.{to_z-of_z}
use mir.Syntax.{w128}
use mir.Val.{SFits}
use Rattle.dsv_algebra.specs.Vectors.{vector_of, matrix_of}
use Rattle.dsv_forms.specs.Padded.{row_of}
use Rattle.dsv_forms.proofs.Places.{any_true, any_false}
use Rattle.dsv_sums.specs.Elimination.{entries_of}
use Rattle.dsv_sums.specs.SumForms.{is_too_great, next_entry}
use Rattle.dsv_sums.proofs.Filled.{row_next}
use Rattle.dsv_sums.proofs.StepLemmas.{too_great, not_too_great}
use Rattle.dsv_sums.proofs.partial_sums.next_row.Goals as goal

pub returns-in_err-next_entry : goal.returns-in_err-next_entry
returns-in_err-next_entry c =
    let d = length c.args.c.now - 1 in
    let v = vector_of c.args.c.now in
    let P = matrix_of c.args.form.now.rows in
    let wide = too_great d v P c.args.i c.loop-j.j (sym c.in_err-next_entry.was ∙ c.next_entry.ensures) in
    rw c.from_residual.ensures (any_true (λ j. is_too_great d v P c.args.i j) d c.loop-j.j (omega arith) wide)

pub loop-j-preserved : goal.loop-j-preserved
loop-j-preserved c =
    let d = length c.args.c.now - 1 in
    let v = vector_of c.args.c.now in
    let P = matrix_of c.args.form.now.rows in
    let f = next_entry d v P c.args.i in
    let j = c.loop-j.j in
    let few = c.requires.poly.few in
    let inside : j < 8 = omega arith in
    let x : ℤ = c.get.result in
    let fits : SFits w128 x = search rules in
    let both = not_too_great d v P c.args.i j c.in_ok-next_entry.field-0 (sym c.in_ok-next_entry.was ∙ c.next_entry.ensures) in
    let own : x ≡ f j = c.get.ensures ∙ both.0 in
    rw (to_z-of_z w128 x fits) (record {
      same = rw (c.loop-j.invariant.same, own) (row_next f j inside);
      small = below_more _ _ c.loop-j.invariant.small both.1;
    })

pub returns : goal.returns
returns c =
    let d = length c.args.c.now - 1 in
    let v = vector_of c.args.c.now in
    let P = matrix_of c.args.form.now.rows in
    let f = next_entry d v P c.args.i in
    let end : c.loop-j.j ≡ d = omega arith in
    (c.loop-j.invariant.same ∙ ap (λ n. row_of (entries_of n f)) end, any_false (λ j. is_too_great d v P c.args.i j) d (λ k h. c.loop-j.invariant.small k (omega arith)))
