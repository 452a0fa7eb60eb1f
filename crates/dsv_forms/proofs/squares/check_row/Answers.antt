use Rattle.std.proofs.Common.{◌≡◌, [], Some, sym, ap, ◌∙◌, arith, rules}
use Rattle.dsv_algebra.specs.Vectors.{matrix_of}
use Rattle.dsv_forms.specs.Refusals.{refusal_of, place_tests}
use Rattle.dsv_forms.specs.Sums.{sides_of, sides_refusal}
use Rattle.dsv_forms.proofs.Places.{from_none, from_some, from_more, refusal-err, refusal-ok}
use Rattle.dsv_forms.proofs.Sides.{place_tests-is}
use Rattle.dsv_forms.proofs.squares.check_row.Goals as goal

pub returns-in_err-check_place : goal.returns-in_err-check_place
returns-in_err-check_place c =
    let s = c.args.squares.now in
    let P = matrix_of c.args.form.now.rows in
    let i = c.args.i in
    let j = c.loop-j.j in
    let e = c.in_err-check_place.field-0.0 in
    let gone : refusal_of c.from_residual.result ≡ Some e = search rules in
    gone ∙ sym (from_some (λ j. place_tests c.args.part c.args.n s (P i j) [] i j) i c.args.form.now.d j e (omega arith) (omega arith) c.loop-j.invariant
    (place_tests-is c.args.part c.args.n s (P i j) i j ∙ ap (λ x. sides_refusal c.args.part i j (sides_of c.args.n s x i j)) (sym c.entry.ensures)
    ∙ ap (sides_refusal c.args.part i j) (sym c.both_sides-sides.ensures) ∙ sym c.check_place.ensures ∙ refusal-err c.check_place.result e c.in_err-check_place.was))

pub loop-j-preserved : goal.loop-j-preserved
loop-j-preserved c =
    let s = c.args.squares.now in
    let P = matrix_of c.args.form.now.rows in
    let i = c.args.i in
    let j = c.loop-j.j in
    from_more (λ j. place_tests c.args.part c.args.n s (P i j) [] i j) i j c.loop-j.invariant
    (place_tests-is c.args.part c.args.n s (P i j) i j ∙ ap (λ x. sides_refusal c.args.part i j (sides_of c.args.n s x i j)) (sym c.entry.ensures)
    ∙ ap (sides_refusal c.args.part i j) (sym c.both_sides-sides.ensures) ∙ sym c.check_place.ensures ∙ refusal-ok c.check_place.result c.in_ok-check_place.field-0 c.in_ok-check_place.was)

pub returns : goal.returns
returns c =
    let P = matrix_of c.args.form.now.rows in
    sym (from_none (λ j. place_tests c.args.part c.args.n c.args.squares.now (P c.args.i j) [] c.args.i j) c.args.i c.args.form.now.d (λ k a b. c.loop-j.invariant k a (omega arith)))
