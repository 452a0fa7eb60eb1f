use Rattle.std.proofs.Common.{below_more, sym, arith}
use Rattle.std.specs.List.{list_all}
use Rattle.std.specs.Ordering.{int_eq}
use Rattle.dsv_algebra.specs.Vectors.{matrix_of}
use Rattle.dsv_forms.specs.Refusals.{places}
use Rattle.dsv_forms.proofs.Places.{all_true, all_false}
use Rattle.dsv_forms.proofs.matrix.is_symmetric.Goals as goal

pub returns-then-not-is_like_its_column : goal.returns-then-not-is_like_its_column
returns-then-not-is_like_its_column c =
    let R = matrix_of c.args.rows.now in
    sym (all_false (λ i. list_all (λ j. int_eq (R i j) (R j i)) (places c.args.d)) c.args.d c.loop-i.i (omega arith) (sym c.if-not-is_like_its_column.ensures))

pub loop-i-preserved : goal.loop-i-preserved
loop-i-preserved c = below_more _ _ c.loop-i.invariant (sym c.if-not-is_like_its_column.ensures)

pub returns : goal.returns
returns c =
    let R = matrix_of c.args.rows.now in
    sym (all_true (λ i. list_all (λ j. int_eq (R i j) (R j i)) (places c.args.d)) c.args.d (λ k h. c.loop-i.invariant k (omega arith)))
