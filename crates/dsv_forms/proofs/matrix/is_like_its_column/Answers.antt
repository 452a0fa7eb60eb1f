use Rattle.std.proofs.Common.{sym, arith}
use Rattle.std.specs.Ordering.{int_eq}
use Rattle.dsv_algebra.specs.Vectors.{matrix_of}
use Rattle.dsv_forms.proofs.Places.{all_true, all_false}
use Rattle.dsv_forms.proofs.matrix.is_like_its_column.Goals as goal

pub returns-then-not-is_mirrored : goal.returns-then-not-is_mirrored
returns-then-not-is_mirrored c =
    let R = matrix_of c.args.rows.now in
    sym (all_false (λ j. int_eq (R c.args.i j) (R j c.args.i)) c.args.d c.loop-j.j (omega arith) (sym c.if-not-is_mirrored.ensures))

pub returns : goal.returns
returns c =
    let R = matrix_of c.args.rows.now in
    sym (all_true (λ j. int_eq (R c.args.i j) (R j c.args.i)) c.args.d (λ k h. c.loop-j.invariant k (omega arith)))
