use Rattle.std.proofs.Common.{sym, arith}
use Rattle.dsv_algebra.specs.Vectors.{matrix_of}
use Rattle.dsv_sums.proofs.Leftovers.{greatest_next}
use Rattle.dsv_sums.proofs.elimination.greatest_diagonal.Goals as goal

pub loop-i-preserved : goal.loop-i-preserved
loop-i-preserved c =
    let T = matrix_of c.args.form.now.rows in
    let some = c.loop-i.invariant.some in
    record {
      some = omega arith;
      same = rw (c.greater_of-greatest.ensures, c.loop-i.invariant.same, c.entry.ensures) (sym (greatest_next T c.loop-i.i some));
    }
