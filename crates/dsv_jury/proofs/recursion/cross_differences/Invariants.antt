use Rattle.std.proofs.Common.{◌≡◌, map, length}
use Rattle.dsv_algebra.specs.Vectors.{vector_of}
use Rattle.dsv_forms.specs.Refusals.{places}
use Rattle.dsv_jury.specs.Jury.{cross_difference}
use Rattle.dsv_jury.proofs.recursion.cross_differences.Given as goal

abbrev pub invariant-loop-i : goal.invariant-loop-i
invariant-loop-i l = record {
  length : length l.differences.items ≡ l.i;
  same : l.differences.items ≡ map (cross_difference l.last (vector_of l.row)) (places l.i);
}
