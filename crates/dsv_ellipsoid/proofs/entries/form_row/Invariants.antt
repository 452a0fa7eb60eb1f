use Rattle.std.proofs.Common.{◌≡◌, ℕ, ◌-◌, ◌<◌, ◌≤◌, length, pos, slice_index_or, Some}
use Rattle.dsv_algebra.specs.Vectors.{vector_of}
use Rattle.dsv_ellipsoid.specs.Sums.{sum_of}
use Rattle.dsv_ellipsoid.proofs.entries.form_row.Given as goal

abbrev pub invariant-loop-j : goal.invariant-loop-j
invariant-loop-j l = record {
  size : length l.row ≡ 8;
  entries : (k : ℕ) → k < l.j → sum_of l.kind (length l.c - 1) (vector_of l.c) l.offer l.i k ≡ Some (slice_index_or l.row k (pos 0));
  after : (k : ℕ) → l.j ≤ k → slice_index_or l.row k (pos 0) ≡ pos 0;
}
