use Rattle.std.proofs.Common.{◌≡◌, ◌-◌, ◌+◌, ◌<◌, ◌≤◌, length}
use Rattle.dsv_forms.specs.Poly.{most_coefficients}
use Rattle.dsv_jury.specs.Jury.{verdict_from, jury_of}
use Rattle.dsv_jury.proofs.recursion.jury.Given as goal

abbrev pub invariant-loop-row : goal.invariant-loop-row
invariant-loop-row l = record {
  some : 0 < length l.row.items;
  few : l.number + length l.row.items ≤ most_coefficients;
  same : verdict_from (length l.row.items - 1) l.number l.row.items ≡ jury_of l.fn.poly;
}

abbrev pub decreases-loop-row : goal.decreases-loop-row
decreases-loop-row l = length l.row.items
