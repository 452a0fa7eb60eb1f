use Rattle.std.proofs.Common.{◌≡◌, ◌<◌, ◌≤◌, length}
use Rattle.dsv_forms.specs.Poly.{most_coefficients}
use Rattle.dsv_tested.specs.Lead.{lead_size}
use Rattle.dsv_tested.specs.Tested.{without_common_twos}
use Rattle.dsv_tested.proofs.common_twos.without_common_twos.Given as goal

abbrev pub invariant-halving : goal.invariant-halving
invariant-halving l = record {
  few : length l.reduced.items ≤ most_coefficients;
  lead : 0 < lead_size l.reduced.items;
  same : without_common_twos l.reduced.items ≡ without_common_twos l.list;
}

abbrev pub decreases-halving : goal.decreases-halving
decreases-halving l = lead_size l.reduced.items
