use Rattle.std.proofs.Common.{◌≡◌, ◌-◌, ◌≤◌, ◌^◌, Some}
use Rattle.dsv_sums.specs.SumForms.{most_looks, sum_form, offer_from, first_offer}
use Rattle.dsv_sums.proofs.search.first_offer.Given as goal

abbrev pub invariant-loop-k : goal.invariant-loop-k
invariant-loop-k l = record {
  stepped : sum_form l.poly l.steps ≡ Some l.form;
  reached : l.steps ≤ 2 ^ l.k;
  exact : first_offer l.poly l.look ≡ offer_from l.poly l.k (most_looks - l.k);
}
