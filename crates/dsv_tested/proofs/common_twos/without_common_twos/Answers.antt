use Rattle.std.proofs.Common.{◌≡◌, true, false, map, sym, ap, ◌∙◌, arith}
use Rattle.std.proofs.lemmas.List.{length-map}
use Rattle.dsv_tested.specs.Tested.{are_even}
use Rattle.dsv_tested.proofs.Evens.{half}
use Rattle.dsv_tested.proofs.CommonTwos.{halves_same, halves_lead, odd_same}
use Rattle.dsv_tested.proofs.common_twos.without_common_twos.Goals as goal

pub halving-preserved : goal.halving-preserved
halving-preserved c =
    let xs = c.halving.reduced.items in
    let even : are_even xs ≡ true = cc in
    let made : c.halves-reduced.result.items ≡ map half xs = c.halves-reduced.ensures ∙ ap (map half) c.as_slice-in-halving.ensures.value in
    let size = halves_lead xs even in
    rw made (record {
      few = omega (arith, length-map xs half);
      lead = omega arith;
      same = halves_same xs c.halving.invariant.lead even ∙ c.halving.invariant.same;
    })

pub returns-clause-reduced : goal.returns-clause-reduced
returns-clause-reduced c =
    let odd : are_even c.halving.reduced.items ≡ false = cc in
    sym (odd_same c.halving.reduced.items odd) ∙ c.halving.invariant.same
