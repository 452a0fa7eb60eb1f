use Rattle.std.proofs.Common.{length, ap, arith, rules}
use Rattle.dsv_cascade.proofs.CascadeNets.{IsSectionNet, first_series, later_series, all_series}
use Rattle.dsv_cascade.proofs.netlist.cascade_net.Goals as goal

pub series_net-requires-clause-both : goal.series_net-requires-clause-both
series_net-requires-clause-both c =
    let first = c.first_section-first in
    let section : IsSectionNet first.result.now c.in_ok-section.section = search rules in
    (first_series c.args.cascade.now first.result.now c.format.result c.in_ok-wire.wire c.in_ok-section.section first.ensures.cascade first.ensures.same c.format.ensures.same c.in_ok-wire.ensures section).netlist

pub loop-quantised-init : goal.loop-quantised-init
loop-quantised-init c =
    let first = c.first_section-first in
    let section : IsSectionNet first.result.now c.in_ok-section.section = search rules in
    rw c.in_ok-net.ensures
    (first_series c.args.cascade.now first.result.now c.format.result c.in_ok-wire.wire c.in_ok-section.section first.ensures.cascade first.ensures.same c.format.ensures.same c.in_ok-wire.ensures section)

pub series_net-requires-in-loop-quantised-clause-both : goal.series_net-requires-in-loop-quantised-clause-both
series_net-requires-in-loop-quantised-clause-both c =
    let later = c.later_sections-quantised-items in
    let section : IsSectionNet c.quantised-item.result c.in_ok-section-2.section = search rules in
    (later_series c.args.cascade.now later.result.now c.loop-quantised.quantised-index c.quantised-item.result c.loop-quantised.net c.in_ok-section-2.section later.ensures.cascade later.ensures.same c.loop-quantised-test.true c.quantised-item.is c.loop-quantised.invariant section).netlist

pub loop-quantised-preserved : goal.loop-quantised-preserved
loop-quantised-preserved c =
    let later = c.later_sections-quantised-items in
    let section : IsSectionNet c.quantised-item.result c.in_ok-section-2.section = search rules in
    rw c.in_ok-net-2.ensures
    (later_series c.args.cascade.now later.result.now c.loop-quantised.quantised-index c.quantised-item.result c.loop-quantised.net c.in_ok-section-2.section later.ensures.cascade later.ensures.same c.loop-quantised-test.true c.quantised-item.is c.loop-quantised.invariant section)

pub returns-clause-net : goal.returns-clause-net
returns-clause-net c =
    (all_series c.args.cascade.now c.loop-quantised.quantised-index c.loop-quantised.net (omega (arith, ap length c.later_sections-quantised-items.ensures.same)) c.loop-quantised.invariant).made

pub returns-clause-runs : goal.returns-clause-runs
returns-clause-runs c =
    (all_series c.args.cascade.now c.loop-quantised.quantised-index c.loop-quantised.net (omega (arith, ap length c.later_sections-quantised-items.ensures.same)) c.loop-quantised.invariant).runs

pub returns-clause-products : goal.returns-clause-products
returns-clause-products c =
    (all_series c.args.cascade.now c.loop-quantised.quantised-index c.loop-quantised.net (omega (arith, ap length c.later_sections-quantised-items.ensures.same)) c.loop-quantised.invariant).products
