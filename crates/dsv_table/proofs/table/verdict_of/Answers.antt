use Rattle.std.proofs.Common.{◌<◌, length, arith, rules}
use Rattle.dsv_table.specs.Table.{verdict_of}
use Rattle.dsv_table.specs.Rows.{AreDifferences, AreShorter}
use Rattle.dsv_table.proofs.Rows.{IsNext, read_differences, passed, read_positive, shorter_is_next}
use Rattle.dsv_table.proofs.table.verdict_of.Goals as goal

pub loop-number-init : goal.loop-number-init
loop-number-init c =
    let cs = c.args.coefficients.now in
    let row = c.in_ok-row.row.items in
    let d : AreDifferences cs row = search rules in
    let some : 0 < length cs = search rules in
    record {
      positive = search rules;
      places = d.places;
      reads = read_differences cs row some d;
    }

pub loop-number-preserved : goal.loop-number-preserved
loop-number-preserved c =
    let row = c.loop-number.row.items in
    let differences = c.in_ok-differences.differences.items in
    let next = c.in_ok-next.next.items in
    let d : AreDifferences row differences = search rules in
    let s : AreShorter differences next = search rules in
    let n : IsNext row next = shorter_is_next row differences next d s in
    record {
      positive = passed row c.swap_remove-divisor.result (search rules) c.swap_remove-divisor.ensures.value (search rules);
      places = omega (arith, n.places, c.loop-number.invariant.places);
      reads = read_positive c.loop-number.number row next (verdict_of c.args.coefficients.now) n (search rules) c.loop-number.invariant.reads;
    }
