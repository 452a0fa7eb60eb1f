use Rattle.std.proofs.Common.{◌≡◌, ℕ, ◌^◌, SFits, sym, ap, ◌∙◌, arith, rules}
use Rattle.std.specs.Int.{w64, int_rem_euclid}
use Rattle.std.proofs.Math.IntN.{pos, ◌*ℤ◌}
use Rattle.dsv_algebra.specs.Floor.{floor_of}
use Rattle.dsv_word.proofs.Powers.{power_small}
use Rattle.dsv_netlist.specs.Nodes.{at}
use Rattle.dsv_netlist.proofs.Scaling.{power_positive}
use Rattle.dsv_linear.specs.declared.range.Range.{Range}
use Rattle.dsv_linear.specs.Forms.{range, range_at}
use Rattle.dsv_linear.specs.SmallNumbers.{IsSmall}
use Rattle.dsv_linear.proofs.Passes.{other_default}
use Rattle.dsv_linear.proofs.SmallSums.{entries_more, product_size, sum_room, sum_more, sum_same_on, times_same}
use Rattle.dsv_linear.proofs.Divisions.{low_term, high_term, floor_none, rest_none, division_made}
use Rattle.dsv_linear.proofs.division.small_division.Goals as goal

pub loop-j-preserved : goal.loop-j-preserved
loop-j-preserved c =
    let d = 2 ^ c.args.bits in
    let ranges = c.args.ranges.now in
    let list = c.args.list.now in
    let j = c.loop-j.j in
    let parts = c.in-Some-Some.parts in
    let ends = c.in-Some-Some.range in
    let value : c.number_at-v.result ≡ at list j = c.number_at-v.ensures in
    let here : c.index-ranges-j.result ≡ range_at ranges j = c.index-ranges-j.is ∙ other_default ranges j c.index-ranges-j.result (range (pos 0) (pos 0)) (omega arith) in
    let quotient : parts.quotient ≡ floor_of (at list j) d = c.in-Some-Some.ensures.0 ∙ ap (λ z. floor_of z d) value in
    let rest : int_rem_euclid (at list j) (pos d) ≡ parts.rest = sym (c.in-Some-Some.ensures.1.0 ∙ ap (λ z. int_rem_euclid z (pos d)) value) in
    let low : (range_at ranges j).low ≡ ends.low = sym (c.in-Some-Some.ensures'.0.0 ∙ ap (λ (r : Range). r.low) here) in
    let high : (range_at ranges j).high ≡ ends.high = sym (c.in-Some-Some.ensures'.1.0 ∙ ap (λ (r : Range). r.high) here) in
    let small : IsSmall parts.rest = c.in-Some-Some.ensures.1.1 in
    let fits : SFits w64 parts.quotient = search rules in (
      entries_more (λ (i : ℕ). floor_of (at list i) d) j c.loop-j.quotients c.push-in-loop-j.new.self parts.quotient c.loop-j.invariant.0 quotient fits (search rules),
      (
        sum_more (low_term ranges d list) j c.loop-j.low c.with_product-low.result parts.rest ends.low c.loop-j.invariant.1.0 (times_same rest low) (product_size parts.rest ends.low small c.in-Some-Some.ensures'.0.1) (search rules),
        sum_more (high_term ranges d list) j c.loop-j.high c.with_product-high.result parts.rest ends.high c.loop-j.invariant.1.1 (times_same rest high) (product_size parts.rest ends.high small c.in-Some-Some.ensures'.1.1) (search rules),
      ),
    )

pub returns : goal.returns
returns c =
    rw c.from_short.ensures (division_made c.args.ranges.now (2 ^ c.args.bits) c.args.list.now c.loop-j.quotients c.loop-j.j c.loop-j.low c.loop-j.high (power_positive c.args.bits) (power_small c.args.bits c.requires)
    (omega arith) (omega arith) c.loop-j.invariant.0 c.loop-j.invariant.1.0 c.loop-j.invariant.1.1)

pub loop-j-preserved-then-get-eq0 : goal.loop-j-preserved-then-get-eq0
loop-j-preserved-then-get-eq0 c =
    let d = 2 ^ c.args.bits in
    let ranges = c.args.ranges.now in
    let list = c.args.list.now in
    let j = c.loop-j.j in
    let zero : at list j ≡ pos 0 = sym c.number_at-v.ensures ∙ search rules in
    let fits : SFits w64 (pos 0) = record { sfits = omega arith } in (
      entries_more (λ (i : ℕ). floor_of (at list i) d) j c.loop-j.quotients c.push.new.self (pos 0) c.loop-j.invariant.0 (sym (ap (λ z. floor_of z d) zero ∙ floor_none d)) fits (search rules),
      (
        sum_same_on (low_term ranges d list) j c.loop-j.low c.loop-j.invariant.1.0 (ap (λ z. int_rem_euclid z (pos d) *ℤ (range_at ranges j).low) zero ∙ rest_none d (range_at ranges j).low),
        sum_same_on (high_term ranges d list) j c.loop-j.high c.loop-j.invariant.1.1 (ap (λ z. int_rem_euclid z (pos d) *ℤ (range_at ranges j).high) zero ∙ rest_none d (range_at ranges j).high),
      ),
    )

pub with_product-low-requires-clause-room : goal.with_product-low-requires-clause-room
with_product-low-requires-clause-room c =
    sum_room (low_term c.args.ranges.now (2 ^ c.args.bits) c.args.list.now) c.loop-j.j c.loop-j.low (omega arith) c.loop-j.invariant.1.0

pub with_product-low-requires-clause-product : goal.with_product-low-requires-clause-product
with_product-low-requires-clause-product c = product_size c.in-Some-Some.parts.rest c.in-Some-Some.range.low c.in-Some-Some.ensures.1.1 c.in-Some-Some.ensures'.0.1

pub with_product-high-requires-clause-room : goal.with_product-high-requires-clause-room
with_product-high-requires-clause-room c =
    sum_room (high_term c.args.ranges.now (2 ^ c.args.bits) c.args.list.now) c.loop-j.j c.loop-j.high (omega arith) c.loop-j.invariant.1.1

pub with_product-high-requires-clause-product : goal.with_product-high-requires-clause-product
with_product-high-requires-clause-product c = product_size c.in-Some-Some.parts.rest c.in-Some-Some.range.high c.in-Some-Some.ensures.1.1 c.in-Some-Some.ensures'.1.1
