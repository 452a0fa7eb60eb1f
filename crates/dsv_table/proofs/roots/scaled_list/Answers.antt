use Rattle.std.proofs.Common.{◌≡◌, ◌-◌, ◌<◌, length, rules}
use Rattle.std.proofs.Math.IntN.{◌*ℤ◌}
use Rattle.dsv_algebra.specs.Vectors.{vector_of}
use Rattle.dsv_table.specs.RootSize.{parts}
use Rattle.dsv_table.specs.Search.{ArePowers}
use Rattle.dsv_table.proofs.RootSizes.{scaled_more}
use Rattle.dsv_table.proofs.roots.scaled_list.Goals as goal

pub loop-k-preserved : goal.loop-k-preserved
loop-k-preserved c =
    let cs = c.args.coefficients.now in
    let up = c.in_ok-up.up.items in
    let down = c.in_ok-down.down.items in
    let xs = c.loop-k.list.items in
    let k = c.loop-k.k in
    let x = c.in_ok-scaled_coefficient.field-0 in
    let u : ArePowers c.args.p.now (length cs) up = search rules in
    let d : ArePowers parts (length cs) down = search rules in
    let b : k < length cs = search rules in
    let e : x ≡ vector_of cs k *ℤ vector_of up (length cs - 1 - k) *ℤ vector_of down k = search rules in
    let p = c.in_ok-push.ensures.items in
    record {
      places = search rules;
      same = rw p (scaled_more cs up down xs c.args.p.now x k b u d c.loop-k.invariant.places c.loop-k.invariant.same e);
    }
