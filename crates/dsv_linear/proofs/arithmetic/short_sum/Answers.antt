use Rattle.std.proofs.Common.{◌≡◌, refl, ◌∙◌, SFits, to_z, of_z, rules}
use Rattle.std.specs.Prelude.{◌+ℤ◌}
use Rattle.std.specs.Int.{w64}
use Rattle.std.proofs.lemmas.Int.{to_z-of_z}
use Rattle.dsv_netlist.specs.Nodes.{at}
use Rattle.dsv_linear.proofs.SmallSums.{entries_more}
use Rattle.dsv_linear.proofs.arithmetic.short_sum.Goals as goal

pub loop-j-preserved : goal.loop-j-preserved
loop-j-preserved c =
    let j = c.loop-j.j in
    let a = c.number_at.result in
    let b = c.number_at-in-loop-j.result in
    let entry = c.in-Some.entry in
    let first : SFits w64 a = search rules in
    let second : SFits w64 b = search rules in
    let left : to_z w64 (of_z w64 a) ≡ at c.args.left.now j = to_z-of_z w64 a first ∙ c.number_at.ensures in
    let right : to_z w64 (of_z w64 b) ≡ at c.args.right.now j = to_z-of_z w64 b second ∙ c.number_at-in-loop-j.ensures in
    let made : entry ≡ at c.args.left.now j +ℤ at c.args.right.now j = c.in-Some.ensures.1 ∙ rw (left, right) refl in
    let fits : SFits w64 entry = rw c.in-Some.ensures.1 c.in-Some.ensures.0 in
    entries_more (λ i. at c.args.left.now i +ℤ at c.args.right.now i) j c.loop-j.list c.push.new.self entry c.loop-j.invariant made fits (search rules)
