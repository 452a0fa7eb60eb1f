use Rattle.std.proofs.Common.{◌≡◌, ◌*◌, ◌^◌, get_or, ◌∙◌, ap, arith, rules}
use Rattle.std.proofs.Math.IntN.{pos, neg_ℤ, ◌*ℤ◌}
use Rattle.std.proofs.lemmas.Int.{to_z-of_z}
use Rattle.std.proofs.lemmas.List.{get_or_read}
use mir.Val.{SFits}
use mir.Syntax.{w128}
use Rattle.dsv_forms.proofs.Passing.{Within, narrow, within_times}
use Rattle.dsv_forms.proofs.Filling.{row_step}
use Rattle.dsv_closed_forms.proofs.root.negative_products.Goals as goal

pub product-requires : goal.product-requires
product-requires c =
    let b = c.index-q-i.result in
    let read : b ≡ get_or c.args.q.now c.loop-i.i (pos 0) = get_or_read c.args.q.now c.loop-i.i b (omega (arith, c.loop-i-test.true)) c.index-q-i.is (pos 0) in
    let small : Within (2 ^ 32) b = rw read (c.requires.small c.loop-i.i) in
    narrow (2 ^ 32 * 2 ^ 32) (c.args.a *ℤ b) (within_times (2 ^ 32) (2 ^ 32) c.args.a b c.requires.small_a small) (omega arith)

pub loop-i-preserved : goal.loop-i-preserved
loop-i-preserved c =
    let a = c.args.a in
    let q = c.args.q.now in
    let i = c.loop-i.i in
    let read : c.index-q-i.result ≡ get_or q i (pos 0) = get_or_read q i c.index-q-i.result (omega (arith, c.loop-i-test.true)) c.index-q-i.is (pos 0) in
    let fits : SFits w128 c.get.result = search rules in
    let value : c.get.result ≡ neg_ℤ (a *ℤ get_or q i (pos 0)) = c.get.ensures ∙ c.negation.ensures ∙ ap neg_ℤ (c.product.ensures ∙ ap (λ b. a *ℤ b) read) in
    rw (to_z-of_z w128 c.get.result fits, value, c.loop-i.invariant) (row_step (λ b. neg_ℤ (a *ℤ b)) q i (pos 0) (omega (arith, c.loop-i-test.true)) c.requires.few)
