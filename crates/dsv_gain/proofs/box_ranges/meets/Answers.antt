use Rattle.std.proofs.Common.{◌≡◌, [], ◌∷◌, ◌++◌, arith, inl, inr, ◌∙◌, refl}
use Rattle.std.specs.Prelude.{pos}
use Rattle.dsv_linear.specs.Forms.{range, range_at}
use Rattle.dsv_gain.specs.Narrowing.{meet}
use Rattle.dsv_network.proofs.Loops.{pairs_more, pairs_all}
use Rattle.dsv_gain.proofs.box_ranges.meets.Goals as goal

pub loop-i-preserved : goal.loop-i-preserved
loop-i-preserved c =
    let d = range (pos 0) (pos 0) in
    let pushed : c.push.new.self ≡ c.loop-i.list ++ c.meet.result ∷ [] = grind arith in
    let made : c.meet.result ≡ meet (range_at c.args.a.now c.loop-i.i) (range_at c.args.b.now c.loop-i.i) = c.meet.ensures ∙ rw (c.range_at.ensures, c.range_at-in-loop-i.ensures) refl in
    pairs_more meet c.args.a.now c.args.b.now c.loop-i.list c.push.new.self c.loop-i.i d c.meet.result (omega (arith, c.shorter_length-count.ensures.left)) (omega (arith, c.shorter_length-count.ensures.right))
    c.loop-i.invariant made pushed

pub returns : goal.returns
returns c =
    c.loop-i.invariant ∙ pairs_all meet c.args.a.now c.args.b.now c.loop-i.i (elim c.shorter_length-count.ensures.one [
      | inl e ↦ inl (omega arith)
      | inr e ↦ inr (omega arith)
    ])
