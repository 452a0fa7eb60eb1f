use Rattle.std.proofs.Common.{◌≡◌, length, length-drop, ◌∙◌, rules, refl, arith, slice_index_or, pos, drop}
use Rattle.std.proofs.lemmas.Int.{to_z-of_z}
use mir.Syntax.{w64}
use mir.Val.{SFits}
use Rattle.dsv_meaning.specs.Equations.{order, feedback}
use Rattle.dsv_meaning.proofs.ChainLemmas.{transposed_more}
use Rattle.dsv_meaning.proofs.chains.transposed_chain.Goals as goal

pub loop-i-preserved : goal.loop-i-preserved
loop-i-preserved c =
    let next : SFits w64 c.line-next.result = search rules in
    let q = c.args.quantised.now in
    let forward : length (drop 1 q.b) ≡ order q = omega (arith, length-drop 1 q.b, c.order-order.ensures.quantised.one_length) in
    let back : length (feedback q) ≡ order q = length-drop 1 q.a in
    record {
      same =
          transposed_more q c.args.signals.x.now c.args.signals.y.now (drop 1 q.b) (feedback q) c.args.old.now c.rest_after.result.now
          c.loop-i.registers.items c.push.new.self.items c.loop-i.exact.items c.loop-i.i
          (slice_index_or (drop 1 q.b) c.loop-i.i (pos 0)) (slice_index_or (feedback q) c.loop-i.i (pos 0))
          (record { value = c.line-next.result; exact = c.line-next.new.exact.items })
          (omega arith) (omega arith) refl refl c.rest_after.ensures (rw c.transposed_line-summands.ensures.value at c.line-next.ensures.value) (simp to_z-of_z at c.push.ensures.items) ∙ c.loop-i.invariant.same;
      count = omega arith;
      room = omega arith;
    }
