use Rattle.std.proofs.Common.{◌∙◌, rules, refl, arith, slice_index_or, pos}
use Rattle.std.proofs.lemmas.Int.{to_z-of_z}
use mir.Syntax.{w64}
use mir.Val.{SFits}
use Rattle.dsv_meaning.proofs.ChainLemmas.{delta_more}
use Rattle.dsv_meaning.proofs.chains.delta_chain.Goals as goal

pub loop-word-preserved : goal.loop-word-preserved
loop-word-preserved c =
    let next : SFits w64 c.line-next.result = search rules in
    record {
      same =
          delta_more c.args.quantised.now c.args.old.now c.loop-word.registers.items c.push.new.self.items c.loop-word.exact.items c.loop-word.word-index
          c.loop-word.before.now (slice_index_or c.args.old.now c.loop-word.word-index (pos 0)) (record { value = c.line-next.result; exact = c.line-next.new.exact.items })
          (omega arith) refl (rw c.delta_line.ensures.value at c.line-next.ensures.value) (simp to_z-of_z at c.push.ensures.items) ∙ c.loop-word.invariant.same;
      count = omega arith;
      room = omega arith;
    }
