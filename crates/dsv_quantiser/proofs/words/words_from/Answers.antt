use Rattle.std.proofs.Common.{◌∙◌, rules, arith}
use Rattle.std.proofs.lemmas.Int.{to_z-of_z}
use mir.Syntax.{w64}
use mir.Val.{SFits}
use Rattle.dsv_quantiser.proofs.Listing.{words_step, words_more}
use Rattle.dsv_quantiser.proofs.words.words_from.Goals as goal

pub loop-fraction-preserved : goal.loop-fraction-preserved
loop-fraction-preserved c = record {
  places = omega arith;
  words =
      let fits : SFits w64 c.in_ok-word.word = search rules in
      let pushed = simp to_z-of_z at c.push.ensures.items in
      rw pushed
      (words_more c.args.format c.args.fractions.now c.loop-fraction.fraction-index c.args.prefix.items c.loop-fraction.out.items c.fraction-item.result c.in_ok-word.word
      (search rules) c.fraction-item.is c.loop-fraction.invariant.words c.in_ok-word.ensures.meaning);
  same =
      let fits : SFits w64 c.in_ok-word.word = search rules in
      let pushed = simp to_z-of_z at c.push.ensures.items in
      rw pushed
      (words_step c.args.format c.args.list c.args.fractions.now c.loop-fraction.fraction-index c.len.result c.fraction-item.result c.loop-fraction.out.items c.in_ok-word.word c.word_at.result
      (search rules) c.fraction-item.is c.len.ensures.value c.word_at.ensures.value c.in_ok-word.was ∙ c.loop-fraction.invariant.same);
}
