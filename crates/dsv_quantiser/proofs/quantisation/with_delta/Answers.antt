use Rattle.std.proofs.Common.{sym, rules}
use Rattle.std.proofs.lemmas.Int.{to_z-of_z}
use mir.Syntax.{w64}
use mir.Val.{SFits}
use Rattle.dsv_quantiser.proofs.Converted.{of_delta}
use Rattle.dsv_quantiser.proofs.quantisation.with_delta.Goals as goal

pub returns-clause-meaning : goal.returns-clause-meaning
returns-clause-meaning c =
    let fits : SFits w64 c.in_ok-word.word = search rules in
    let meant = simp to_z-of_z at c.in_words.ensures.meaning in
    of_delta c.args.controller.now c.args.format c.args.realisation c.in-Some.delta c.in_ok-word.word (record { b = c.in_ok-pair.pair.b.items; a = c.in_ok-pair.pair.a.items }) c.in_words.result
    (sym c.in-Some.ensures) c.in_ok-word.ensures.positive c.in_ok-word.ensures.word c.in_ok-word.ensures.least
    (rw (c.b.ensures.same, c.a.ensures.same) at c.in_ok-pair.ensures.exact)
    (rw (c.as_slice.ensures.value, c.as_slice-2.ensures.value) at meant)
