use Rattle.std.proofs.Common.{◌∙◌, List, ap}
use Rattle.std.proofs.Math.IntN.{ℤ}
use Rattle.dsv_word.specs.Words.{width}
use Rattle.dsv_unroll.specs.SetGoals.{SumTerms, combination_from}
use Rattle.dsv_unroll.proofs.SetTerms.{summed}
use Rattle.dsv_unroll.proofs.sets.inequality_term.Goals as goal

pub at_most_term-requires-clause-sound : goal.at_most_term-requires-clause-sound
at_most_term-requires-clause-sound c =
    let registers = c.args.registers.now in
    let s : SumTerms = record { terms = c.combination_term.new.terms; id = c.in_ok-sum.sum.id; bound = c.in_ok-sum.sum.bound } in
    let first : SumTerms = record { terms = c.args.terms.now; id = c.args.zero_bit; bound = 0 } in
    let e = c.in_ok-sum.ensures ∙ ap (λ (cs : List ℤ). combination_from (width c.args.format.now) first cs registers) c.as_slice-coefficients.ensures.value in
    (summed c.args.format.now c.args.terms.now c.args.zero_bit registers c.args.inequality.now s c.requires.ready c.requires.fit e).sound

pub at_most_term-requires-clause-value : goal.at_most_term-requires-clause-value
at_most_term-requires-clause-value c =
    let registers = c.args.registers.now in
    let s : SumTerms = record { terms = c.combination_term.new.terms; id = c.in_ok-sum.sum.id; bound = c.in_ok-sum.sum.bound } in
    let first : SumTerms = record { terms = c.args.terms.now; id = c.args.zero_bit; bound = 0 } in
    let e = c.in_ok-sum.ensures ∙ ap (λ (cs : List ℤ). combination_from (width c.args.format.now) first cs registers) c.as_slice-coefficients.ensures.value in
    (summed c.args.format.now c.args.terms.now c.args.zero_bit registers c.args.inequality.now s c.requires.ready c.requires.fit e).value
