use Rattle.std.proofs.Common.{arith, refl}
use Rattle.dsv_netlist.specs.Nodes.{at}
use Rattle.dsv_word.specs.Words.{width}
use Rattle.dsv_unroll.specs.Rules.{term_at}
use Rattle.dsv_unroll.specs.SetGoals.{SumTerms, combination_from}
use Rattle.dsv_unroll.proofs.SetSums.{IsSumming, entry_at, sum_step}
use Rattle.dsv_unroll.proofs.sets.combination_term.Goals as goal

pub loop-k-preserved : goal.loop-k-preserved
loop-k-preserved c =
    let l = c.loop-k in
    let i = l.invariant in
    let f = c.args.format.now in
    let cs = c.args.coefficients.now in
    let registers = c.args.registers.now in
    let s : SumTerms = record { terms = l.terms; id = l.sum.id; bound = l.sum.bound } in
    let now : SumTerms = record { terms = c.with_entry.new.terms; id = c.in_ok-sum.sum.id; bound = c.in_ok-sum.sum.bound } in
    let end : SumTerms = combination_from (width f) (record { terms = c.args.terms.now; id = c.args.zero_bit; bound = 0 }) cs registers in
    let before : IsSumming f cs registers l.k s end = record { sound = i.sound; value = i.value; registers_stand = i.registers; room = i.room; same = i.same } in
    let r = entry_at f cs registers l.k s end (omega arith) c.requires.count c.requires.ready.few c.requires.small before in
    let a = sum_step f cs registers l.k s now end (at cs l.k) (term_at registers l.k) (omega (arith, c.requires.count)) (omega arith) r refl refl before c.in_ok-sum.ensures in
    record { sound = a.sound; value = a.value; registers = a.registers_stand; room = a.room; same = a.same }
