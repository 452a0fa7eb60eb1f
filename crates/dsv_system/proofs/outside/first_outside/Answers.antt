use Rattle.std.proofs.Common.{get_or, refl, subst, arith, rules}
use Rattle.std.proofs.Math.IntN.{pos}
use Rattle.std.specs.List.{All}
use Rattle.std.proofs.lemmas.Int.{to_z-of_z}
use Rattle.std.proofs.lemmas.List.{take_all}
use Rattle.std.proofs.lemmas.List.Elements.{All-more}
use mir.Syntax.{w128}
use mir.Val.{SFits}
use Rattle.dsv_word.specs.Words.{IsWord}
use Rattle.dsv_system.proofs.outside.first_outside.Goals as goal

pub loop-i-preserved : goal.loop-i-preserved
loop-i-preserved c =
    let v = get_or c.args.exact.now c.loop-i.i (pos 0) in
    let wide : SFits w128 v = search rules in
    let both = rw (to_z-of_z w128 v wide) at (c.if-not-fits.ensures.0 refl) in
    All-more (IsWord c.args.format.now) c.args.exact.now c.loop-i.i (pos 0) (omega arith) c.loop-i.invariant (record { low = both.0; high = both.1 })

pub returns-clause-none : goal.returns-clause-none
returns-clause-none c = subst (All (IsWord c.args.format.now)) (take_all c.loop-i.i c.args.exact.now (omega arith)) c.loop-i.invariant
