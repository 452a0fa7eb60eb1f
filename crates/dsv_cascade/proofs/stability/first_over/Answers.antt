use Rattle.std.proofs.Common.{◌≤◌, rules, subst}
use Rattle.std.proofs.Math.IntN.{pos}
use Rattle.std.specs.Int.RustNames.{unsigned_abs}
use Rattle.std.specs.List.{All}
use Rattle.std.proofs.lemmas.List.{take_all}
use Rattle.std.proofs.lemmas.List.Elements.{All-more}
use Rattle.dsv_closed_forms.specs.ClosedForm.{second_limit}
use Rattle.dsv_cascade.proofs.stability.first_over.Goals as goal

pub loop-i-preserved : goal.loop-i-preserved
loop-i-preserved c = All-more (λ d. unsigned_abs d ≤ second_limit) c.args.c.now c.loop-i.i (pos 0) c.loop-i-test.true c.loop-i.invariant (search rules)

pub unreachable-requires : goal.unreachable-requires
unreachable-requires c = c.requires.over (subst (All (λ d. unsigned_abs d ≤ second_limit)) (take_all c.loop-i.i c.args.c.now c.loop-i-test.false) c.loop-i.invariant)
