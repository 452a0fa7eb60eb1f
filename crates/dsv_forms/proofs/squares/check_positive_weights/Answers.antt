use Rattle.std.proofs.Common.{sym, arith}
use Rattle.dsv_forms.specs.declared.refusal.FormRefusal.TheVariants as refusal
use Rattle.dsv_forms.specs.Refusals.{bad_weight}
use Rattle.dsv_forms.proofs.Places.{tests_none, tests_some}
use Rattle.dsv_forms.proofs.squares.check_positive_weights.Goals as goal

pub returns-then-is_bad_weight : goal.returns-then-is_bad_weight
returns-then-is_bad_weight c =
    sym (tests_some (bad_weight c.args.squares.now) (refusal.Weight c.args.part) c.args.d c.loop-k.k (omega arith) c.loop-k.invariant (sym c.if-is_bad_weight.ensures))

pub returns : goal.returns
returns c = sym (tests_none (bad_weight c.args.squares.now) (refusal.Weight c.args.part) c.args.d (λ k h. c.loop-k.invariant k (omega arith)))
