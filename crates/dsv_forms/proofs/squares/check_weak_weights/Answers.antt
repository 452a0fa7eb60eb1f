use Rattle.std.proofs.Common.{sym, arith}
use Rattle.dsv_forms.specs.declared.refusal.FormRefusal.TheVariants as refusal
use Rattle.dsv_forms.specs.Refusals.{negative_weight}
use Rattle.dsv_forms.proofs.Places.{tests_none, tests_some}
use Rattle.dsv_forms.proofs.squares.check_weak_weights.Goals as goal

pub returns-then-is_negative_weight : goal.returns-then-is_negative_weight
returns-then-is_negative_weight c =
    let s = c.args.squares.now in
    sym (tests_some (negative_weight s) (refusal.Weight c.args.part) s.count c.loop-k.k (omega arith) c.loop-k.invariant (sym c.if-is_negative_weight.ensures))

pub returns : goal.returns
returns c =
    let s = c.args.squares.now in
    sym (tests_none (negative_weight s) (refusal.Weight c.args.part) s.count (λ k h. c.loop-k.invariant k (omega arith)))
