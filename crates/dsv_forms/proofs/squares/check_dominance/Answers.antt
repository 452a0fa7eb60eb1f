use Rattle.std.proofs.Common.{sym, arith}
use Rattle.dsv_forms.specs.declared.refusal.FormRefusal.TheVariants as refusal
use Rattle.dsv_forms.specs.Refusals.{not_dominant}
use Rattle.dsv_forms.proofs.Places.{tests_none, tests_some, not_true}
use Rattle.dsv_forms.proofs.squares.check_dominance.Goals as goal

pub returns-then-not-is_dominant_row : goal.returns-then-not-is_dominant_row
returns-then-not-is_dominant_row c =
    let s = c.args.squares.now in
    sym (tests_some (not_dominant c.args.d s) (refusal.Dominance c.args.part) c.args.d c.loop-i.i (omega arith) c.loop-i.invariant
    (not_true (not_dominant c.args.d s c.loop-i.i) c.if-not-is_dominant_row.ensures))

pub returns : goal.returns
returns c = sym (tests_none (not_dominant c.args.d c.args.squares.now) (refusal.Dominance c.args.part) c.args.d (λ k h. c.loop-i.invariant k (omega arith)))
