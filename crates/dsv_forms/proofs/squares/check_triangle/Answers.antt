use Rattle.std.proofs.Common.{sym, arith}
use Rattle.dsv_forms.specs.declared.refusal.FormRefusal.TheVariants as refusal
use Rattle.dsv_forms.specs.Refusals.{bad_row}
use Rattle.dsv_forms.proofs.Places.{tests_none, tests_some}
use Rattle.dsv_forms.proofs.squares.check_triangle.Goals as goal

pub returns-then-is_bad_row : goal.returns-then-is_bad_row
returns-then-is_bad_row c =
    sym (tests_some (bad_row c.args.squares.now) (refusal.Triangle c.args.part) c.args.d c.loop-k.k (omega arith) c.loop-k.invariant (sym c.if-is_bad_row.ensures))

pub returns : goal.returns
returns c = sym (tests_none (bad_row c.args.squares.now) (refusal.Triangle c.args.part) c.args.d (λ k h. c.loop-k.invariant k (omega arith)))
