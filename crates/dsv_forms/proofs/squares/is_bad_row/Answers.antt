use Rattle.std.proofs.Common.{◌||◌, not, pos, sym, ap, ◌∙◌, arith}
use Rattle.std.specs.Ordering.{int_eq}
use Rattle.dsv_forms.specs.Refusals.{rows_of}
use Rattle.dsv_forms.proofs.Places.{any_true, any_false}
use Rattle.dsv_forms.proofs.squares.is_bad_row.Goals as goal

pub returns-then-not-is_zero : goal.returns-then-not-is_zero
returns-then-not-is_zero c =
    let s = c.args.squares.now in
    let k = c.args.k in
    sym (ap (λ b. b || int_eq (rows_of s k k) (pos 0))
    (any_true (λ j. not (int_eq (rows_of s k j) (pos 0))) k c.loop-j.j (omega arith) (sym (ap not c.if-not-is_zero.ensures))))

pub returns : goal.returns
returns c =
    let s = c.args.squares.now in
    let k = c.args.k in
    c.is_zero-2.ensures ∙ sym (ap (λ b. b || int_eq (rows_of s k k) (pos 0)) (any_false (λ j. not (int_eq (rows_of s k j) (pos 0))) k (λ q h. c.loop-j.invariant q (omega arith))))
