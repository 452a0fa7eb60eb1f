use Rattle.std.proofs.Common.{List, [], ℤ, pos, get_or, sym, ap, ◌∙◌, arith}
use Rattle.std.proofs.lemmas.List.{get_or_past}
use Rattle.dsv_forms.proofs.matrix.entry_or_zero.Goals as goal

pub returns-else-i-lt-GREATEST_ORDER : goal.returns-else-i-lt-GREATEST_ORDER
returns-else-i-lt-GREATEST_ORDER c =
    let none : List ℤ = [] in
    c.from.ensures ∙ sym (ap (λ (row : List ℤ). get_or row c.args.j (pos 0)) (get_or_past c.args.rows.now c.args.i none (omega arith)))
