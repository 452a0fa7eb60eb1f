use Rattle.std.proofs.Common.{pos, sym, ◌∙◌, arith}
use Rattle.std.proofs.lemmas.List.{get_or_past}
use Rattle.dsv_forms.proofs.matrix.place_or_zero.Goals as goal

pub returns-else-j-lt-GREATEST_ORDER : goal.returns-else-j-lt-GREATEST_ORDER
returns-else-j-lt-GREATEST_ORDER c = c.from-else-j-lt-GREATEST_ORDER.ensures ∙ sym (get_or_past c.args.row.now c.args.j (pos 0) (omega arith))
