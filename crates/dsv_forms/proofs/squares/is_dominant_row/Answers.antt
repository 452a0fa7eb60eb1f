use Rattle.std.proofs.Common.{not, int_lt, sym, ap, ◌∙◌}
use Rattle.dsv_forms.proofs.Dominance.{dominant_by, wide_not_dominant}
use Rattle.dsv_forms.proofs.squares.is_dominant_row.Goals as goal

pub returns-in-Some : goal.returns-in-Some
returns-in-Some c =
    let x = c.in-Some.sum in
    c.is_at_most.ensures ∙ ap (λ r. not (int_lt r x)) c.entry.ensures
    ∙ ap not (sym (dominant_by c.args.d c.args.squares.now c.args.i x (sym c.in-Some.is ∙ c.sum_of_sizes.ensures)))

pub returns-in-None : goal.returns-in-None
returns-in-None c = sym (ap not (wide_not_dominant c.args.d c.args.squares.now c.args.i (sym c.in-None.is ∙ c.sum_of_sizes.ensures)))
