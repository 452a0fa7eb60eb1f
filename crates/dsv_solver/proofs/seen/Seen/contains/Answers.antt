use Rattle.std.proofs.Common.{Bool, ap, ◌∙◌}
use Rattle.dsv_cnf.specs.Literal.{Literal}
use Rattle.dsv_cnf.specs.Formula.{contains}
use Rattle.dsv_solver.specs.SeenView.{SeenView}
use Rattle.dsv_solver.proofs.seen.Seen.contains.Goals as goal

pub returns : goal.returns
returns c =
    c.contains.ensures
    ∙ ap (λ (s : Literal → Bool). s c.args.literal) c.self.invariant.marked
    ∙ ap (λ (s : SeenView). contains s.literals c.args.literal) c.self.view_is
