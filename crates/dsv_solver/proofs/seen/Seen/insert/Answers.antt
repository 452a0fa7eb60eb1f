use Rattle.std.proofs.Common.{◌<◌, [], ◌∷◌, arith, ap, sym, ◌∙◌, reverse}
use Rattle.std.proofs.lemmas.List.{reverse-append}
use Rattle.dsv_cnf.specs.Formula.{contains}
use Rattle.dsv_cnf.specs.LiteralSet.{with}
use Rattle.dsv_cnf.proofs.ClauseLemmas.{IsOver-push}
use Rattle.dsv_solver.specs.SeenView.{SeenView}
use Rattle.dsv_solver.proofs.seen.Seen.insert.Goals as goal

pub invariant_of-self-2 : goal.invariant_of-self-2
invariant_of-self-2 c =
    let i = c.self.invariant in
    let l = c.args.literal in
    let v : l.var < c.self.inside.set.vars = omega (arith, c.requires, ap (λ (s : SeenView). s.vars) c.self.view_is) in
    record {
      over = rw (c.insert.ensures.vars, c.in_ok-push.ensures.items) (IsOver-push _ _ _ i.over v);
      marked = c.insert.ensures.set ∙ ap (with l) i.marked ∙ ap contains (sym (ap reverse c.in_ok-push.ensures.items ∙ reverse-append c.self.inside.inserted.items (l ∷ [])));
    }
