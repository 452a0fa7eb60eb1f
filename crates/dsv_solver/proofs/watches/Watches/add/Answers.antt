use Rattle.std.proofs.Common.{◌≡◌, ◌<◌, [], ◌∷◌, ◌++◌, arith, ap, ◌∙◌, length, length-append}
use Rattle.dsv_cnf.specs.Literal.{code_of}
use Rattle.dsv_cnf.proofs.LiteralLemmas.{code-below}
use Rattle.dsv_solver.specs.WatchView.{WatchView}
use Rattle.dsv_solver.specs.Watched.{IsPairOver}
use Rattle.dsv_solver.proofs.Adding.{HasBoth, has_both, over_more, listed_more, below_next}
use Rattle.dsv_solver.proofs.watches.Watches.add.Goals as goal

pub invariant_of-self-in_err-push_both : goal.invariant_of-self-in_err-push_both
invariant_of-self-in_err-push_both c =
    let i = c.self.invariant in
    let lists = c.in_err-push_both.ensures.err in
    let pairs = c.in_ok-reserve.ensures.items in
    record {
      few_vars = i.few_vars;
      room = ap length lists ∙ i.room;
      over = rw pairs i.over;
      listed = rw (pairs, lists) i.listed;
      below = rw (pairs, lists) i.below;
    }

pub invariant_of-self-2 : goal.invariant_of-self-2
invariant_of-self-2 c =
    let i = c.self.invariant in
    let vars : c.self.inside.vars ≡ c.args.self.now.vars = ap (λ (w : WatchView). w.vars) c.self.view_is in
    let over : IsPairOver c.self.inside.vars c.args.pair = rw vars c.requires.over in
    let one : c.code.result < length c.self.inside.lists.items = omega (arith, c.code.ensures, code-below c.args.pair.one c.self.inside.vars over.one, i.room) in
    let other : c.code-2.result < length c.self.inside.lists.items = omega (arith, c.code-2.ensures, code-below c.args.pair.other c.self.inside.vars over.other, i.room) in
    let h = has_both c.self.inside.lists.items c.push_both.new.lists.items c.code.result c.code-2.result c.len-clause.result c.in_ok-push_both.ensures.ok one other in
    let h' : HasBoth c.self.inside.lists.items c.push_both.new.lists.items (code_of c.args.pair.one) (code_of c.args.pair.other) c.len-clause.result = rw (← c.code.ensures, ← c.code-2.ensures) h in
    let pairs : c.push_reserved.new.self.items ≡ c.self.inside.pairs.items ++ c.args.pair ∷ [] = rw c.in_ok-reserve.ensures.items at c.push_reserved.ensures.items in
    let n : c.len-clause.result ≡ length c.self.inside.pairs.items = omega (arith, c.len-clause.ensures, c.self.inside.pairs.ok.0) in
    record {
      few_vars = i.few_vars;
      room = h.len ∙ i.room;
      over = rw pairs (over_more c.self.inside.vars c.self.inside.pairs.items c.args.pair over i.over);
      listed = rw pairs (listed_more c.self.inside.lists.items c.push_both.new.lists.items c.self.inside.pairs.items c.args.pair c.len-clause.result n h' i.listed);
      below = (h.below (length c.push_reserved.new.self.items) (omega (arith, n, ap length pairs, length-append c.self.inside.pairs.items (c.args.pair ∷ [])))
          (below_next (length c.self.inside.pairs.items) (length c.push_reserved.new.self.items) c.self.inside.lists.items (omega (arith, ap length pairs, length-append c.self.inside.pairs.items (c.args.pair ∷ []))) (record { each = i.below }))).each;
    }
