use Rattle.std.proofs.Common.{◌≡◌, ◌∙◌, ◌+◌, take, drop, ◌∷◌}
use Rattle.dsv_cnf.proofs.ClauseLemmas.{IsOver-tail, contains-tail}
use Rattle.dsv_solver.proofs.Marking.{marked-push, prefix-more, rest-more}
use Rattle.dsv_solver.proofs.analyse.mark_others.Goals as goal

pub loop-literal-preserved : goal.loop-literal-preserved
loop-literal-preserved c =
    let i = c.loop-literal.invariant in
    let item = c.literal-item.result in
    let rest : drop c.loop-literal.literal-index c.args.clause.now ≡ item ∷ drop (c.loop-literal.literal-index + 1) c.args.clause.now = rest-more c.args.clause.now c.loop-literal.literal-index item c.loop-literal-test.true c.literal-item.is in
    let prefix = prefix-more c.args.clause.now c.loop-literal.literal-index item c.loop-literal-test.true c.literal-item.is in
    record {
      vars = c.mark.ensures.vars ∙ i.vars;
      over = IsOver-tail c.args.trail.now.vars item (drop (c.loop-literal.literal-index + 1) c.args.clause.now) (rw rest at i.over);
      are_false = λ q n d. i.are_false q (rw rest (contains-tail item (drop (c.loop-literal.literal-index + 1) c.args.clause.now) q n)) d;
      marked = rw prefix (marked-push c.args.set.now.literals c.loop-literal.set.literals c.mark.new.set.literals (take c.loop-literal.literal-index c.args.clause.now) item c.args.skipped i.marked c.in_ok-lowest.ensures.marked);
      lowest = c.in_ok-lowest.ensures.lowest;
    }
