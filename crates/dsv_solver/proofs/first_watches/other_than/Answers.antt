use Rattle.std.proofs.Common.{◌≡◌, ◌+◌, ◌++◌, ◌∷◌, [], take, sym, ◌∙◌}
use Rattle.dsv_solver.proofs.Marking.{prefix-more}
use Rattle.dsv_solver.proofs.Others.{more}
use Rattle.dsv_solver.proofs.first_watches.other_than.Goals as goal

pub loop-literal-preserved : goal.loop-literal-preserved
loop-literal-preserved c =
    let k = c.loop-literal.literal-index in
    let item = c.literal-item.result in
    let prefix : take (k + 1) c.args.clause.now ≡ take k c.args.clause.now ++ item ∷ [] = prefix-more c.args.clause.now k item c.loop-literal-test.true c.literal-item.is in
    rw prefix (more (take k c.args.clause.now) item c.args.first (sym c.is.ensures ∙ c.if-not-is.false) c.loop-literal.invariant)
