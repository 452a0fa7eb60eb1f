use Rattle.std.proofs.Common.{◌≡◌, ◌+◌, ◌∷◌, ◌++◌, [], take, drop}
use Rattle.dsv_solver.specs.Analysis.{AllFalse}
use Rattle.dsv_solver.proofs.Marking.{prefix-more, rest-more}
use Rattle.dsv_solver.proofs.Searching.{last_more, later_known}
use Rattle.dsv_solver.proofs.learn.highest_literal.Goals as goal

pub loop-literal-preserved : goal.loop-literal-preserved
loop-literal-preserved c =
    let i = c.loop-literal.invariant in
    let k = c.loop-literal.literal-index in
    let item = c.literal-item.result in
    let rest : drop k c.args.literals.now ≡ item ∷ drop (k + 1) c.args.literals.now = rest-more c.args.literals.now k item c.loop-literal-test.true c.literal-item.is in
    let prefix : take (k + 1) c.args.literals.now ≡ take k c.args.literals.now ++ item ∷ [] = prefix-more c.args.literals.now k item c.loop-literal-test.true c.literal-item.is in
    let all : AllFalse c.args.trail.now (item ∷ drop (k + 1) c.args.literals.now) = rw rest at i.rest in
    record {
      rest = all.2;
      known = later_known c.args.trail.now c.loop-literal.found item c.later_literal.result i.known (all.1, all.0) c.later_literal.ensures;
      found = rw prefix (last_more c.args.trail.now (take k c.args.literals.now) item c.later_literal.result c.loop-literal.found i.found c.later_literal.ensures);
    }
