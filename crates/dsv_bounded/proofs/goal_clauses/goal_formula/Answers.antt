use Rattle.std.proofs.Common.{◌∙◌, ap}
use Rattle.dsv_bounded.specs.Formulas.{clauses_of_simple}
use Rattle.dsv_bounded.proofs.Deciding.{IsSame, values_over, decisive_over, told_over}
use Rattle.dsv_bounded.proofs.goal_clauses.goal_formula.Goals as goal

pub returns-clause-formula : goal.returns-clause-formula
returns-clause-formula c = c.in_ok-blasted.ensures.formula ∙ ap clauses_of_simple c.in_ok-simple.ensures.made

pub returns-clause-told : goal.returns-clause-told
returns-clause-told c =
    let t = c.args.goal in
    let s = c.in_ok-simple.simple in
    let b = c.in_ok-blasted.blasted in
    let same : IsSame t.terms t.root s.terms s.root = record { inputs = c.in_ok-simple.ensures.inputs; value = c.in_ok-simple.ensures.value } in
    told_over t.terms s.terms t.root s.root b.formula same c.in_ok-blasted.ensures.exact

pub returns-clause-values : goal.returns-clause-values
returns-clause-values c = λ v.
    let t = c.args.goal in
    let s = c.in_ok-simple.simple in
    let b = c.in_ok-blasted.blasted in
    let same : IsSame t.terms t.root s.terms s.root = record { inputs = c.in_ok-simple.ensures.inputs; value = c.in_ok-simple.ensures.value } in
    values_over t.terms s.terms t.root s.root b.formula b.inputs v same c.in_ok-blasted.ensures.inputs c.in_ok-blasted.ensures.exact

pub returns-clause-decisive : goal.returns-clause-decisive
returns-clause-decisive c =
    let t = c.args.goal in
    let s = c.in_ok-simple.simple in
    let b = c.in_ok-blasted.blasted in
    let e = c.in_ok-blasted.ensures in
    let same : IsSame t.terms t.root s.terms s.root = record { inputs = c.in_ok-simple.ensures.inputs; value = c.in_ok-simple.ensures.value } in
    decisive_over t.terms s.terms t.root s.root b.formula b.inputs same e.inputs e.exact e.decisive
