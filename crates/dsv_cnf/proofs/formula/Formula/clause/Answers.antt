use Rattle.std.proofs.Common.{arith, ap, length, ◌+◌, ◌<◌}
use Rattle.std.proofs.lemmas.List.Elements.{All-take, All-drop}
use Rattle.dsv_cnf.proofs.PieceLemmas.{length-pieces, bounds-piece}
use Rattle.dsv_cnf.specs.FormulaView.{FormulaView}
use Rattle.dsv_cnf.specs.Literal.{Literal}
use Rattle.dsv_cnf.proofs.formula.Formula.clause.Goals as goal

pub index-requires : goal.index-requires
index-requires c = omega (arith, length-pieces c.self.inside.literals.items c.self.inside.bounds.items, ap (λ (f : FormulaView). length f.clauses) c.self.view_is)

pub index-requires-2 : goal.index-requires-2
index-requires-2 c = omega (arith, length-pieces c.self.inside.literals.items c.self.inside.bounds.items, ap (λ (f : FormulaView). length f.clauses) c.self.view_is)

pub piece-requires : goal.piece-requires
piece-requires c =
    let few : c.args.i + 1 < length c.self.inside.bounds.items = omega (arith, length-pieces c.self.inside.literals.items c.self.inside.bounds.items, ap (λ (f : FormulaView). length f.clauses) c.self.view_is) in
    let p = bounds-piece c.self.inside.literals.items c.self.inside.bounds.items c.args.i c.index.result.now c.index-2.result.now c.self.invariant.bounds few c.index.ensures c.index-2.ensures in
    record { order = p.order; inside = rw c.as_slice.ensures.value p.inside }

pub returns : goal.returns
returns c =
    let few : c.args.i + 1 < length c.self.inside.bounds.items = omega (arith, length-pieces c.self.inside.literals.items c.self.inside.bounds.items, ap (λ (f : FormulaView). length f.clauses) c.self.view_is) in
    let p = bounds-piece c.self.inside.literals.items c.self.inside.bounds.items c.args.i c.index.result.now c.index-2.result.now c.self.invariant.bounds few c.index.ensures c.index-2.ensures in
    let over = λ (l : Literal). l.var < c.self.inside.vars in
    rw (← c.self.view_is, c.piece.ensures, c.as_slice.ensures.value)
    record { at = p.at; over = All-take over _ _ (All-drop over _ _ c.self.invariant.over) }
