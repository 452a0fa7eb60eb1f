use Rattle.std.proofs.Common.{arith, ap, length, List, length-append, ℕ, ◌≡◌, ◌<◌, ◌++◌, ◌∷◌, [], ◌∙◌}
use Rattle.std.proofs.lemmas.List.Elements.{All-append}
use Rattle.dsv_cnf.proofs.PieceLemmas.{length-pieces, pushed}
use Rattle.dsv_cnf.specs.FormulaView.{FormulaView}
use Rattle.dsv_cnf.specs.Literal.{Literal}
use Rattle.dsv_cnf.proofs.formula.Formula.push_clause.Goals as goal

pub invariant_of-self-2 : goal.invariant_of-self-2
invariant_of-self-2 c =
    let literals = c.in_ok-extend_from_slice.ensures.items in
    let bounds = rw c.in_ok-reserve.ensures.items at c.push_reserved.ensures.items in
    let end : c.len.result ≡ length c.extend_from_slice.new.self.items = omega arith in
    let over = λ (l : Literal). l.var < c.self.inside.vars in
    record {
      few_vars = c.self.invariant.few_vars;
      few_clauses = omega (arith, ap length bounds, length-append {A = ℕ}, length-pieces c.self.inside.literals.items c.self.inside.bounds.items, ap (λ (f : FormulaView). length f.clauses) c.self.view_is);
      bounds = (pushed c.self.inside.literals.items c.args.lits.now _ c.self.inside.bounds.items _ c.len.result literals bounds end c.self.invariant.bounds).rise;
      over = rw literals (All-append over _ _ c.self.invariant.over (rw (← c.self.view_is) at c.requires.over));
    }

pub returns-clause-ok : goal.returns-clause-ok
returns-clause-ok c =
    let literals = c.in_ok-extend_from_slice.ensures.items in
    let bounds = rw c.in_ok-reserve.ensures.items at c.push_reserved.ensures.items in
    let end : c.len.result ≡ length c.extend_from_slice.new.self.items = omega arith in
    let more = pushed c.self.inside.literals.items c.args.lits.now _ c.self.inside.bounds.items _ c.len.result literals bounds end c.self.invariant.bounds in
    let seen : List (List Literal) → FormulaView = λ cs. record { vars = c.self.inside.vars; clauses = cs } in
    ap seen more.view ∙ ap (λ (f : FormulaView). record f { clauses = f.clauses ++ c.args.lits.now ∷ [] }) c.self.view_is
