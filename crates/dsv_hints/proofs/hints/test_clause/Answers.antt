use Rattle.std.proofs.Common.{List, [], ◌∷◌, ◌≡◌, ℕ, ◌<◌, nat_lt, true, arith, sym, Result, Ok, Err, OnOk}
use Rattle.std.proofs.lemmas.Bool.Decides.{nat_tests}
use Rattle.std.proofs.lemmas.List.Elements.{All-nil, All-cons}
use Rattle.dsv_cnf.specs.Formula.{IsOver}
use Rattle.dsv_cnf.specs.Literal.{Literal}
use Rattle.dsv_hints.specs.Clauses.{is_over}
use Rattle.dsv_hints.specs.declared.step.StepRefusal.{StepRefusal}
use Rattle.dsv_algebra.proofs.Booleans.{and_left, and_right}
use Rattle.dsv_hints.proofs.hints.test_clause.Goals as goal

over-from : (vars : ℕ) (c : List Literal) → is_over vars c ≡ true → IsOver vars c
over-from vars [] h = All-nil (λ (l : Literal). l.var < vars)
over-from vars (l ∷ ls) h =
    All-cons (λ (m : Literal). m.var < vars) l ls (let t = and_left (nat_lt l.var vars) (is_over vars ls) h in grind (arith, nat_tests))
    (over-from vars ls (and_right (nat_lt l.var vars) (is_over vars ls) h))

pub insert_all-requires : goal.insert_all-requires
insert_all-requires c =
    let over : is_over c.args.store.now.vars c.args.clause.now ≡ true = rw c.vars.ensures at (sym c.if-not-is_over.ensures) in
    over-from c.args.set.now.vars c.args.clause.now (rw c.requires.vars over)

pub has_negation-requires : goal.has_negation-requires
has_negation-requires c =
    let over : is_over c.args.store.now.vars c.args.clause.now ≡ true = rw c.vars.ensures at (sym c.if-not-is_over.ensures) in
    over-from c.insert_all.new.set.vars c.args.clause.now (rw (c.insert_all.ensures.vars, c.requires.vars) over)

on_ok : (r : Result (Unit {0}) StepRefusal) (vars : ℕ) (clause : List Literal) → IsOver vars clause → OnOk r (IsOver vars clause)
on_ok (Ok u) vars clause h = h
on_ok (Err why) vars clause h = tt

pub returns-clause-over : goal.returns-clause-over
returns-clause-over c =
    let over : is_over c.args.store.now.vars c.args.clause.now ≡ true = rw c.vars.ensures at (sym c.if-not-is_over.ensures) in
    on_ok c.take_hints.result c.args.store.now.vars c.args.clause.now (over-from c.args.store.now.vars c.args.clause.now over)
