use Rattle.std.proofs.Common.{◌≡◌, ◌<◌, ◌∙◌, arith, ap, sym, true, false, refl, inl, length}
use Rattle.dsv_cnf.specs.Literal.{negation}
use Rattle.dsv_cnf.specs.Formula.{contains}
use Rattle.dsv_trail.specs.Places.{falsifies}
use Rattle.dsv_solver.specs.Solving.{IsOther, AreAllOne}
use Rattle.dsv_cnf.proofs.ClauseLemmas.{IsOver-member}
use Rattle.dsv_trail.proofs.PlaceLemmas.{open-of, reason-of}
use Rattle.dsv_solver.proofs.Loads.{begun_two, begun_true, begun_put, stuck_one, stuck_none}
use Rattle.dsv_solver.proofs.first_watches.settle.Goals as goal

pub returns-in_default : goal.returns-in_default
returns-in_default c = stuck_none c.args.clauses.now c.args.trail.now c.args.watches.now c.args.i c.clause-clause.result.now c.requires.begun c.clause-clause.ensures.at (rw c.in_default.is at c.first_literal.ensures)

pub add-requires-clause-over : goal.add-requires-clause-over
add-requires-clause-over c =
    let one : contains c.clause-clause.result.now c.in-Some.first ≡ true = rw c.in-Some.is at c.first_literal.ensures in
    let o : IsOther c.clause-clause.result.now c.in-Some.first c.in-Some-other_than.other = rw c.in-Some-other_than.is at c.other_than.ensures in
    record {
      one = omega (arith, c.requires.begun.ready.watch_vars, IsOver-member c.args.clauses.now.vars c.clause-clause.result.now c.in-Some.first c.clause-clause.ensures.over one);
      other = omega (arith, c.requires.begun.ready.watch_vars, IsOver-member c.args.clauses.now.vars c.clause-clause.result.now c.in-Some-other_than.other c.clause-clause.ensures.over o.stands);
    }

pub returns-in-Some-other_than : goal.returns-in-Some-other_than
returns-in-Some-other_than c =
    let one : contains c.clause-clause.result.now c.in-Some.first ≡ true = rw c.in-Some.is at c.first_literal.ensures in
    let o : IsOther c.clause-clause.result.now c.in-Some.first c.in-Some-other_than.other = rw c.in-Some-other_than.is at c.other_than.ensures in
    begun_two c.args.clauses.now c.args.trail.now c.args.watches.now c.add.new.self c.args.i c.clause-clause.result.now c.in-Some.first c.in-Some-other_than.other c.requires.begun c.clause-clause.ensures.at one o c.add.ensures.vars c.in_ok-add.ensures.pairs

pub is_false-requires : goal.is_false-requires
is_false-requires c =
    let one : contains c.clause-clause.result.now c.in-Some.first ≡ true = rw c.in-Some.is at c.first_literal.ensures in
    omega (arith, c.requires.begun.ready.trail_vars, IsOver-member c.args.clauses.now.vars c.clause-clause.result.now c.in-Some.first c.clause-clause.ensures.over one)

pub returns-then-is_false : goal.returns-then-is_false
returns-then-is_false c =
    let all : AreAllOne c.clause-clause.result.now c.in-Some.first = rw c.in_default-other_than.is at c.other_than.ensures in
    stuck_one c.args.clauses.now c.args.trail.now c.args.watches.now c.args.i c.clause-clause.result.now c.in-Some.first c.requires.begun c.clause-clause.ensures.at all (sym c.is_false.ensures ∙ c.if-is_false.true)

pub add-requires-2-clause-over : goal.add-requires-2-clause-over
add-requires-2-clause-over c =
    let one : contains c.clause-clause.result.now c.in-Some.first ≡ true = rw c.in-Some.is at c.first_literal.ensures in
    let lt : c.in-Some.first.var < c.args.watches.now.vars = omega (arith, c.requires.begun.ready.watch_vars, IsOver-member c.args.clauses.now.vars c.clause-clause.result.now c.in-Some.first c.clause-clause.ensures.over one) in
    record { one = lt; other = lt }

pub is_false-requires-2 : goal.is_false-requires-2
is_false-requires-2 c =
    let one : contains c.clause-clause.result.now c.in-Some.first ≡ true = rw c.in-Some.is at c.first_literal.ensures in
    rw c.negation.ensures (omega (arith, c.requires.begun.ready.trail_vars, IsOver-member c.args.clauses.now.vars c.clause-clause.result.now c.in-Some.first c.clause-clause.ensures.over one))

pub returns-then-is_false-2 : goal.returns-then-is_false-2
returns-then-is_false-2 c =
    let one : contains c.clause-clause.result.now c.in-Some.first ≡ true = rw c.in-Some.is at c.first_literal.ensures in
    let true_ : falsifies c.args.trail.now.marks (negation c.in-Some.first) ≡ true = ap (falsifies c.args.trail.now.marks) (sym c.negation.ensures) ∙ (sym c.is_false-2.ensures ∙ c.if-is_false-2.true) in
    begun_true c.args.clauses.now c.args.trail.now c.args.watches.now c.add-2.new.self c.args.i c.clause-clause.result.now c.in-Some.first c.requires.begun c.clause-clause.ensures.at one true_ c.add-2.ensures.vars c.in_ok-add-2.ensures.pairs

pub imply-requires-clause-over : goal.imply-requires-clause-over
imply-requires-clause-over c =
    let one : contains c.clause-clause.result.now c.in-Some.first ≡ true = rw c.in-Some.is at c.first_literal.ensures in
    omega (arith, c.requires.begun.ready.trail_vars, IsOver-member c.args.clauses.now.vars c.clause-clause.result.now c.in-Some.first c.clause-clause.ensures.over one)

pub imply-requires-clause-free : goal.imply-requires-clause-free
imply-requires-clause-free c =
    let open_a : falsifies c.args.trail.now.marks c.in-Some.first ≡ false = sym c.is_false.ensures ∙ c.if-is_false.false in
    let open_n : falsifies c.args.trail.now.marks (negation c.in-Some.first) ≡ false = ap (falsifies c.args.trail.now.marks) (sym c.negation.ensures) ∙ (sym c.is_false-2.ensures ∙ c.if-is_false-2.false) in
    open-of c.args.trail.now.marks c.in-Some.first open_a open_n

pub imply-requires-clause-reason : goal.imply-requires-clause-reason
imply-requires-clause-reason c =
    let one : contains c.clause-clause.result.now c.in-Some.first ≡ true = rw c.in-Some.is at c.first_literal.ensures in
    let all : AreAllOne c.clause-clause.result.now c.in-Some.first = rw c.in_default-other_than.is at c.other_than.ensures in
    reason-of c.args.trail.now.vars c.args.clauses.now.clauses c.args.i c.args.trail.now.marks c.clause-clause.result.now c.in-Some.first c.len-count.ensures.whole.marks c.clause-clause.ensures.at one (λ q j. inl (all.same q j))

pub returns : goal.returns
returns c =
    let one : contains c.clause-clause.result.now c.in-Some.first ≡ true = rw c.in-Some.is at c.first_literal.ensures in
    let all : AreAllOne c.clause-clause.result.now c.in-Some.first = rw c.in_default-other_than.is at c.other_than.ensures in
    let open_a : falsifies c.args.trail.now.marks c.in-Some.first ≡ false = sym c.is_false.ensures ∙ c.if-is_false.false in
    let open_n : falsifies c.args.trail.now.marks (negation c.in-Some.first) ≡ false = ap (falsifies c.args.trail.now.marks) (sym c.negation.ensures) ∙ (sym c.is_false-2.ensures ∙ c.if-is_false-2.false) in
    begun_put c.args.clauses.now c.args.trail.now c.imply.new.self c.args.watches.now c.add-2.new.self c.args.i c.args.i (length c.args.trail.now.limits) c.clause-clause.result.now c.in-Some.first c.requires.begun c.clause-clause.ensures.at one all open_a open_n refl c.imply.ensures.state c.add-2.ensures.vars c.in_ok-add-2.ensures.pairs
