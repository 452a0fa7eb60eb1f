use Rattle.std.proofs.Common.{length, ap, ◌≡◌, ◌∙◌, sym, refl, Some, inl, inr, ◌++◌, ◌∷◌, []}
use Rattle.dsv_cnf.specs.Literal.{negation}
use Rattle.dsv_trail.specs.TrailView.{TrailView}
use Rattle.dsv_trail.specs.declared.marks.Mark.{Mark}
use Rattle.dsv_trail.specs.Places.{falsifies}
use Rattle.dsv_solver.specs.Propagation.{IsPartner, IsNext}
use Rattle.dsv_cnf.proofs.ClauseLemmas.{no_both, IsOver-member}
use Rattle.dsv_solver.proofs.Steps.{open-none, ready-moved, ready-put, no-partner-settled, true-settled, some-same, partner-other}
use Rattle.dsv_trail.proofs.PlaceLemmas.{falsifies-new, open-of, reason-of}
use Rattle.dsv_solver.proofs.state.State.tend.Goals as goal

pub returns-in_default-clause-answer : goal.returns-in_default-clause-answer
returns-in_default-clause-answer c =
    record {
      same = refl;
      settled = λ d p e f. no-partner-settled c.args.self.now.trail c.args.self.now.head d p c.args.watch.literal (rw (some-same _ _ _ f c.pair.ensures.at) c.in_default.ensures) (c.requires.ready.watched.each c.args.watch.clause d p e f);
    }

pub replace-requires-clause-next_over : goal.replace-requires-clause-next_over
replace-requires-clause-next_over c =
    let o : IsNext c.args.self.now.trail.marks c.in-Some.other c.clause.result.now c.in-Some-find_next.next.literal = c.in-Some-find_next.ensures in
    rw c.requires.ready.watch_vars (IsOver-member c.args.self.now.clauses.vars c.clause.result.now c.in-Some-find_next.next.literal c.clause.ensures.over o.stands)

pub replace-requires-clause-moves : goal.replace-requires-clause-moves
replace-requires-clause-moves c e =
    let o : IsNext c.args.self.now.trail.marks c.in-Some.other c.clause.result.now c.in-Some-find_next.next.literal = c.in-Some-find_next.ensures in
    no_both (falsifies c.args.self.now.trail.marks c.args.watch.literal) c.requires.is_false (ap (falsifies c.args.self.now.trail.marks) (sym e) ∙ o.not_false)

pub returns-then-is_false-2-clause-answer : goal.returns-then-is_false-2-clause-answer
returns-then-is_false-2-clause-answer c =
    record {
      clause = c.clause.result.now;
      at = c.clause.ensures.at;
      all = λ q i. elim (open-none c.args.self.now.trail.marks c.in-Some.other c.clause.result.now c.in-None.ensures q i) [ inl e ↦ rw e (sym c.is_false-in-None.ensures ∙ c.if-is_false-2.true) | inr h ↦ h ];
    }

pub returns-in_ok-replace-in-Some-find_next-clause-ready :
    goal.returns-in_ok-replace-in-Some-find_next-clause-ready
returns-in_ok-replace-in-Some-find_next-clause-ready c =
    let o : IsNext c.args.self.now.trail.marks c.in-Some.other c.clause.result.now c.in-Some-find_next.next.literal = c.in-Some-find_next.ensures in
    ready-moved c.args.self.now.clauses c.args.self.now.trail c.args.self.now.watches c.replace.new.watches c.args.self.now.head c.args.watch.clause c.clause.result.now c.pair.result c.args.watch.literal c.in-Some.other c.in-Some-find_next.next.literal c.requires.ready c.clause.ensures.at c.pair.ensures.at c.requires.is_false o c.in-Some.ensures c.in_ok-replace-in-Some-find_next.ensures.pairs c.replace.ensures.vars

pub returns-in_ok-replace-in-Some-find_next-clause-answer :
    goal.returns-in_ok-replace-in-Some-find_next-clause-answer
returns-in_ok-replace-in-Some-find_next-clause-answer c =
    let o : IsNext c.args.self.now.trail.marks c.in-Some.other c.clause.result.now c.in-Some-find_next.next.literal = c.in-Some-find_next.ensures in
    let n : IsPartner c.pair.result c.args.watch.literal c.in-Some.other = c.in-Some.ensures in
    record {
      next = c.in-Some-find_next.next.literal;
      other = c.in-Some.other;
      is = record {
        trail = refl;
        pairs = c.in_ok-replace-in-Some-find_next.ensures.pairs;
        not_false = o.not_false;
        apart = n.apart;
        len = c.in_ok-replace-in-Some-find_next.ensures.len;
        prefix = c.in_ok-replace-in-Some-find_next.ensures.prefix;
      };
    }

pub imply-requires-clause-free : goal.imply-requires-clause-free
imply-requires-clause-free c =
    open-of c.args.self.now.trail.marks c.in-Some.other (sym c.is_false-in-None.ensures ∙ c.if-is_false-2.false)
    (ap (falsifies c.args.self.now.trail.marks) (sym c.negation.ensures) ∙ (sym c.is_false.ensures ∙ c.if-is_false.false))

pub imply-requires-clause-reason : goal.imply-requires-clause-reason
imply-requires-clause-reason c =
    let n : IsPartner c.pair.result c.args.watch.literal c.in-Some.other = c.in-Some.ensures in
    reason-of c.args.self.now.trail.vars c.args.self.now.clauses.clauses c.args.watch.clause c.args.self.now.trail.marks c.clause.result.now c.in-Some.other c.len-count.ensures.whole.marks c.clause.ensures.at
    (partner-other c.clause.result.now c.pair.result c.args.watch.literal c.in-Some.other n (c.requires.ready.watched.each c.args.watch.clause c.clause.result.now c.pair.result c.clause.ensures.at c.pair.ensures.at).0)
    (open-none c.args.self.now.trail.marks c.in-Some.other c.clause.result.now c.in-None.ensures)

pub returns-else-is_false-2-clause-ready : goal.returns-else-is_false-2-clause-ready
returns-else-is_false-2-clause-ready c =
    let n : IsPartner c.pair.result c.args.watch.literal c.in-Some.other = c.in-Some.ensures in
    let m : Mark = record { literal = c.in-Some.other; level = length c.args.self.now.trail.limits; reason = Some c.args.watch.clause } in
    ready-put c.args.self.now.clauses c.args.self.now.trail c.imply.new.self c.args.self.now.watches c.args.self.now.head m c.requires.ready
    (record {
      open_literal = sym c.is_false-in-None.ensures ∙ c.if-is_false-2.false;
      open_negation = ap (falsifies c.args.self.now.trail.marks) (sym c.negation.ensures) ∙ (sym c.is_false.ensures ∙ c.if-is_false.false);
      reason = record {
        clause = c.clause.result.now;
        at = c.clause.ensures.at;
        has = partner-other c.clause.result.now c.pair.result c.args.watch.literal c.in-Some.other n (c.requires.ready.watched.each c.args.watch.clause c.clause.result.now c.pair.result c.clause.ensures.at c.pair.ensures.at).0;
        others = open-none c.args.self.now.trail.marks c.in-Some.other c.clause.result.now c.in-None.ensures;
      };
    })
    c.imply.ensures.state

pub returns-else-is_false-2-clause-answer : goal.returns-else-is_false-2-clause-answer
returns-else-is_false-2-clause-answer c =
    let n : IsPartner c.pair.result c.args.watch.literal c.in-Some.other = c.in-Some.ensures in
    let m : Mark = record { literal = c.in-Some.other; level = length c.args.self.now.trail.limits; reason = Some c.args.watch.clause } in
    let ms : c.imply.new.self.marks ≡ c.args.self.now.trail.marks ++ m ∷ [] = ap (λ (t : TrailView). t.marks) c.imply.ensures.state in
    record {
      same = refl;
      settled = λ d p e f.
          true-settled c.imply.new.self d p c.args.watch.literal c.in-Some.other (rw (some-same _ _ _ f c.pair.ensures.at) n)
          (ap (λ x. falsifies x (negation c.in-Some.other)) ms ∙ falsifies-new c.args.self.now.trail.marks m);
    }
