use Rattle.std.proofs.Common.{◌≡◌, ◌+◌, ◌∙◌, true, [], ◌∷◌, arith, ap, sym, subst, drop, length}
use Rattle.std.proofs.lemmas.List.{drop_more}
use Rattle.dsv_word.specs.declared.format.Format.{Format}
use Rattle.dsv_word.specs.Words.{width}
use Rattle.dsv_template.specs.declared.candidate.Inequality.{Inequality}
use Rattle.dsv_template.specs.Candidates.{is_fit_for}
use Rattle.dsv_unroll.specs.SetGoals.{Tests, inequality_term, inequalities_from}
use Rattle.dsv_unroll.proofs.SetSums.{passes_at}
use Rattle.dsv_unroll.proofs.SetTerms.{IsTesting, test_step}
use Rattle.dsv_unroll.proofs.unroller.Unroller.inequality_terms.Goals as goal

pub loop-i-preserved : goal.loop-i-preserved
loop-i-preserved c =
    let l = c.loop-i in
    let i = l.invariant in
    let f = c.args.self.now.net.now.format in
    let is = c.args.inequalities.now in
    let registers = c.args.registers.now in
    let s : Tests = record { terms = l.terms; ids = l.tests.items } in
    let end : Tests = inequalities_from (width f) c.args.self.now.zero_bit registers (record { terms = c.args.terms.now; ids = [] }) is in
    let before : IsTesting f c.args.terms.now c.args.self.now.zero_bit registers is l.i s end = record { ready = i.ready; bits = i.bits; kept = i.kept; same = i.same } in
    let h = c.index-inequalities-i.is in
    let this = c.index-inequalities-i.result in
    let fit = subst (λ (x : Inequality). is_fit_for (length registers) x ≡ true) (sym h) (passes_at (is_fit_for (length registers)) is l.i this c.requires.fit (omega arith)) in
    let d : drop l.i is ≡ this ∷ drop (l.i + 1) is = drop_more is l.i this (omega arith) ∙ ap (λ (x : Inequality). x ∷ drop (l.i + 1) is) (sym h) in
    let made = c.in_ok-test.ensures ∙ ap (λ (g : Format). inequality_term (width g) c.args.self.now.zero_bit registers l.terms this) c.format-format.ensures in
    let a = test_step f c.args.terms.now c.args.self.now.zero_bit registers is l.i s end this c.inequality_term.new.terms c.in_ok-test.test c.push.new.self.items fit d before made c.in_ok-push.ensures.items in
    record { ready = a.ready; bits = a.bits; kept = a.kept; same = a.same }

pub inequality_term-requires-clause-fit : goal.inequality_term-requires-clause-fit
inequality_term-requires-clause-fit c =
    let registers = c.args.registers.now in
    let this = c.index-inequalities-i.result in
    subst (λ (x : Inequality). is_fit_for (length registers) x ≡ true) (sym c.index-inequalities-i.is) (passes_at (is_fit_for (length registers)) c.args.inequalities.now c.loop-i.i this c.requires.fit (omega arith))

pub inequality_term-requires-clause-ready : goal.inequality_term-requires-clause-ready
inequality_term-requires-clause-ready c = c.loop-i.invariant.ready
