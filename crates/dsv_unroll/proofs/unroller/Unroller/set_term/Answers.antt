use Rattle.std.proofs.Common.{◌≡◌, IfOk, List, rules, sym, subst}
use Rattle.std.proofs.lemmas.Result.{IfOk-weaker}
use Rattle.dsv_word.specs.Words.{width}
use Rattle.dsv_term.specs.declared.node.TermId.{TermId}
use Rattle.dsv_term.specs.Building.{built_of}
use Rattle.dsv_term.specs.Growth.{Adds}
use Rattle.dsv_unroll.specs.Ready.{AreBits}
use Rattle.dsv_unroll.specs.SetGoals.{set_term}
use Rattle.dsv_unroll.proofs.SampleSteps.{bits_later}
use Rattle.dsv_unroll.proofs.SetTerms.{set_adds}
use Rattle.dsv_unroll.proofs.unroller.Unroller.set_term.Goals as goal

pub returns-clause-adds : goal.returns-clause-adds
unfolding set_term
returns-clause-adds c =
    let f = c.args.self.now.net.now.format in
    let t = c.args.terms.now in
    let u = c.conjunction.new.terms in
    let zero_bit = c.args.self.now.zero_bit in
    let registers = c.args.registers.now in
    let candidate = c.args.candidate.now in
    let built : IfOk c.conjunction.result (λ inside. built_of u inside ≡ set_term (width f) zero_bit t candidate registers) = search rules in
    IfOk-weaker c.conjunction.result (λ inside. built_of u inside ≡ set_term (width f) zero_bit t candidate registers) (λ inside. Adds t u inside 1) (λ inside e. set_adds f t u zero_bit inside registers candidate c.requires.ready c.requires.shaped e) built

pub conjunction-requires-clause-first : goal.conjunction-requires-clause-first
conjunction-requires-clause-first c = let m = c.in_ok-whole.ensures.made in record { stands = m.stands; width = m.width }

pub conjunction-requires-clause-tests : goal.conjunction-requires-clause-tests
conjunction-requires-clause-tests c =
    let t = c.inequality_terms.new.terms in
    let u = c.constant.new.self in
    subst (λ (ids : List TermId). AreBits u ids) (sym c.deref.ensures.value) (bits_later t u c.in_ok-tests.tests.items c.in_ok-whole.ensures.made.kept c.in_ok-tests.ensures.bits)
