use Rattle.dsv_invariant.proofs.Sentences.{never_holds}
use Rattle.dsv_invariant.proofs.formulas.set_formula.Goals as goal

pub returns-clause-holds : goal.returns-clause-holds
returns-clause-holds c = λ none.
    let q = c.args.asking.now.subject.now in
    let net = c.netlist_of-net.result.now in
    let g = c.in_ok-goal.goal in
    never_holds q net c.args.candidate.now c.args.part g.terms g.root c.netlist_of-net.ensures.runs c.netlist_of-net.ensures.quantised c.in_ok-goal.ensures.asks (λ values fit one.
    let s = c.in_ok-blasted.ensures.told.1 (values, fit, one) in
    none s.0 s.1)
