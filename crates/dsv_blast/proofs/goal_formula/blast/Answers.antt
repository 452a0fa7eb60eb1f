use Rattle.std.proofs.Common.{◌≡◌, ◌<◌, ◌∙◌, ap, length}
use Rattle.dsv_term.specs.Terms.{width_of}
use Rattle.dsv_term.specs.TermsView.{TermsView}
use Rattle.dsv_term.specs.declared.node.TermId.{TermId}
use Rattle.dsv_cnf.specs.FormulaView.{FormulaView}
use Rattle.dsv_blast.specs.CircuitView.{CircuitView}
use Rattle.dsv_blast.specs.Blast.{cnf_of}
use Rattle.dsv_blast.proofs.Wiring.{wired, over-same, formula-is, exact-is, decisive-is}
use Rattle.dsv_blast.proofs.goal_formula.blast.Goals as goal

pub at-requires : goal.at-requires
at-requires c =
    let t : TermsView = c.args.goal.now.terms in
    let root : TermId = c.args.goal.now.root in
    let e = c.in_ok-wiring.ensures in
    let w = c.in_ok-wiring.wiring in
    let stands : root.0 < length t.nodes = c.args.goal.now.stands in
    (wired t root w.places w.bits w.circuit e.terms stands e.places e.bits e.circuit).stands

pub push-requires : goal.push-requires
push-requires c =
    let t : TermsView = c.args.goal.now.terms in
    let root : TermId = c.args.goal.now.root in
    let e = c.in_ok-wiring.ensures in
    let w = c.in_ok-wiring.wiring in
    let stands : root.0 < length t.nodes = c.args.goal.now.stands in
    rw c.at.ensures (wired t root w.places w.bits w.circuit e.terms stands e.places e.bits e.circuit).root_over

pub invariant_of-result-clause-over : goal.invariant_of-result-clause-over
invariant_of-result-clause-over c =
    let t : TermsView = c.args.goal.now.terms in
    let root : TermId = c.args.goal.now.root in
    let e = c.in_ok-wiring.ensures in
    let w = c.in_ok-wiring.wiring in
    let stands : root.0 < length t.nodes = c.args.goal.now.stands in
    let k = wired t root w.places w.bits w.circuit e.terms stands e.places e.bits e.circuit in
    let vars = ap (λ (f : FormulaView). f.vars) c.into_formula.ensures ∙ ap (λ (d : CircuitView). d.formula.vars) c.in_ok-push.ensures in
    over-same w.circuit.formula.vars c.into_formula.result.vars w.places vars k.places_over

pub invariant_of-result-clause-widths : goal.invariant_of-result-clause-widths
invariant_of-result-clause-widths c =
    let t : TermsView = c.args.goal.now.terms in
    let root : TermId = c.args.goal.now.root in
    let e = c.in_ok-wiring.ensures in
    let w = c.in_ok-wiring.wiring in
    let stands : root.0 < length t.nodes = c.args.goal.now.stands in
    (wired t root w.places w.bits w.circuit e.terms stands e.places e.bits e.circuit).widths

pub returns-clause-formula : goal.returns-clause-formula
returns-clause-formula c =
    let e = c.in_ok-wiring.ensures in
    let w = c.in_ok-wiring.wiring in
    c.into_formula.ensures ∙ (ap (λ (d : CircuitView). d.formula) c.in_ok-push.ensures ∙ formula-is c.args.goal.now.terms c.args.goal.now.root w.bits w.circuit c.at.result.now e.bits e.circuit c.at.ensures)

pub returns-clause-exact : goal.returns-clause-exact
returns-clause-exact c =
    let t : TermsView = c.args.goal.now.terms in
    let root : TermId = c.args.goal.now.root in
    let e = c.in_ok-wiring.ensures in
    let w = c.in_ok-wiring.wiring in
    let one : width_of t root ≡ 1 = c.args.goal.now.one_bit in
    let same : c.into_formula.result ≡ cnf_of t root = c.into_formula.ensures ∙ (ap (λ (d : CircuitView). d.formula) c.in_ok-push.ensures ∙ formula-is t root w.bits w.circuit c.at.result.now e.bits e.circuit c.at.ensures) in
    exact-is t root c.into_formula.result e.terms one same

pub returns-clause-decisive : goal.returns-clause-decisive
returns-clause-decisive c =
    let t : TermsView = c.args.goal.now.terms in
    let root : TermId = c.args.goal.now.root in
    let e = c.in_ok-wiring.ensures in
    let w = c.in_ok-wiring.wiring in
    let one : width_of t root ≡ 1 = c.args.goal.now.one_bit in
    let same : c.into_formula.result ≡ cnf_of t root = c.into_formula.ensures ∙ (ap (λ (d : CircuitView). d.formula) c.in_ok-push.ensures ∙ formula-is t root w.bits w.circuit c.at.result.now e.bits e.circuit c.at.ensures) in
    decisive-is t root c.into_formula.result w.places (exact-is t root c.into_formula.result e.terms one same) e.places
