use Rattle.std.specs.Prelude.{◌↔◌}
use Rattle.std.proofs.lemmas.Result.{IfOk-weaker}
use Rattle.dsv_cnf.specs.Formula.{IsSatisfiable}
use Rattle.dsv_cnf.specs.FormulaView.{FormulaView}
use Rattle.dsv_bounded.specs.Questions.{SomeHave, input_widths, DoBreak}
use Rattle.dsv_bounded.proofs.Questions.{breaks_mean, told_as}
use Rattle.dsv_netlist.specs.Systems.{runs_of}
use Rattle.dsv_bounded.specs.Verdicts.{BreaksWithinBy}
use Rattle.dsv_bounded.proofs.overflows.netlist_overflow_formula.Goals as goal

pub returns-clause-told : goal.returns-clause-told
returns-clause-told c =
    let s = c.args.subject.now in
    let net = s.net.now in
    let n = c.args.samples in
    let W : Type 0 = BreaksWithinBy (runs_of net) s.low s.high n in
    IfOk-weaker c.formula.result (λ (f : FormulaView). IsSatisfiable f.clauses ↔ SomeHave (input_widths net n) (DoBreak net s.low s.high)) (λ (f : FormulaView). IsSatisfiable f.clauses ↔ W)
    (λ (f : FormulaView) h. told_as (IsSatisfiable f.clauses) W (input_widths net n) (DoBreak net s.low s.high) (breaks_mean net s.low s.high n s.low_word s.high_word) h) c.formula.ensures.told
