use Rattle.std.specs.Prelude.{◌↔◌}
use Rattle.std.proofs.lemmas.Result.{IfOk-weaker}
use Rattle.dsv_cnf.specs.Formula.{IsSatisfiable}
use Rattle.dsv_cnf.specs.FormulaView.{FormulaView}
use Rattle.dsv_bounded.specs.Questions.{SomeHave, input_widths, free_registers, DoCycle}
use Rattle.dsv_bounded.proofs.Questions.{cycles_mean, told_as}
use Rattle.dsv_netlist.specs.Systems.{runs_of}
use Rattle.dsv_bounded.specs.Verdicts.{CyclesWithinBy}
use Rattle.dsv_bounded.proofs.cycles.netlist_cycle_formula.Goals as goal

pub returns-clause-told : goal.returns-clause-told
returns-clause-told c =
    let net = c.args.subject.now.net.now in
    let n = c.args.periods in
    let widths = input_widths net (free_registers net) in
    let W : Type 0 = CyclesWithinBy (runs_of net) n in
    IfOk-weaker c.formula.result (λ (f : FormulaView). IsSatisfiable f.clauses ↔ SomeHave widths (DoCycle net n)) (λ (f : FormulaView). IsSatisfiable f.clauses ↔ W)
    (λ (f : FormulaView) h. told_as (IsSatisfiable f.clauses) W widths (DoCycle net n) (cycles_mean net n c.len-count.ensures.netlist.feed_forward) h) c.formula.ensures.told
