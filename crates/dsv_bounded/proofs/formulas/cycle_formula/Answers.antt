use Rattle.dsv_bounded.proofs.Agreeing.{cycles_within_agree}
use Rattle.dsv_bounded.proofs.Questions.{told_through}
use Rattle.dsv_bounded.specs.RunQuestions.{CyclesWithin}
use Rattle.dsv_bounded.specs.Verdicts.{CyclesWithinBy}
use Rattle.dsv_cnf.specs.Formula.{IsSatisfiable}
use Rattle.dsv_netlist.specs.Systems.{runs_of}
use Rattle.dsv_bounded.proofs.formulas.cycle_formula.Goals as goal

pub returns-clause-told : goal.returns-clause-told
returns-clause-told g c =
    let s = g.S.Subject.view c.args.asking.now.subject.now in
    let b = runs_of c.ranged_netlist.result.net.now in
    let n = c.args.periods in
    told_through (IsSatisfiable c.in_ok-netlist_cycle_formula.field-0.clauses) (CyclesWithinBy b n) (CyclesWithin s n)
    c.in_ok-netlist_cycle_formula.ensures.told (cycles_within_agree b s.runs n c.ranged_netlist.ensures.runs)
