use Rattle.dsv_bounded.proofs.Agreeing.{breaks_within_agree}
use Rattle.dsv_bounded.proofs.Questions.{told_through}
use Rattle.dsv_bounded.specs.RunQuestions.{BreaksWithin}
use Rattle.dsv_bounded.specs.Verdicts.{BreaksWithinBy}
use Rattle.dsv_cnf.specs.Formula.{IsSatisfiable}
use Rattle.dsv_netlist.specs.Systems.{runs_of}
use Rattle.dsv_bounded.proofs.formulas.overflow_formula.Goals as goal

pub returns-clause-told : goal.returns-clause-told
returns-clause-told g c =
    let s = g.S.Subject.view c.args.asking.now.subject.now in
    let b = runs_of c.ranged_netlist.result.net.now in
    let e = c.ranged_netlist.ensures in
    let n = c.args.samples in
    told_through (IsSatisfiable c.in_ok-netlist_overflow_formula.field-0.clauses) (BreaksWithinBy b s.low s.high n) (BreaksWithin s n)
    (rw (e.low, e.high) at c.in_ok-netlist_overflow_formula.ensures.told) (breaks_within_agree b s.runs s.low s.high n e.runs)
