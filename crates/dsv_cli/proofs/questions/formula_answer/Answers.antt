use Rattle.dsv_cli.proofs.Answering.{formula_written, formula_plain}
use Rattle.dsv_cli.proofs.questions.formula_answer.Goals as goal

pub returns-clause-formula : goal.returns-clause-formula
returns-clause-formula g c =
    let f = c.formula in
    let q = c.args.question.now in
    let same = c.in_ok-asking.ensures in
    rw c.formula_found.ensures
    (formula_written q.property q.samples (g.S.Subject.view c.args.subject.now) f.result (rw same at f.ensures.sized) (rw same at f.ensures.formula) (rw same at f.ensures.told))

pub returns-clause-plain : goal.returns-clause-plain
returns-clause-plain g c = rw c.formula_found.ensures (formula_plain c.formula.result)
