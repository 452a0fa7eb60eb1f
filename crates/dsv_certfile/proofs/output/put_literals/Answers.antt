use Rattle.std.proofs.Common.{codes}
use Rattle.dsv_base.proofs.TakingLemmas.{writes_after, writes_cut}
use Rattle.dsv_certfile.proofs.LineTexts.{writes_as, list-text}
use Rattle.dsv_certfile.proofs.output.put_literals.Goals as goal
use Rattle.dsv_cnf.specs.Texts.{literal_piece}

pub returns-in_err-put_clause-clause-text : goal.returns-in_err-put_clause-clause-text
returns-in_err-put_clause-clause-text g c =
    writes_as (list-text literal_piece c.args.literals.now) (writes_cut (codes " 0") c.from_residual.ensures.0 c.in_err-put_clause.ensures.text.cut)

pub returns-clause-text : goal.returns-clause-text
returns-clause-text g c = writes_as (list-text literal_piece c.args.literals.now) (writes_after c.in_ok-put_clause.ensures.text.whole c.put_all.ensures)
