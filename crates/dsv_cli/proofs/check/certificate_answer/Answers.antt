use Rattle.dsv_cli.proofs.check.certificate_answer.Goals as goal

pub returns-in-Err-clause-found : goal.returns-in-Err-clause-found
returns-in-Err-clause-found c = (c.in-Err.refusal, c.in-Err.ensures.found, c.check_stop.ensures)
