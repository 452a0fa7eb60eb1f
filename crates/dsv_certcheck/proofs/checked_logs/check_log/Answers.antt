use Rattle.dsv_certcheck.proofs.checked_logs.check_log.Goals as goal

pub returns-in-Accepted-clause-shows : goal.returns-in-Accepted-clause-shows
returns-in-Accepted-clause-shows c = c.in_ok-check.ensures.sound c.in-Accepted.is
