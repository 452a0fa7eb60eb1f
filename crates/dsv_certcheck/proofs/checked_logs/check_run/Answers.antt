use Rattle.dsv_certcheck.proofs.CheckLemmas.{on_ok}
use Rattle.dsv_certcheck.proofs.checked_logs.check_run.Goals as goal

pub returns-clause-shows : goal.returns-clause-shows
returns-clause-shows c =
    let told = rw c.in_ok-asking.ensures at c.in_ok-formula.ensures.told in
    on_ok c.check_log.result (λ none happens. let s = told.1 happens in none s.0 s.1) c.check_log.ensures.shows
