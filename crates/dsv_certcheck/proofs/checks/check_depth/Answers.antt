use Rattle.dsv_certcheck.proofs.checks.check_depth.Goals as goal

pub returns-clause-found : goal.returns-clause-found
returns-clause-found c = rw c.in_ok-asking.ensures at c.check_depth_of.ensures.found

pub returns-clause-shows : goal.returns-clause-shows
returns-clause-shows c = rw c.in_ok-asking.ensures at c.check_depth_of.ensures.shows

pub returns-clause-near : goal.returns-clause-near
returns-clause-near c = rw c.in_ok-asking.ensures at c.check_depth_of.ensures.near
