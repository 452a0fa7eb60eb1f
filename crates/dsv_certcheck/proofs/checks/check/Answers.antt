use Rattle.std.proofs.Common.{◌≡◌, Err, ap, rules, option_copied}
use Rattle.dsv_certcheck.specs.Checks.{as_checked}
use Rattle.dsv_certcheck.proofs.CheckLemmas.{refused_format, refused_words, checked_words, checked_err, shown_words, near_words}
use Rattle.dsv_certcheck.proofs.checks.check.Goals as goal

pub returns-in_err-check_format-clause-found : goal.returns-in_err-check_format-clause-found
returns-in_err-check_format-clause-found c =
    let why = c.in_err-check_format.field-0.0 in
    let is : c.from_residual.result ≡ Err why = search rules in
    refused_format c.args.controller.now (option_copied c.args.plant) c.args.certificate.now c.job-job.result.now why (as_checked c.from_residual.result) c.job-job.ensures c.in_err-check_format.ensures (ap as_checked is)

pub returns-in_err-quantised-clause-found : goal.returns-in_err-quantised-clause-found
returns-in_err-quantised-clause-found c =
    let why = c.in_err-quantised.field-0.0 in
    refused_words c.args.controller.now (option_copied c.args.plant) c.args.certificate.now c.job-job.result.now why (as_checked c.from_residual-in_err-quantised.result) c.job-job.ensures c.in_ok-check_format.ensures c.in_err-quantised.ensures
    (checked_err c.from_residual-in_err-quantised.result why c.from_residual-in_err-quantised.ensures.1)

pub returns-clause-found : goal.returns-clause-found
returns-clause-found c =
    checked_words c.args.controller.now (option_copied c.args.plant) c.args.certificate.now c.job-job.result.now c.in_ok-quantised.quantised c.sample_time.result.now (as_checked c.check_beside.result) c.job-job.ensures c.in_ok-check_format.ensures
    c.in_ok-quantised.ensures c.sample_time.ensures.same c.check_beside.ensures.found

pub returns-clause-shows : goal.returns-clause-shows
returns-clause-shows c =
    shown_words c.args.controller.now (option_copied c.args.plant) c.args.certificate.now c.job-job.result.now c.in_ok-quantised.quantised c.sample_time.result.now c.check_beside.result c.job-job.ensures c.in_ok-quantised.ensures
    c.sample_time.ensures.same c.check_beside.ensures.shows

pub returns-clause-near : goal.returns-clause-near
returns-clause-near c =
    near_words c.args.controller.now c.args.certificate.now c.job-job.result.now c.in_ok-quantised.quantised c.check_beside.result c.job-job.ensures c.in_ok-quantised.ensures c.check_beside.ensures.near
