use Rattle.std.proofs.Common.{sym}
use Rattle.dsv_report.proofs.reasons.put_reason.Goals as goal

pub returns-in-Twice : goal.returns-in-Twice
returns-in-Twice g c = rw c.in-Twice.is c.put_key_and.ensures

pub returns-in-TakesNone : goal.returns-in-TakesNone
returns-in-TakesNone g c = rw (c.in-TakesNone.is, sym c.as_bytes-in-TakesNone.ensures.value) c.put_option_and.ensures

pub returns-in-WantsForm : goal.returns-in-WantsForm
returns-in-WantsForm g c = rw c.in-WantsForm.is c.put_all.ensures

pub returns-in-NoTask : goal.returns-in-NoTask
returns-in-NoTask g c = rw c.in-NoTask.is c.put_all-in-NoTask.ensures
