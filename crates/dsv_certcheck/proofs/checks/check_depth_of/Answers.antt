use Rattle.std.proofs.Common.{sym, subst, Option, Result, IfOk}
use Rattle.dsv_gain.specs.declared.roundoff.ShownError.{ShownError}
use Rattle.dsv_certcheck.specs.Shown.{ShowsNear}
use Rattle.dsv_certcheck.specs.declared.check_refusal.CheckRefusal.{CheckRefusal}
use Rattle.dsv_certcheck.proofs.Nearness.{near_beside}
use Rattle.dsv_certcheck.proofs.checks.check_depth_of.Goals.{in-Safe, in-Leaves}
use Rattle.dsv_certcheck.proofs.checks.check_depth_of.Goals as goal

pub returns-clause-near : goal.returns-clause-near
returns-clause-near c =
    let q = c.args.asking.now.subject.now in
    let offer = c.args.offer.now in
    let outlook = c.in_ok-gain in
    elim c.match-branch-2.branch [
      | in-Safe w ↦
          subst (λ (r : Result (Option ShownError) CheckRefusal). IfOk r (ShowsNear q offer)) (sym w.result-is)
          (near_beside q outlook.field-0 w.in-Safe.field-0 offer w.check_error.result w.in-Safe.is outlook.ensures.holds w.check_error.ensures.near)
      | in-Leaves w ↦ subst (λ (r : Result (Option ShownError) CheckRefusal). IfOk r (ShowsNear q offer)) (sym w.result-is) tt
    ]
