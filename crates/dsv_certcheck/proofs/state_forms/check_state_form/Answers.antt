use Rattle.std.proofs.Common.{rules, ◌≡◌, ◌∙◌, sym, ap, true, if◌then◌else◌}
use Rattle.dsv_certfile.specs.declared.fault.CheckFault.TheVariants as fault
use Rattle.dsv_certcheck.specs.Checks.{refused}
use Rattle.dsv_certcheck.specs.LineNumbers.{job_line_number}
use Rattle.dsv_certcheck.specs.StateChecks.{is_stability, state_offer_check, state_check}
use Rattle.dsv_certcheck.proofs.state_forms.check_state_form.Goals as goal

pub returns-in-Falls-clause-found : goal.returns-in-Falls-clause-found
returns-in-Falls-clause-found c =
    let f = c.in-Falls in
    let s = c.args.system.now in
    let stable : is_stability f.job.property ≡ true = search rules in
    c.check_state_offer.ensures.found
    ∙ ap (λ b. if b then state_offer_check f.job.words s f.offer else refused job_line_number fault.Shape) (sym stable)
    ∙ ap (state_check s) (sym f.is)
