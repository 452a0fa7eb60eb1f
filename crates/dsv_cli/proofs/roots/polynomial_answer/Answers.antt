use Rattle.std.proofs.Common.{rules, ◌≡◌}
use Rattle.std.specs.Prelude.{None}
use Rattle.std.proofs.lemmas.Int.{to_z-of_z}
use mir.Syntax.{w128}
use mir.Val.{SFits}
use Rattle.dsv_closed_forms.specs.ClosedForm.{closed_form_of}
use Rattle.dsv_forms.specs.Poly.{IsPoly}
use Rattle.dsv_jury.specs.Jury.{jury_of}
use Rattle.dsv_lyapunov.specs.Kept.{AreRefused}
use Rattle.dsv_cli.proofs.Decisions.{falls_decision, kept_away_decision, no_form_decision}
use Rattle.dsv_cli.proofs.roots.polynomial_answer.Goals as goal

pub returns-in-Checked-Falls-clause-decision : goal.returns-in-Checked-Falls-clause-decision
returns-in-Checked-Falls-clause-decision g c =
    let found = c.in_ok-offer.ensures in
    let f = c.in-Checked-Falls in
    rw (f.offer-is, f.fall-is) (falls_decision c.args.schur_cohn c.args.poly c.in_ok-offer.field-0 f.offer f.fall (search rules) found.closed found.accepted found.shown)

pub returns-in-Checked-KeptAway-clause-decision : goal.returns-in-Checked-KeptAway-clause-decision
returns-in-Checked-KeptAway-clause-decision g c =
    let found = c.in_ok-offer.ensures in
    let f = c.in-Checked-KeptAway in
    let fits : SFits w128 f.value = search rules in
    rw (f.offer-is, f.fall-is, f.value-is, to_z-of_z w128 f.value fits) (kept_away_decision c.args.schur_cohn c.args.poly c.in_ok-offer.field-0 f.offer f.fall f.value (search rules) found.closed found.accepted found.shown)

pub returns-in-NoForm-2-clause-decision : goal.returns-in-NoForm-2-clause-decision
returns-in-NoForm-2-clause-decision g c =
    let poly = c.args.poly in
    let f = c.in-NoForm in
    let is : IsPoly poly = search rules in
    let none : closed_form_of poly ≡ None = search rules in
    let refused : AreRefused poly f.kept = search rules in
    let jury : f.jury ≡ jury_of poly = search rules in
    no_form_decision c.args.schur_cohn poly f.kept f.jury c.if-schur_cohn.false is none refused jury
