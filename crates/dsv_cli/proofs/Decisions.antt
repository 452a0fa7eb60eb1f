-- The answers that decide a polynomial, by what is found of it.
use Rattle.std.proofs.Common.{◌≡◌, Bool, false, List, refl}
use Rattle.std.specs.Prelude.{None, Ok, IfSome}
use Rattle.std.proofs.Math.IntN.{ℤ}
use Rattle.dsv_closed_forms.specs.ClosedForm.{closed_form_of, IsAccepted}
use Rattle.dsv_forms.specs.Poly.{IsPoly}
use Rattle.dsv_forms.specs.declared.offers.Falls.{Falls}
use Rattle.dsv_forms.specs.declared.offers.Form.{Form}
use Rattle.dsv_forms.specs.declared.offers.KeptAway.{KeptAway}
use Rattle.dsv_jury.specs.Jury.{jury_of}
use Rattle.dsv_jury.specs.declared.verdict.Jury.{Jury}
use Rattle.dsv_lyapunov.specs.Answers.{offer_in, IsShown}
use Rattle.dsv_lyapunov.specs.Kept.{AreRefused}
use Rattle.dsv_lyapunov.specs.declared.checked_form.CheckedForm.TheVariants as checked
use Rattle.dsv_lyapunov.specs.declared.kept.KeptForm.{KeptForm}
use Rattle.dsv_poly_table.proofs.Recursions.{jury_is_shown}
use Rattle.dsv_report.specs.declared.answers.Answer.TheVariants as answer
use Rattle.dsv_cli.specs.Asking.{IfChecked, IsChecked}
use Rattle.dsv_cli.specs.Causes.{IsDecision}
use Rattle.dsv_cli.specs.declared.forms.FormAnswer.{FormAnswer}
use Rattle.dsv_cli.specs.declared.forms.FormAnswer.TheVariants as form

pub falls_decision : (sc : Bool) (poly : List ℤ) (a : FormAnswer) (offer : Falls) (fall : Form) → form.Checked (checked.Falls offer fall) ≡ a → IfSome (closed_form_of poly) (λ o. IsChecked (Ok a) o)
    → IfChecked a (λ found. IsAccepted poly (offer_in found)) → IfChecked a (IsShown poly) → IsDecision sc poly (Ok (answer.Falls poly offer fall))
falls_decision sc poly a offer fall e closed accepted shown =
    let c = rw (← e) at closed in
    let t = rw (← e) at accepted in
    let s = rw (← e) at shown in
    (refl, record { falls = s.falls; closed_form = c; accepted = t; fall_form = s.fall_form })

pub kept_away_decision : (sc : Bool) (poly : List ℤ) (a : FormAnswer) (offer : KeptAway) (fall : Form) (value : ℤ) → form.Checked (checked.KeptAway offer fall value) ≡ a → IfSome (closed_form_of poly) (λ o. IsChecked (Ok a) o)
    → IfChecked a (λ found. IsAccepted poly (offer_in found)) → IfChecked a (IsShown poly) → IsDecision sc poly (Ok (answer.KeptAway poly offer fall value))
kept_away_decision sc poly a offer fall value e closed accepted shown =
    let c = rw (← e) at closed in
    let t = rw (← e) at accepted in
    let s = rw (← e) at shown in
    (refl, record { kept_away = s.away; closed_form = c; accepted = t; fall_form = s.fall_form; value_at = s.value_at })

pub no_form_decision : (sc : Bool) (poly : List ℤ) (kept : List KeptForm) (verdict : Jury) → sc ≡ false → IsPoly poly → closed_form_of poly ≡ None → AreRefused poly kept → verdict ≡ jury_of poly
    → IsDecision sc poly (Ok (answer.NoForm poly kept verdict))
no_form_decision sc poly kept verdict flag is none refused jury =
    (refl, flag, record { no_closed_form = none; refused = refused; jury = jury; meant = rw jury (jury_is_shown poly is.some is.first) })
