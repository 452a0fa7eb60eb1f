-- What is known of a polynomial that no form of a search decides.
use Rattle.std.specs.Prelude.{◌≡◌, ◌≤◌, List, length, None, ℤ}
use Rattle.dsv_forms.specs.Poly.{most_coefficients}
use Rattle.dsv_closed_forms.specs.ClosedForm.{closed_form_of}
use Rattle.dsv_jury.specs.Jury.{jury_of}
use Rattle.dsv_jury.specs.declared.verdict.Jury.{Jury}
use Rattle.dsv_lyapunov.specs.Kept.{AreRefused}
use Rattle.dsv_lyapunov.specs.declared.kept.KeptForm.{KeptForm}
use Rattle.dsv_table.specs.Findings.{IsFinding}
use Rattle.dsv_table.specs.declared.finding.TableFinding.{TableFinding}
use Rattle.dsv_poly_table.specs.Recursion.{IsJuryShown}

-- The polynomial has no closed form, each offer that was kept is refused for its reason, and the
-- verdict is that of Jury's recursion, with a form that shows what it says, unless a number was too
-- wide for it.
pub record ShowsNoForm (poly : List ℤ) (kept : List KeptForm) (verdict : Jury) : Type 0 where
  pub no_closed_form : closed_form_of poly ≡ None
  pub refused : AreRefused poly kept
  pub jury : verdict ≡ jury_of poly
  pub meant : IsJuryShown verdict poly

-- The polynomial, of order 8 at most, has no closed form, and this is found of it by its table,
-- with a form that shows the verdict.
pub record ShowsTable (found : TableFinding) : Type 0 where
  pub no_closed_form : closed_form_of found.poly ≡ None
  pub finding : IsFinding found.poly found
  pub few : length found.poly ≤ most_coefficients
