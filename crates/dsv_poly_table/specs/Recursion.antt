-- What the verdict of Jury's recursion on a polynomial means.
use Rattle.std.specs.Prelude.{◌-◌, ◌<◌, List, length, ℤ, pos, ◌<ℤ◌}
use Rattle.dsv_algebra.specs.Vectors.{vector_of}
use Rattle.dsv_jury.specs.Jury.{jury_of}
use Rattle.dsv_jury.specs.declared.verdict.Jury.{Jury}
use Rattle.dsv_jury.specs.declared.verdict.Jury.TheVariants as verdict
use Rattle.dsv_table.specs.Verdicts.{HasFallingForm, HasKeptAwayForm}

-- What a verdict says of the polynomial c_0 to c_N: all roots are inside the circle, which a form
-- shows that strictly falls along each trajectory; or not all are, which one shows that keeps a
-- trajectory away from 0. That a number was too wide says nothing.
abbrev pub IsJuryShown : Jury → List ℤ → Type 0
IsJuryShown verdict.Inside c = HasFallingForm (length c - 1) (vector_of c)
IsJuryShown (verdict.NotInside row) c = HasKeptAwayForm (length c - 1) (vector_of c)
IsJuryShown (verdict.Wide row) c = Unit {0}

-- What Jury's recursion says of a polynomial with a positive lead is so.
abbrev pub JuryIsShown : Type 0
JuryIsShown = (c : List ℤ) → 0 < length c → pos 0 <ℤ vector_of c 0 → IsJuryShown (jury_of c) c
