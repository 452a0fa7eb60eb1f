-- What tables say of the poles of sections in series.
use Rattle.std.specs.Prelude.{◌≡◌, ℕ, List, [], ◌∷◌, take, slice_get, false, Some, Ok, Err}
use Rattle.dsv_quantiser.specs.QuantisedView.{QuantisedView}
use Rattle.dsv_table.specs.Findings.{IsFinding}
use Rattle.dsv_table.specs.RootSize.{is_inside}
use Rattle.dsv_table.specs.declared.finding.TableFinding.{TableFinding}
use Rattle.dsv_table.specs.declared.verdict.TableVerdict.TheVariants as verdict
use Rattle.dsv_tested.specs.Tested.{tested_of}
use Rattle.dsv_tested.specs.declared.side.Side.TheVariants as side
use Rattle.dsv_tested.specs.declared.side.Tested.TheVariants as tested
use Rattle.dsv_poly_table.specs.declared.sections.SectionTables.{SectionTables}
use Rattle.dsv_poly_table.specs.declared.sections.SectionTables.TheVariants as tables

-- The finding is that of the polynomial whose roots are the section's poles.
pub record IsOfPoles (q : QuantisedView) (found : TableFinding) : Type 0 where
  pub poles : tested_of q side.Denominator ≡ Ok (tested.Poly found.poly)
  pub finding : IsFinding found.poly found

-- the table of the section's polynomial has positive first numbers alone
abbrev pub IsInsideSection : QuantisedView → TableFinding → Type 0
IsInsideSection q found = IsOfPoles q found × (found.verdict ≡ verdict.Inside)

-- so have those of all sections, each with the finding at its place
abbrev pub AreInside : List QuantisedView → List TableFinding → Type 0
AreInside [] [] = Unit {0}
AreInside (q ∷ qs) (f ∷ fs) = IsInsideSection q f × AreInside qs fs
AreInside _ _ = ⊥

-- The section of this number is the first whose table isn't seen to be inside.
pub record IsFirstOther (sections : List QuantisedView) (section : ℕ) (q : QuantisedView) :
    Type 0 where
  pub here : slice_get sections section ≡ Some q
  pub findings : List TableFinding
  pub before : AreInside (take section sections) findings

-- What is found of the sections in their order: all tables are inside, or the first that isn't is
-- this one, or a number on the way to the first polynomial without a table is too wide.
abbrev pub AreTabled : List QuantisedView → SectionTables → Type 0
AreTabled sections (tables.Inside findings) = AreInside sections findings
AreTabled sections (tables.NotInside section found) = (q : QuantisedView)
    × IsFirstOther sections section q × IsOfPoles q found × (is_inside found.verdict ≡ false)
AreTabled sections (tables.Wide section index) = (q : QuantisedView)
    × IsFirstOther sections section q
    × (tested_of q side.Denominator ≡ Err (record { index = index }))
