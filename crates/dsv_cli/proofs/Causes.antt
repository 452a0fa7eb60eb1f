-- What a tested polynomial comes to.
use Rattle.std.proofs.Common.{◌≡◌, List}
use Rattle.std.specs.Prelude.{Bool, Ok, ℤ}
use Rattle.dsv_names.specs.declared.property.RootProperty.{RootProperty}
use Rattle.dsv_quantiser.specs.QuantisedView.{QuantisedView}
use Rattle.dsv_report.specs.declared.answers.Answer.TheVariants as answer
use Rattle.dsv_report.specs.Stops.{Outcome}
use Rattle.dsv_tested.specs.Tested.{side_of, tested_of}
use Rattle.dsv_tested.specs.declared.side.Tested.TheVariants as tested
use Rattle.dsv_cli.specs.Causes.{IsDecision, IsOfProperty}

-- what a tested polynomial comes to is what its property does
pub property_of : (p : RootProperty) (sc : Bool) (quantised : QuantisedView) (poly : List ℤ) (found : Outcome) → tested_of quantised (side_of p) ≡ Ok (tested.Poly poly) → IsDecision sc poly found → IsOfProperty p sc quantised found
property_of p sc quantised poly (Ok answer.NoZeros) e h = absurd h
property_of p sc quantised poly (Ok (answer.Wide index)) e h = absurd h
property_of p sc quantised poly found e h = record { poly = poly; tested = e; decision = h }
