-- For private contracts: why what is asked of generated controllers is always decided.
use Rattle.std.specs.Prelude.{◌≡◌, ℕ, true, List, length, Ok, Some, ℤ}
use Rattle.dsv_names.specs.declared.realisation.Realisation.TheVariants.{Dfi}
use Rattle.dsv_quantiser.specs.QuantisedView.{QuantisedView}
use Rattle.dsv_forms.specs.declared.offers.FormOffer.{FormOffer}
use Rattle.dsv_closed_forms.specs.ClosedForm.{closed_form_of, are_within}
use Rattle.dsv_tested.specs.Tested.{tested_of}
use Rattle.dsv_tested.specs.declared.side.Side.{Side}
use Rattle.dsv_tested.specs.declared.side.Tested.{Tested}
use Rattle.dsv_tested.specs.declared.side.Tested.TheVariants as tested
use Rattle.dsv_generator.specs.Controllers.{IsGeneratedFormat}

-- the greatest size of a word
abbrev pub greatest_size : ℕ
greatest_size = 32

-- Three words, none of them greater.
pub record AreSmall (words : List ℤ) : Type 0 where
  pub places : length words ≡ 3
  pub within : are_within greatest_size words ≡ true

-- A quantised controller of the generated format, in direct form I, of order 2, with small words.
pub record IsSmall (q : QuantisedView) : Type 0 where
  pub format : IsGeneratedFormat q.format
  pub realisation : q.realisation ≡ Dfi
  pub numerator : AreSmall q.b
  pub denominator : AreSmall q.a

-- there is a closed form for what is tested, where it is a polynomial
abbrev pub IsClosed : Tested → Type 0
IsClosed tested.NoZeros = Unit {0}
IsClosed (tested.Poly poly) = (offer : FormOffer) × (closed_form_of poly ≡ Some offer)

-- what is tested of the side has a closed form
abbrev pub HasClosedForm : QuantisedView → Side → Type 0
HasClosedForm q of_side = (found : Tested) × (tested_of q of_side ≡ Ok found) × IsClosed found
