-- What the closed forms say of the poles of a cascade's sections.
use Rattle.std.specs.Prelude.{◌≡◌, ℕ, ◌<◌, ◌≤◌, List, [], ◌∷◌, take, slice_get}
use Rattle.std.specs.Prelude.{Some, None, Ok, Err, ℤ}
use Rattle.std.specs.List.{All}
use Rattle.std.specs.Int.RustNames.{unsigned_abs}
use Rattle.dsv_quantiser.specs.QuantisedView.{QuantisedView}
use Rattle.dsv_forms.specs.declared.offers.FormOffer.TheVariants as offered
use Rattle.dsv_closed_forms.specs.ClosedForm.{closed_form_of, second_limit}
use Rattle.dsv_lyapunov.specs.Answers.{IsStable, IsKeptAwayFrom}
use Rattle.dsv_tested.specs.Tested.{tested_of}
use Rattle.dsv_tested.specs.declared.side.Side.TheVariants as side
use Rattle.dsv_tested.specs.declared.side.Tested.TheVariants as tested
use Rattle.dsv_cascade.specs.declared.stability.SectionOffer.{SectionOffer}
use Rattle.dsv_cascade.specs.declared.stability.CascadeForms.{CascadeForms}
use Rattle.dsv_cascade.specs.declared.stability.CascadeForms.TheVariants as forms
use Rattle.dsv_cascade.specs.declared.stability.SectionFault.{SectionFault}
use Rattle.dsv_cascade.specs.declared.stability.SectionFault.TheVariants as fault

-- this is the polynomial whose roots are the section's poles
abbrev pub HasPoly : QuantisedView → List ℤ → Type 0
HasPoly q poly = tested_of q side.Denominator ≡ Ok (tested.Poly poly)

-- The closed form of the section's polynomial strictly falls along each of its trajectories.
pub record IsStableSection (q : QuantisedView) (s : SectionOffer) : Type 0 where
  pub poly_of : HasPoly q s.poly
  pub closed : closed_form_of s.poly ≡ Some (offered.Falls s.offer)
  pub stable : IsStable s.poly s.offer.form s.fall

-- each section is stable by the offer at its place
abbrev pub AreStable : List QuantisedView → List SectionOffer → Type 0
AreStable [] [] = Unit {0}
AreStable (q ∷ qs) (s ∷ ss) = IsStableSection q s × AreStable qs ss
AreStable _ _ = ⊥

-- the section is stable by some offer
abbrev pub IsStableAlone : QuantisedView → Type 0
IsStableAlone q = (s : SectionOffer) × IsStableSection q s

-- The section of this number is the first that isn't shown to be stable.
pub record IsFirstUnstable (sections : List QuantisedView) (section : ℕ) (q : QuantisedView) :
    Type 0 where
  pub here : slice_get sections section ≡ Some q
  pub before : All IsStableAlone (take section sections)

-- the number at this index is the first that is over 2^23 in size, which is the most of order 2
abbrev pub IsFirstOver : List ℤ → ℕ → Type 0
IsFirstOver poly index = (c : ℤ) × (slice_get poly index ≡ Some c)
    × (second_limit < unsigned_abs c)
    × All (λ d. unsigned_abs d ≤ second_limit) (take index poly)

-- the section's polynomial has no closed form, since the number at this index is too great
abbrev pub HasNoClosedForm : QuantisedView → ℕ → Type 0
HasNoClosedForm q index = (poly : List ℤ) × HasPoly q poly × (closed_form_of poly ≡ None)
    × IsFirstOver poly index

-- why the section isn't shown to be stable: its closed form is kept away from 0, a number on the
-- way to its polynomial is too wide, or it has no closed form
abbrev pub HasFault : QuantisedView → SectionFault → Type 0
HasFault q (fault.KeptAway poly offer fall value) = HasPoly q poly
    × (closed_form_of poly ≡ Some (offered.KeptAway offer))
    × IsKeptAwayFrom poly offer.form offer.start fall value
HasFault q (fault.Wide index) = tested_of q side.Denominator ≡ Err (record { index = index })
HasFault q (fault.NoClosedForm index) = HasNoClosedForm q index

-- What is found of the sections, judged in their order: all are stable, or this is the first that
-- isn't shown to be, and why.
abbrev pub AreJudged : List QuantisedView → CascadeForms → Type 0
AreJudged sections (forms.Falls offers) = AreStable sections offers
AreJudged sections (forms.NotAll section fault) = (q : QuantisedView)
    × IsFirstUnstable sections section q × HasFault q fault
