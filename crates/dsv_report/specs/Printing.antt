-- What the writers of answers ask of them; private contracts alone cite it.
use Rattle.std.specs.Prelude.{◌≤◌}
use Rattle.std.specs.List.{All}
use Rattle.dsv_cascade.specs.declared.stability.CascadeForms.{CascadeForms}
use Rattle.dsv_cascade.specs.declared.stability.CascadeForms.TheVariants as forms
use Rattle.dsv_cascade.specs.declared.stability.SectionFault.{SectionFault}
use Rattle.dsv_cascade.specs.declared.stability.SectionFault.TheVariants as fault
use Rattle.dsv_cascade.specs.declared.stability.SectionOffer.{SectionOffer}
use Rattle.dsv_report.specs.declared.answers.Answer.{Answer}
use Rattle.dsv_report.specs.declared.answers.Answer.TheVariants as answer

-- so have those of a section that is stable
abbrev pub SectionHasPlaces : SectionOffer → Type 0
SectionHasPlaces s = (s.offer.form.d ≤ 8) × (s.fall.d ≤ 8)

abbrev pub FaultHasPlaces : SectionFault → Type 0
FaultHasPlaces (fault.KeptAway poly offer fall value) = (offer.form.d ≤ 8) × (fall.d ≤ 8)
FaultHasPlaces (fault.Wide index) = Unit {0}
FaultHasPlaces (fault.NoClosedForm index) = Unit {0}

abbrev pub FormsHavePlaces : CascadeForms → Type 0
FormsHavePlaces (forms.Falls offers) = All SectionHasPlaces offers
FormsHavePlaces (forms.NotAll section found) = FaultHasPlaces found

-- the forms of an answer have at most eight places
abbrev pub HasPlaces : Answer → Type 0
HasPlaces (answer.Falls poly offer fall) = (offer.form.d ≤ 8) × (fall.d ≤ 8)
HasPlaces (answer.KeptAway poly offer fall value) = (offer.form.d ≤ 8) × (fall.d ≤ 8)
HasPlaces (answer.OfTable found) = Unit {0}
HasPlaces (answer.OfSections found) = FormsHavePlaces found
HasPlaces (answer.OfSectionTables found) = Unit {0}
HasPlaces (answer.StateFalls states offer fall) = (offer.form.d ≤ 8) × (fall.d ≤ 8)
HasPlaces answer.NoStateForm = Unit {0}
HasPlaces answer.NoZeros = Unit {0}
HasPlaces (answer.NoForm poly kept verdict) = Unit {0}
HasPlaces (answer.Wide index) = Unit {0}
HasPlaces (answer.OnTime report) = Unit {0}
HasPlaces (answer.Late report) = Unit {0}
HasPlaces (answer.Never log) = Unit {0}
HasPlaces (answer.Always candidate logs) = Unit {0}
HasPlaces (answer.NoInvariant kept) = Unit {0}
HasPlaces (answer.InRanges gain error) = Unit {0}
HasPlaces (answer.InEllipsoid offer) = offer.form.d ≤ 8
HasPlaces (answer.FoundEllipsoid offer) = Unit {0}
HasPlaces answer.NoEllipsoid = Unit {0}
HasPlaces (answer.OutOfRange sample value) = Unit {0}
HasPlaces (answer.TooDeep depth) = Unit {0}
HasPlaces (answer.Overflow trace) = Unit {0}
HasPlaces (answer.Cycles cycle) = Unit {0}
HasPlaces (answer.Spent log) = Unit {0}
HasPlaces (answer.FormulaText formula) = Unit {0}
HasPlaces (answer.Simulated found) = Unit {0}
HasPlaces (answer.Outputs found) = Unit {0}
HasPlaces (answer.Code text) = Unit {0}
HasPlaces answer.Words = Unit {0}
HasPlaces (answer.Generated found) = Unit {0}
HasPlaces (answer.Checked job error) = Unit {0}
