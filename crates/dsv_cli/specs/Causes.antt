-- What properties of roots, sets, timing and generated controllers come to; what needs no proposer
-- is for private contracts.
use Rattle.std.specs.Prelude.{◌≡◌, ◌≤◌, ℕ, Bool, true, false, List, Ok, Err, ℤ}
use Rattle.dsv_names.specs.declared.property.RootProperty.{RootProperty}
use Rattle.dsv_names.specs.declared.property.RootProperty.TheVariants as property
use Rattle.dsv_reader.specs.Controllers.{ControllerView}
use Rattle.dsv_meaning.specs.Equations.{order}
use Rattle.dsv_quantiser.specs.QuantisedView.{QuantisedView}
use Rattle.dsv_tested.specs.Tested.{side_of, tested_of}
use Rattle.dsv_tested.specs.declared.side.Tested.TheVariants as tested
use Rattle.dsv_report.specs.declared.answers.Answer.TheVariants as answer
use Rattle.dsv_report.specs.declared.stop.Stop.TheVariants as stop
use Rattle.dsv_report.specs.Printing.{FormsHavePlaces}
use Rattle.dsv_report.specs.Stops.{Outcome}
use Rattle.dsv_lyapunov.specs.Shown.{ShowsFall, ShowsKeptAway}
use Rattle.dsv_poly_table.specs.Shown.{ShowsNoForm, ShowsTable}
use Rattle.dsv_bounded.specs.RunAnswers.{IsTooLarge}
use Rattle.dsv_generator.specs.Tallies.{IsGeneratedFrom}
use Rattle.dsv_invariant.specs.Limits.{unbounded_samples}
use Rattle.dsv_cli.specs.Gain.{most_gain_samples}
use Rattle.dsv_gain.specs.Subjects.{IsBreakOf}
use Rattle.dsv_gain.specs.Subjects.{outlook_of}
use Rattle.dsv_network.specs.declared.outlook.Outlook.TheVariants as outlook
use Rattle.dsv_realise.specs.Running.{counts_as}
use Rattle.dsv_realise.specs.SubjectView.{SubjectView}
use Rattle.dsv_invariant.specs.Sets.{KeepsTo, NoneIsGood}
use Rattle.dsv_timing.specs.Cycles.{IsTimingOf, IsOnTime}
use Rattle.dsv_realise.specs.Controllers.{of_controller}

-- the answer that decides a polynomial, by its table at last if the flag is set
abbrev pub IsDecision : Bool → List ℤ → Outcome → Type 0
IsDecision schur_cohn poly (Ok (answer.Falls found offer fall)) =
    (found ≡ poly) × ShowsFall found offer fall
IsDecision schur_cohn poly (Ok (answer.KeptAway found offer fall value)) =
    (found ≡ poly) × ShowsKeptAway found offer fall value
IsDecision schur_cohn poly (Ok (answer.NoForm found kept verdict)) =
    (found ≡ poly) × (schur_cohn ≡ false) × ShowsNoForm found kept verdict
IsDecision schur_cohn poly (Ok (answer.OfTable found)) =
    (found.poly ≡ poly) × (schur_cohn ≡ true) × ShowsTable found
IsDecision schur_cohn poly (Err stop.NoMemory) = Unit {0}
IsDecision schur_cohn poly other = ⊥

-- The property tests this polynomial, which comes to this.
pub record IsOfPolynomial (of_property : RootProperty) (schur_cohn : Bool) (q : QuantisedView)
    (found : Outcome) : Type 0 where
  pub poly : List ℤ
  pub tested : tested_of q (side_of of_property) ≡ Ok (tested.Poly poly)
  pub decision : IsDecision schur_cohn poly found

-- what the polynomial that a property tests comes to, or the answer where there is none
abbrev pub IsOfProperty : RootProperty → Bool → QuantisedView → Outcome → Type 0
IsOfProperty of_property schur_cohn q (Ok answer.NoZeros) =
    (of_property ≡ property.MinimumPhase)
    × (tested_of q (side_of of_property) ≡ Ok tested.NoZeros)
IsOfProperty of_property schur_cohn q (Ok (answer.Wide index)) =
    tested_of q (side_of of_property) ≡ Err (record { index = index })
IsOfProperty of_property schur_cohn q found = IsOfPolynomial of_property schur_cohn q found

-- some range leaves the words: a trace breaks the subject, or none that was tried does
abbrev pub IsOfLeft : SubjectView → Outcome → Type 0
IsOfLeft s (Ok (answer.Overflow trace)) = IsBreakOf most_gain_samples s trace
IsOfLeft s (Ok (answer.OutOfRange sample value)) =
    outlook_of s most_gain_samples ≡ outlook.Leaves sample value
IsOfLeft s (Err stop.NoMemory) = Unit {0}
IsOfLeft s other = ⊥

-- the answer on runs of any length, by what proposers offer
abbrev pub IsOfSets : ℕ → QuantisedView → Outcome → Type 0
IsOfSets conflicts q (Ok (answer.Always candidate logs)) =
    KeepsTo q conflicts candidate logs
IsOfSets conflicts q (Ok (answer.NoInvariant kept)) = NoneIsGood q conflicts kept
IsOfSets conflicts q (Err (stop.JobSize size)) = IsTooLarge unbounded_samples (of_controller q) size
IsOfSets conflicts q (Err stop.NoMemory) = Unit {0}
IsOfSets conflicts q other = ⊥

-- what a sample takes, in time or not
abbrev pub IsOfTiming : ControllerView → QuantisedView → Outcome → Type 0
IsOfTiming c q (Ok (answer.OnTime report)) =
    IsTimingOf c (counts_as q.realisation (order q)) report × IsOnTime report
IsOfTiming c q (Ok (answer.Late report)) =
    IsTimingOf c (counts_as q.realisation (order q)) report × (IsOnTime report → ⊥)
IsOfTiming c q (Err stop.NoMemory) = Unit {0}
IsOfTiming c q other = ⊥

-- the answer needs no proposer, and the forms in it have at most eight places
abbrev pub IsPlain : Outcome → Type 0
IsPlain (Ok (answer.OfSections found)) = FormsHavePlaces found
IsPlain (Ok (answer.StateFalls many offer fall)) = (offer.form.d ≤ 8) × (fall.d ≤ 8)
IsPlain (Ok (answer.InEllipsoid offer)) = offer.form.d ≤ 8
IsPlain (Ok (answer.Falls poly offer fall)) = ⊥
IsPlain (Ok (answer.KeptAway poly offer fall value)) = ⊥
IsPlain (Ok (answer.NoForm poly kept verdict)) = ⊥
IsPlain (Ok (answer.Always candidate logs)) = ⊥
IsPlain (Ok (answer.NoInvariant kept)) = ⊥
IsPlain other = Unit {0}

-- What is found of generated controllers: each is one of the seed's, and each finding is so.
abbrev pub IsOfGeneration : ℕ → ℕ → Outcome → Type 0
IsOfGeneration seed count (Ok (answer.Generated found)) = IsGeneratedFrom seed count found
IsOfGeneration seed count (Err stop.NoMemory) = Unit {0}
IsOfGeneration seed count other = ⊥
