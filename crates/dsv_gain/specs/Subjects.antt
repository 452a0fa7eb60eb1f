-- What a gain says of a subject's runs, of any length.
use Rattle.std.specs.Prelude.{◌≡◌, ℕ, List}
use Rattle.dsv_gain.specs.Narrowing.{gain_of}
use Rattle.dsv_gain.specs.Safe.{HoldsBy, NeverBy}
use Rattle.dsv_network.specs.declared.outlook.Gain.{Gain}
use Rattle.dsv_network.specs.declared.outlook.Outlook.{Outlook}
use Rattle.dsv_network.specs.declared.outlook.Outlook.TheVariants as outlook
use Rattle.dsv_linear.specs.declared.range.Range.{Range}
use Rattle.dsv_meaning.specs.declared.replays.Trace.{Trace}
use Rattle.dsv_realise.specs.Runs.{IsTrace}
use Rattle.dsv_realise.specs.SubjectView.{SubjectView}

-- what so many samples show
abbrev pub outlook_of : SubjectView → ℕ → Outlook
outlook_of s limit = gain_of s.net s.low s.high limit

-- in each run from registers of zeros, over inputs in range, of any length, each exact value of
-- each sample lies in its range, whose ends are words
abbrev pub HoldsAlways : SubjectView → List Range → Type 0
HoldsAlways s ranges = HoldsBy s.runs s.low s.high ranges

-- no list of inputs in range breaks it, however long
abbrev pub NeverOverflows : SubjectView → Type 0
NeverOverflows s = NeverBy s.runs s.low s.high

-- the most inputs of a list that is tried
abbrev pub most_driven : ℕ
most_driven = 4096

-- The gain is what is found of so many samples: in every run from registers of zeros, over inputs
-- in range, of any length, each exact value of each sample lies in its range, whose ends are words.
pub record IsGainOf (samples : ℕ) (s : SubjectView) (gain : Gain) : Type 0 where
  pub found : outlook_of s samples ≡ outlook.Safe gain
  pub holds : HoldsAlways s gain.ranges
  pub never : NeverOverflows s

-- Some range of so many samples leaves the words, and the trace replays in the subject's equations.
pub record IsBreakOf (samples : ℕ) (s : SubjectView) (trace : Trace) : Type 0 where
  pub sample : ℕ
  pub value : ℕ
  pub left : outlook_of s samples ≡ outlook.Leaves sample value
  pub replays : IsTrace s most_driven trace
