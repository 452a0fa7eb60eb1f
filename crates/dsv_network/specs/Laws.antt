-- What is shown of the runs of networks, of any length.
use Rattle.std.specs.Prelude.{◌≡◌, ℕ, suc, ◌<◌, ◌≤◌, List, [], length, take, Some, ℤ, pos, ◌<ℤ◌}
use Rattle.std.specs.List.{All}
use Rattle.dsv_system.specs.Systems.{zeros}
use Rattle.dsv_linear.specs.declared.range.Range.{Range}
use Rattle.dsv_network.specs.declared.network.Network.{Network}
use Rattle.dsv_network.specs.declared.outlook.Gain.{Gain}
use Rattle.dsv_network.specs.declared.outlook.Outlook.TheVariants as outlook
use Rattle.dsv_network.specs.Gains.{gain_of, ranges_of}
use Rattle.dsv_network.specs.Runs.{Fits, RunsGiven, shown_in, ShowsIn, AreIn, Keeps}

-- over every denominator over which zeros lie in the starts, and these are kept: in each run from
-- registers of zeros, of any length, what each sample shows lies in these ranges
abbrev pub HoldInRuns : Network → List Range → List Range → Type 0
HoldInRuns net starts ranges = (over : ℤ) → pos 0 <ℤ over → Keeps net over starts ranges
    → AreIn over starts (zeros (length net.next)) → (samples : List (List ℤ))
    → RunsGiven net over (zeros (length net.next)) samples → All (ShowsIn net over ranges) samples

-- the ranges of a depth
abbrev pub RangesHold : Type 0
RangesHold = (net : Network) (starts : List Range) (depth : ℕ) (ranges : List Range)
    → ranges_of net starts depth ≡ Some ranges → HoldInRuns net starts ranges

-- those of a gain, whatever the limit
abbrev pub GainsHold : Type 0
GainsHold = (net : Network) (starts : List Range) (limit : ℕ) (gain : Gain)
    → gain_of net starts limit ≡ outlook.Safe gain → HoldInRuns net starts gain.ranges

-- as many samples as its depth and one more show that there is one, whatever the limit was
abbrev pub GainsAreFoundAgain : Type 0
GainsAreFoundAgain = (net : Network) (starts : List Range) (limit : ℕ) (gain : Gain)
    → gain_of net starts limit ≡ outlook.Safe gain
    → (g : Gain) × (gain_of net starts (suc gain.depth) ≡ outlook.Safe g)

-- the samples that showed it are below the limit
abbrev pub IsWithin : ℕ → Gain → Type 0
IsWithin limit gain = (gain.depth ≤ gain.settled) × (gain.settled < limit)

abbrev pub GainsAreWithin : Type 0
GainsAreWithin = (net : Network) (starts : List Range) (limit : ℕ) (gain : Gain)
    → gain_of net starts limit ≡ outlook.Safe gain → IsWithin limit gain

-- what a sample shows is from the least to the greatest word
abbrev pub AreFit : Network → ℤ → List ℤ → Type 0
AreFit net over values = All (Fits net.format over) (shown_in [] net.nodes values)

-- The depth of a gain: from any registers in the starts, what the sample after so many shows are
-- words, or numbers between them, if it is so of all samples before it.
abbrev pub DepthsForgetStarts : Type 0
DepthsForgetStarts = (net : Network) (starts : List Range) (limit : ℕ) (gain : Gain)
    → gain_of net starts limit ≡ outlook.Safe gain → length starts ≡ length net.next
    → (over : ℤ) → pos 0 <ℤ over → (registers : List ℤ) (samples : List (List ℤ))
    → AreIn over starts registers → RunsGiven net over registers samples
    → All (AreFit net over) (take gain.depth samples)
    → All (AreFit net over) (take (suc gain.depth) samples)
