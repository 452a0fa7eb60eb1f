-- What the ranges of a gain say.
use Rattle.std.specs.Prelude.{◌≡◌, ℕ, suc, ◌<◌, List, [], ◌∷◌, length, take, ℤ}
use Rattle.std.specs.List.{All}
use Rattle.dsv_word.specs.declared.format.Format.{Format}
use Rattle.dsv_word.specs.Words.{IsWord}
use Rattle.dsv_system.specs.Breaks.{Breaks, IsInside}
use Rattle.dsv_system.specs.Systems.{Behaviour, rows, zeros, AreInRange}
use Rattle.dsv_netlist.specs.Nodes.{Net, at}
use Rattle.dsv_netlist.specs.Systems.{system_of, runs_of}
use Rattle.dsv_netlist.specs.Conditions.{IsNetlist}
use Rattle.dsv_linear.specs.Facts.{Between, LiesWithin}
use Rattle.dsv_linear.specs.declared.range.Range.{Range}
use Rattle.dsv_network.specs.declared.outlook.Gain.{Gain}
use Rattle.dsv_network.specs.declared.outlook.Outlook.{Outlook}
use Rattle.dsv_network.specs.declared.outlook.Outlook.TheVariants as outlook
use Rattle.dsv_gain.specs.Gains.{past_range, pasts}
use Rattle.dsv_gain.specs.Narrowing.{gain_of}

-- each value lies in its range, whose ends are words
abbrev pub LieWithin : Format → List Range → List ℤ → Type 0
LieWithin format [] [] = Unit {0}
LieWithin format [] (v ∷ values) = ⊥
LieWithin format (r ∷ ranges) [] = ⊥
LieWithin format (r ∷ ranges) (v ∷ values) =
    LiesWithin format r.low r.high v × LieWithin format ranges values

-- in each run from registers of zeros, over inputs in range, of any length, each exact value of
-- each sample lies in its range, whose ends are words
abbrev pub HoldsBy : Behaviour → ℤ → ℤ → List Range → Type 0
HoldsBy b low high ranges = (xs : List ℤ) → AreInRange low high xs
    → All (λ r. LieWithin b.format ranges r.exact) (b.rows (zeros b.many) xs)

-- no list of inputs in range breaks, however long
abbrev pub NeverBy : Behaviour → ℤ → ℤ → Type 0
NeverBy b low high = (xs : List ℤ) → Breaks b low high xs → ⊥

-- the same of a netlist
abbrev pub HoldInRuns : Net → ℤ → ℤ → List Range → Type 0
HoldInRuns net low high ranges = HoldsBy (runs_of net) low high ranges

abbrev pub NeverBreaks : Net → ℤ → ℤ → Type 0
NeverBreaks net low high = NeverBy (runs_of net) low high

-- what is said of the gain, where a search found one
abbrev pub IfSafe : Outlook → (Gain → Type 0) → Type 0
IfSafe (outlook.Safe gain) P = P gain
IfSafe (outlook.Leaves sample value) P = Unit {0}
IfSafe outlook.Deep P = Unit {0}

-- over inputs that are words, whatever the limit
abbrev pub GainsAreSafe : Type 0
GainsAreSafe = (net : Net) (low high : ℤ) (limit : ℕ) (gain : Gain) → IsNetlist net
    → IsWord net.format low → IsWord net.format high
    → gain_of net low high limit ≡ outlook.Safe gain → HoldInRuns net low high gain.ranges

-- as many samples as its depth and one more show that there is one, whatever the limit was
abbrev pub GainsAreFoundAgain : Type 0
GainsAreFoundAgain = (net : Net) (low high : ℤ) (limit : ℕ) (gain : Gain)
    → gain_of net low high limit ≡ outlook.Safe gain
    → (g : Gain) × (gain_of net low high (suc gain.depth) ≡ outlook.Safe g)

-- ---- what a depth is
-- a number from the least to the greatest input, or 0
abbrev pub IsPast : ℤ → ℤ → ℤ → Type 0
IsPast low high v = Between (past_range low high).low (past_range low high).high v

-- as many words as there are registers; those that hold inputs of earlier samples hold past inputs
pub record AreRegisters (net : Net) (low high : ℤ) (registers : List ℤ) : Type 0 where
  pub many : length registers ≡ length net.next
  pub words : All (IsWord net.format) registers
  pub past : (k : ℕ) → k < pasts net → IsPast low high (at registers k)

-- the exact values of the first so many samples of a run from these registers are words
abbrev pub AreInsideFor : Net → List ℤ → List ℤ → ℕ → Type 0
AreInsideFor net registers xs samples =
    All (IsInside net.format) (take samples (rows (system_of net) registers xs))

-- The depth of a gain: from any such registers, over inputs in range, the exact values of the
-- sample after so many are words, if those of all samples before it are.
abbrev pub DepthsForgetStarts : Type 0
DepthsForgetStarts = (net : Net) (low high : ℤ) (limit : ℕ) (gain : Gain) → IsNetlist net
    → IsWord net.format low → IsWord net.format high
    → gain_of net low high limit ≡ outlook.Safe gain
    → (registers xs : List ℤ) → AreRegisters net low high registers → AreInRange low high xs
    → AreInsideFor net registers xs gain.depth → AreInsideFor net registers xs (suc gain.depth)
