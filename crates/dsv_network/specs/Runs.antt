-- The runs of a network: numbers that stand for fractions over one denominator.
use Rattle.std.specs.Prelude.{◌≡◌, ◌^◌, List, [], ◌∷◌, ◌++◌, map, ℤ, pos}
use Rattle.std.specs.Prelude.{◌+ℤ◌, ◌-ℤ◌, ◌*ℤ◌}
use Rattle.dsv_word.specs.declared.format.Format.{Format}
use Rattle.dsv_word.specs.Words.{IsWord, width, lo, hi}
use Rattle.dsv_netlist.specs.Nodes.{at}
use Rattle.dsv_linear.specs.Facts.{Between}
use Rattle.dsv_linear.specs.Meaning.{LiesIn}
use Rattle.dsv_linear.specs.declared.range.Range.{Range}
use Rattle.dsv_network.specs.declared.signal.NearQuotient.{NearQuotient}
use Rattle.dsv_network.specs.declared.signal.Signal.{Signal}
use Rattle.dsv_network.specs.declared.signal.Signal.TheVariants.{Outer, Register, Product}
use Rattle.dsv_network.specs.declared.signal.Signal.TheVariants.{Sum, Difference}
use Rattle.dsv_network.specs.declared.signal.Signal.TheVariants.{Near, Checked, Shown}
use Rattle.dsv_network.specs.declared.network.Network.{Network}

-- w over a denominator is near v over it divided by d: 2^bits (d w - v) / d is from the least to
-- the greatest error
abbrev pub IsNear : NearQuotient → ℤ → ℤ → ℤ → Type 0
IsNear near over v w = Between (pos near.divisor *ℤ (over *ℤ near.errors.low))
    (pos near.divisor *ℤ (over *ℤ near.errors.high))
    (pos (2 ^ near.bits) *ℤ (pos near.divisor *ℤ w -ℤ v))

-- a number over a denominator is from the least to the greatest word
abbrev pub Fits : Format → ℤ → ℤ → Type 0
Fits format over v = Between (over *ℤ lo (width format)) (over *ℤ hi (width format)) v

-- a number over a denominator is whole, and passes unchanged as long as it is a word
pub record IsChecked (format : Format) (over v w : ℤ) : Type 0 where
  pub whole : ℤ
  pub is : v ≡ over *ℤ whole
  pub same : Fits format over v → w ≡ v

-- a node gives w, where these are the numbers of the registers and of the nodes before it
abbrev pub IsGiven : Format → ℤ → List ℤ → List ℤ → Signal → ℤ → Type 0
IsGiven format over registers values (Outer range) w = LiesIn over range w
IsGiven format over registers values (Register register) w = w ≡ at registers register
IsGiven format over registers values (Product coeff of) w = w ≡ coeff *ℤ at values of
IsGiven format over registers values (Sum left right) w = w ≡ at values left +ℤ at values right
IsGiven format over registers values (Difference left right) w =
    w ≡ at values left -ℤ at values right
IsGiven format over registers values (Near near) w = IsNear near over (at values near.of) w
IsGiven format over registers values (Checked of) w = IsChecked format over (at values of) w
IsGiven format over registers values (Shown of) w = w ≡ at values of

-- these nodes give these, one after another, after those before
abbrev pub AreGiven :
    Format → ℤ → List ℤ → List ℤ → List Signal → List ℤ → Type 0
AreGiven format over registers before [] [] = Unit {0}
AreGiven format over registers before [] (w ∷ values) = ⊥
AreGiven format over registers before (node ∷ nodes) [] = ⊥
AreGiven format over registers before (node ∷ nodes) (w ∷ values) =
    IsGiven format over registers before node w
    × AreGiven format over registers (before ++ w ∷ []) nodes values

-- the same in each sample, from these numbers in the registers on
abbrev pub RunsGiven : Network → ℤ → List ℤ → List (List ℤ) → Type 0
RunsGiven net over registers [] = Unit {0}
RunsGiven net over registers (values ∷ samples) =
    AreGiven net.format over registers [] net.nodes values
    × RunsGiven net over (map (at values) net.next) samples

-- what a node shows, if it shows anything
abbrev pub node_shows : List ℤ → Signal → List ℤ
node_shows before (Outer range) = []
node_shows before (Register register) = []
node_shows before (Product coeff of) = []
node_shows before (Sum left right) = []
node_shows before (Difference left right) = []
node_shows before (Near near) = []
node_shows before (Checked of) = at before of ∷ []
node_shows before (Shown of) = at before of ∷ []

-- what is shown of a sample's values
abbrev pub shown_in : List ℤ → List Signal → List ℤ → List ℤ
shown_in before [] values = []
shown_in before (node ∷ nodes) [] = []
shown_in before (node ∷ nodes) (w ∷ values) =
    node_shows before node ++ shown_in (before ++ w ∷ []) nodes values

-- a number over a denominator lies in a range, whose ends are words
pub record LiesOver (over : ℤ) (format : Format) (r : Range) (v : ℤ) : Type 0 where
  pub low_word : IsWord format r.low
  pub high_word : IsWord format r.high
  pub between : Between (over *ℤ r.low) (over *ℤ r.high) v

-- each number in its range
abbrev pub LieOver : ℤ → Format → List Range → List ℤ → Type 0
LieOver over format [] [] = Unit {0}
LieOver over format [] (v ∷ vs) = ⊥
LieOver over format (r ∷ rs) [] = ⊥
LieOver over format (r ∷ rs) (v ∷ vs) = LiesOver over format r v × LieOver over format rs vs

-- what a sample shows lies in these ranges
abbrev pub ShowsIn : Network → ℤ → List Range → List ℤ → Type 0
ShowsIn net over ranges values = LieOver over net.format ranges (shown_in [] net.nodes values)

-- each register's number lies in its range
abbrev pub AreIn : ℤ → List Range → List ℤ → Type 0
AreIn over [] [] = Unit {0}
AreIn over [] (v ∷ vs) = ⊥
AreIn over (r ∷ starts) [] = ⊥
AreIn over (r ∷ starts) (v ∷ vs) = LiesIn over r v × AreIn over starts vs

-- a sample that shows only what lies in these ranges, from registers in their starts, loads
-- registers in their starts
abbrev pub Keeps : Network → ℤ → List Range → List Range → Type 0
Keeps net over starts ranges = (registers values : List ℤ) → AreIn over starts registers
    → AreGiven net.format over registers [] net.nodes values → ShowsIn net over ranges values
    → AreIn over starts (map (at values) net.next)
