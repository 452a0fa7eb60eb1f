-- What the range of a roundoff offer says.
use Rattle.std.specs.Prelude.{◌≡◌, List, [], ◌∷◌, length, map, Some, ℤ, pos, ◌*ℤ◌, ◌<ℤ◌}
use Rattle.std.specs.List.{All}
use Rattle.dsv_quantiser.specs.QuantisedView.{QuantisedView, IsQuantisedView}
use Rattle.dsv_word.specs.declared.format.Format.{Format}
use Rattle.dsv_word.specs.Words.{IsWord}
use Rattle.dsv_system.specs.Breaks.{IsInside}
use Rattle.dsv_system.specs.Runs.{SampleRow}
use Rattle.dsv_system.specs.Systems.{rows, zeros, AreInRange}
use Rattle.dsv_meaning.specs.Systems.{equations_of, outputs_over}
use Rattle.dsv_netlist.specs.Nodes.{Net, at}
use Rattle.dsv_netlist.specs.Systems.{system_of}
use Rattle.dsv_linear.specs.Facts.{Between}
use Rattle.dsv_linear.specs.declared.range.Range.{Range}
use Rattle.dsv_realise.specs.Netlists.{net_of}
use Rattle.dsv_roundoff.specs.Exact.{RunsExactly}
use Rattle.dsv_roundoff.specs.Differences.{differences, run_differences}
use Rattle.dsv_roundoff.specs.Laws.{outputs_of}
use Rattle.dsv_roundoff.specs.Written.{RunsAsWritten}
use Rattle.dsv_roundoff.specs.declared.offers.WordRange.{WordRange}
use Rattle.dsv_roundoff.specs.declared.offers.RoundoffOffer.{RoundoffOffer}
use Rattle.dsv_gain.specs.Errors.{error_of}
use Rattle.dsv_gain.specs.declared.roundoff.ErrorBound.{ErrorBound}

-- both ends are words
pub record HasWords (format : Format) (w : WordRange) : Type 0 where
  pub low : IsWord format w.low
  pub high : IsWord format w.high

-- the offer has a range of words for each register
pub record FitsNetlist (net : Net) (offer : RoundoffOffer) : Type 0 where
  pub many : length offer.ranges ≡ length net.next
  pub words : All (HasWords net.format) offer.ranges

-- an offer that shows a range fits the netlist
abbrev pub OffersFit : Type 0
OffersFit = (net : Net) (offer : RoundoffOffer) (r : Range) → error_of net offer ≡ Some r
    → FitsNetlist net offer

-- these words less these numbers over d lie in the range, one by one
abbrev pub AreNear : Range → ℤ → List ℤ → List ℤ → Type 0
AreNear r d words exact =
    All (Between (d *ℤ r.low) (d *ℤ r.high)) (differences d words exact)

-- each number over d lies in its range
abbrev pub AreInBox : ℤ → List WordRange → List ℤ → Type 0
AreInBox d [] [] = Unit {0}
AreInBox d [] (v ∷ values) = ⊥
AreInBox d (w ∷ box) [] = ⊥
AreInBox d (w ∷ box) (v ∷ values) = Between (d *ℤ w.low) (d *ℤ w.high) v × AreInBox d box values

-- where all exact values of a netlist's run from registers of zeros are words, each register's word
-- less the number that it has in the exact run, which is over d, lies in its range of the offer
-- after each sample
abbrev pub RegistersStayNear : Type 0
RegistersStayNear = (net : Net) (offer : RoundoffOffer) (r : Range)
    → error_of net offer ≡ Some r
    → (xs : List ℤ) → All (IsInside net.format) (rows (system_of net) (zeros (length net.next)) xs)
    → (d : ℤ) (samples : List (List ℤ)) → pos 0 <ℤ d
    → RunsExactly net d (zeros (length net.next)) xs samples
    → All (λ values. AreInBox d offer.ranges (map (at values) net.next))
    (run_differences net d (zeros (length net.next)) xs samples)

-- where all exact values of a netlist's run from registers of zeros are words, its outputs are near
-- those of the exact run, which are over d
abbrev pub OutputsStayNear : Type 0
OutputsStayNear = (net : Net) (offer : RoundoffOffer) (r : Range) → error_of net offer ≡ Some r
    → (xs : List ℤ) → All (IsInside net.format) (rows (system_of net) (zeros (length net.next)) xs)
    → (d : ℤ) (samples : List (List ℤ)) → pos 0 <ℤ d
    → RunsExactly net d (zeros (length net.next)) xs samples
    → AreNear r d (map (λ (row : SampleRow). row.y)
    (rows (system_of net) (zeros (length net.next)) xs)) (outputs_of net samples)

-- the same of a controller's run, over any inputs, and the exact run of its written equations
abbrev pub StaysNear : QuantisedView → Range → Type 0
StaysNear q r = (xs : List ℤ)
    → All (IsInside q.format) (rows (equations_of q) (zeros (equations_of q).many) xs)
    → (d : ℤ) (ys : List ℤ) → pos 0 <ℤ d → RunsAsWritten q d xs ys
    → AreNear r d (outputs_over q (zeros (equations_of q).many) xs) ys

-- of all its runs over inputs in range
abbrev pub AlwaysNear : QuantisedView → Range → Type 0
AlwaysNear q r = (xs : List ℤ) → AreInRange q.xlo q.xhi xs
    → (d : ℤ) (ys : List ℤ) → pos 0 <ℤ d → RunsAsWritten q d xs ys
    → AreNear r d (outputs_over q (zeros (equations_of q).many) xs) ys

abbrev pub ControllersStayNear : Type 0
ControllersStayNear = (q : QuantisedView) → IsQuantisedView q → (offer : RoundoffOffer) (r : Range)
    → error_of (net_of q) offer ≡ Some r → StaysNear q r

-- In every sample of every run over inputs in range, of any length, the output less that of the
-- exact run of the written equations lies in the range that the offer shows.
pub record IsBoundOf (q : QuantisedView) (bound : ErrorBound) : Type 0 where
  pub shown : error_of (net_of q) bound.offer ≡ Some bound.output
  pub near : AlwaysNear q bound.output
