-- How far outputs are from those of exact runs: a bound that was found is one of all runs, and the offer that shows it passes its check and is read back.
use Rattle.std.proofs.Common.{◌≡◌, ap, refl, ℕ, ◌≤◌, ◌<◌, length, arith}
use Rattle.std.specs.Prelude.{List, Option, Some, Ok, IfSome, ℤ}
use Rattle.std.proofs.lemmas.List.Elements.{All-weaker}
use Rattle.dsv_names.specs.declared.realisation.Realisation.{Realisation}
use Rattle.dsv_names.specs.declared.realisation.Realisation.TheVariants as realisation
use Rattle.dsv_word.specs.declared.format.Format.{Format}
use Rattle.dsv_word.specs.Words.{IsWord}
use Rattle.dsv_quantiser.specs.QuantisedView.{QuantisedView, IsQuantisedView}
use Rattle.dsv_meaning.specs.Equations.{order, registers_of}
use Rattle.dsv_meaning.proofs.Sizes.{word_is_small}
use Rattle.dsv_linear.specs.declared.range.Range.{Range}
use Rattle.dsv_realise.specs.Netlists.{net_of}
use Rattle.dsv_realise.proofs.Runs.{runs_alike}
use Rattle.dsv_roundoff.specs.declared.offers.RoundoffOffer.{RoundoffOffer}
use Rattle.dsv_roundoff.specs.declared.offers.WordRange.{WordRange}
use Rattle.dsv_gain.specs.Errors.{error_of}
use Rattle.dsv_gain.specs.Near.{HasWords, StaysNear}
use Rattle.dsv_gain.specs.declared.roundoff.ErrorBound.{ErrorBound}
use Rattle.dsv_gain.proofs.Errors.{offers_fit}
use Rattle.dsv_gain.proofs.Near.{always_near}
use Rattle.dsv_certfile.specs.Lawful.{IsEntry, IsWordRange, IsRoundoffOffer}
use Rattle.dsv_certfile.specs.Limits.{most_box_ranges}
use Rattle.dsv_certfile.specs.declared.job.CertWords.{CertWords}
use Rattle.dsv_certcheck.specs.Checks.{shown_check, error_check}
use Rattle.dsv_report.specs.Output.{offer_in}
use Rattle.dsv_report.specs.declared.answers.OutputError.{OutputError}
use Rattle.dsv_report.specs.declared.answers.OutputError.TheVariants as error
use Rattle.dsv_cli.specs.Gain.{most_gain_samples, IsErrorOf}
use Rattle.dsv_gain.specs.Subjects.{HoldsAlways}
use Rattle.dsv_realise.specs.Controllers.{of_controller}

-- ---- an offer's numbers
entry_of : (f : Format) (z : ℤ) → IsWord f z → IsEntry z
entry_of f z w = omega (arith, word_is_small f z w)

range_of : (f : Format) (w : WordRange) → HasWords f w → IsWordRange w
range_of f w h = record { low = entry_of f w.low h.low; high = entry_of f w.high h.high }

few_as : (k : Realisation) (n : ℕ) → n ≤ 8 → registers_of k n ≤ most_box_ranges
few_as realisation.Dfi n h = omega (arith, h)
few_as realisation.Dfii n h = omega (arith, h)
few_as realisation.Tdfii n h = omega (arith, h)
few_as realisation.Ddfi n h = omega (arith, h)
few_as realisation.Ddfii n h = omega (arith, h)
few_as realisation.Tddfii n h = omega (arith, h)

few_registers : (q : QuantisedView) → IsQuantisedView q → length (net_of q).next ≤ most_box_ranges
few_registers q z = rw (runs_alike q z).many (few_as q.realisation (order q) (omega (arith, z.few)))

offer_is : (q : QuantisedView) (offer : RoundoffOffer) (r : Range) → IsQuantisedView q → error_of (net_of q) offer ≡ Some r → offer.depth < most_gain_samples → IsRoundoffOffer offer
offer_is q offer r z e l =
    let fits = offers_fit (net_of q) offer r e in
    record {
      depth = omega (arith, l);
      few = rw fits.many (few_registers q z);
      ranges = All-weaker (HasWords (net_of q).format) IsWordRange (range_of (net_of q).format) offer.ranges fits.words;
    }

-- ---- what is found
bound_is : (q : QuantisedView) (ranges : List Range) (bound : ErrorBound) → IsQuantisedView q → HoldsAlways (of_controller q) ranges → error_of (net_of q) bound.offer ≡ Some bound.output
    → StaysNear q bound.output → bound.offer.depth < most_gain_samples → IsErrorOf q (error.Within bound)
bound_is q ranges bound z h e n l = (record { shown = e; near = always_near q ranges bound.output h n }, offer_is q bound.offer bound.output z e l)

-- the same of what may be found
pub bound_by : (q : QuantisedView) (ranges : List Range) (found : Option ErrorBound) (bound : ErrorBound) → found ≡ Some bound → IsQuantisedView q → HoldsAlways (of_controller q) ranges
    → IfSome found (λ it. error_of (net_of q) it.offer ≡ Some it.output) → IfSome found (λ it. StaysNear q it.output) → IfSome found (λ it. it.offer.depth < most_gain_samples) → IsErrorOf q (error.Within bound)
bound_by q ranges found bound e z h shown near within = bound_is q ranges bound z h (rw e at shown) (rw e at near) (rw e at within)

-- ---- its certificate
pub offer_passes : (words : CertWords) (q : QuantisedView) (found : OutputError) → IsErrorOf q found → error_check words q (offer_in found) ≡ Ok tt
offer_passes words q error.NotSought h = absurd h
offer_passes words q error.Open h = refl
offer_passes words q (error.Within bound) h = ap (shown_check words) h.0.shown

pub offer_lawful : (q : QuantisedView) (found : OutputError) → IsErrorOf q found → IfSome (offer_in found) IsRoundoffOffer
offer_lawful q error.NotSought h = absurd h
offer_lawful q error.Open h = tt
offer_lawful q (error.Within bound) h = h.1
