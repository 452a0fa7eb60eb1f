-- All that the proposer of sums offers for a polynomial.
use Rattle.std.specs.Prelude.{ℕ, zero, suc, ◌+◌, ◌-◌, ◌^◌, List, [], ◌∷◌, Option, None, Some, ℤ}
use Rattle.dsv_forms.specs.declared.offers.Falls.{Falls}
use Rattle.dsv_forms.specs.declared.offers.Form.{Form}
use Rattle.dsv_forms.specs.declared.offers.FormOffer.{FormOffer}
use Rattle.dsv_forms.specs.declared.offers.FormOffer.TheVariants as offered
use Rattle.dsv_sums.specs.SumForms.{sum_form, offer_with, first_offer, most_looks}
use Rattle.dsv_lyapunov.specs.Answers.{IsThere}

-- an offer before the later ones, where there is one
abbrev pub with_offer : Option Falls → List FormOffer → List FormOffer
with_offer None later = later
with_offer (Some offer) later = offered.Falls offer ∷ later

-- the accepted offer with a form, and the later ones; where there is no form the search ends
abbrev pub offers_with : List ℤ → Option Form → List FormOffer → List FormOffer
offers_with poly None later = []
offers_with poly (Some form) later = with_offer (offer_with poly form) later

-- the accepted offers at n looks from look number k on, at t = 2^k, before the search ends
abbrev pub offers_from : List ℤ → ℕ → ℕ → List FormOffer
offers_from poly k zero = []
offers_from poly k (suc n) =
    offers_with poly (sum_form poly (2 ^ k)) (offers_from poly (k + 1) n)

-- all accepted offers from look number k on
abbrev pub all_offers : List ℤ → ℕ → List FormOffer
all_offers poly k = offers_from poly k (most_looks - k)

-- a look of the search finds an accepted offer for the polynomial
unfoldable pub HasSum : List ℤ → Type 0
HasSum poly = IsThere (first_offer poly 0)

-- all that the search finds for the polynomial
unfoldable pub sums_of : List ℤ → List FormOffer
sums_of poly = all_offers poly 0
