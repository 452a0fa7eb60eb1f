-- The first offer from a look on is the first of all, and the others come from the next look on.
use Rattle.std.proofs.Common.{◌≡◌, ℕ, zero, suc, ◌+◌, ◌-◌, ◌^◌, ◌≤◌, List, [], ◌∷◌, refl, sym, ap, subst, arith}
use Rattle.std.specs.Prelude.{Option, Some, None}
use Rattle.std.proofs.Math.IntN.{ℤ}
use Rattle.dsv_forms.specs.declared.offers.Falls.{Falls}
use Rattle.dsv_forms.specs.declared.offers.Form.{Form}
use Rattle.dsv_forms.specs.declared.offers.FormOffer.{FormOffer}
use Rattle.dsv_forms.specs.declared.offers.FormOffer.TheVariants as offered
use Rattle.dsv_sums.specs.SumForms.{sum_form, offer_with, offer_from, first_offer, most_looks}
use Rattle.dsv_sums.specs.declared.search.SumOffer.{SumOffer}
use Rattle.dsv_lyapunov.specs.Offers.{with_offer, offers_with, offers_from, all_offers}

-- ---- where there is none
none_with : (k : ℕ) (found : Option Falls) (next : Option SumOffer) (later : List FormOffer) → (next ≡ None → later ≡ [])
    → ◌≡◌ {A = Option SumOffer} (elim found [ Some offer ↦ Some (record { look = k; offer = offer }) | None ↦ next ]) None → with_offer found later ≡ []
none_with k (Some offer) next later f e = absurd (cc)
none_with k None next later f e = f e

none_at : (poly : List ℤ) (k : ℕ) (form : Option Form) (next : Option SumOffer) (later : List FormOffer) → (next ≡ None → later ≡ [])
    → ◌≡◌ {A = Option SumOffer} (elim form [ None ↦ None | Some form ↦ elim (offer_with poly form) [ Some offer ↦ Some (record { look = k; offer = offer }) | None ↦ next ] ]) None → offers_with poly form later ≡ []
none_at poly k None next later f e = refl
none_at poly k (Some form) next later f e = none_with k (offer_with poly form) next later f e

none_from : (poly : List ℤ) (k n : ℕ) → offer_from poly k n ≡ None → offers_from poly k n ≡ []
none_from poly k zero e = refl
none_from poly k (suc n) e = none_at poly k (sum_form poly (2 ^ k)) (offer_from poly (k + 1) n) (offers_from poly (k + 1) n) (none_from poly (k + 1) n) e

pub none_left : (poly : List ℤ) (k : ℕ) → first_offer poly k ≡ None → all_offers poly k ≡ []
none_left poly k e = none_from poly k (most_looks - k) e

-- ---- where there is one
-- the offers are this one and those from the look after it
abbrev Begins : List ℤ → ℕ → List FormOffer → SumOffer → Type 0
Begins poly end offers found = offers ≡ offered.Falls found.offer ∷ offers_from poly (found.look + 1) (end - (found.look + 1))

first_with : (poly : List ℤ) (k n : ℕ) (offer : Option Falls) (next : Option SumOffer) (found : SumOffer) → (next ≡ Some found → Begins poly (k + 1 + n) (offers_from poly (k + 1) n) found)
    → ◌≡◌ {A = Option SumOffer} (elim offer [ Some o ↦ Some (record { look = k; offer = o }) | None ↦ next ]) (Some found) → Begins poly (k + 1 + n) (with_offer offer (offers_from poly (k + 1) n)) found
first_with poly k n (Some o) next found f e =
    let is : record { look = k; offer = o } ≡ found = cc in
    let left : k + 1 + n - (k + 1) ≡ n = omega arith in
    let here : Begins poly (k + 1 + n) (offered.Falls o ∷ offers_from poly (k + 1) n) (record { look = k; offer = o }) = ap (λ m. offered.Falls o ∷ offers_from poly (k + 1) m) (sym left) in
    subst (Begins poly (k + 1 + n) (offered.Falls o ∷ offers_from poly (k + 1) n)) is here
first_with poly k n None next found f e = f e

first_at : (poly : List ℤ) (k n : ℕ) (form : Option Form) (next : Option SumOffer) (found : SumOffer) → (next ≡ Some found → Begins poly (k + 1 + n) (offers_from poly (k + 1) n) found)
    → ◌≡◌ {A = Option SumOffer} (elim form [ None ↦ None | Some form ↦ elim (offer_with poly form) [ Some offer ↦ Some (record { look = k; offer = offer }) | None ↦ next ] ]) (Some found)
    → Begins poly (k + 1 + n) (offers_with poly form (offers_from poly (k + 1) n)) found
first_at poly k n None next found f e = absurd (cc)
first_at poly k n (Some form) next found f e = first_with poly k n (offer_with poly form) next found f e

first_from : (poly : List ℤ) (k n : ℕ) (found : SumOffer) → offer_from poly k n ≡ Some found → Begins poly (k + n) (offers_from poly k n) found
first_from poly k zero found e = absurd (cc)
first_from poly k (suc n) found e =
    let same : k + 1 + n ≡ k + suc n = omega arith in
    subst (λ end. Begins poly end (offers_from poly k (suc n)) found) same
    (first_at poly k n (sum_form poly (2 ^ k)) (offer_from poly (k + 1) n) found (first_from poly (k + 1) n found) e)

pub first_left : (poly : List ℤ) (k : ℕ) (found : SumOffer) → k ≤ most_looks → first_offer poly k ≡ Some found → all_offers poly k ≡ offered.Falls found.offer ∷ all_offers poly (found.look + 1)
first_left poly k found h e =
    let all : k + (most_looks - k) ≡ most_looks = omega arith in
    subst (λ end. Begins poly end (all_offers poly k) found) all (first_from poly k (most_looks - k) found e)
