-- Proposers that nobody asked, and polynomials that need none.
use Rattle.std.proofs.Common.{◌≡◌, ◌⊎◌, inl, inr, ℕ, ◌+◌, ◌-◌, List, [], ◌∷◌, length, drop, map, refl, subst, sym, arith}
use Rattle.std.specs.Prelude.{Bool, true, false, Option, Some, None, Ok, Err, IfOk, if◌then◌else◌, ℤ}
use Rattle.dsv_forms.specs.declared.offers.FormOffer.{FormOffer}
use Rattle.dsv_forms.specs.declared.offers.FormOffer.TheVariants as offered
use Rattle.dsv_closed_forms.specs.ClosedForm.{closed_form_of, are_within, second_limit}
use Rattle.dsv_base.specs.Lists.{IsSuffix}
use Rattle.dsv_lyapunov.specs.declared.kept.KeptForm.{KeptForm}
use Rattle.dsv_names.specs.declared.property.RootProperty.{RootProperty}
use Rattle.dsv_report.specs.Printing.{HasPlaces}
use Rattle.dsv_report.specs.declared.answers.Answer.TheVariants as answer
use Rattle.dsv_report.specs.declared.stop.Stop.{Stop}
use Rattle.dsv_report.specs.declared.stop.Stop.TheVariants as stop
use Rattle.dsv_report.specs.Stops.{Outcome}
use Rattle.dsv_quantiser.specs.QuantisedView.{QuantisedView}
use Rattle.dsv_template.specs.declared.candidate.Candidate.{Candidate}
use Rattle.dsv_template.specs.declared.kept.KeptSet.{KeptSet}
use Rattle.dsv_template.specs.declared.shape.Shape.{Shape}
use Rattle.dsv_cli.specs.Causes.{IsPlain, IsOfProperty, IsOfSets}
use Rattle.dsv_cli.specs.Proposers.{IsAsked, IfOffered, IfNoForm, AreSetsAsked, IfAlways, IfNoInvariant, is_low}

-- ---- nobody is asked
none : (n : ℕ) → n - n ≡ 0
none n = omega arith

same_list : {B P : Type 0} (place : B → P) (xs : List B) → IsSuffix place xs xs
same_list place xs = record {
  shorter = omega arith;
  same = subst (λ n. map place xs ≡ drop n (map place xs)) (sym (none (length xs))) refl;
  others = subst (λ n. drop 1 xs ≡ drop (n + 1) xs) (sym (none (length xs))) refl;
}

none_offered : (found : Outcome) (P : List ℤ → FormOffer → Type 0) → IsPlain found → IfOffered found P
none_offered (Ok (answer.Falls poly offer fall)) P h = absurd h
none_offered (Ok (answer.KeptAway poly offer fall value)) P h = absurd h
none_offered found P h = tt

pub some_form : (found : Outcome) (P : List ℤ → List KeptForm → Type 0) → IsPlain found → IfNoForm found P
some_form (Ok (answer.NoForm poly kept verdict)) P h = absurd h
some_form found P h = tt

-- no proposer of forms is asked
pub unasked : {B P : Type 0} (place : B → P) (last : B → Option FormOffer) (sure : B → List ℤ → Type 0) (to_come : B → List ℤ → Option (List FormOffer)) (own : Type 0) (xs : List B) (found : Outcome) → IsPlain found
    → IsAsked place last sure to_come own xs xs found
unasked place last sure to_come own xs found h = record {
  suffix = same_list place xs;
  unasked = λ n. refl;
  offered = none_offered found _ h;
  none_sure = some_form found _ h;
  none_left = some_form found _ h;
  blocks = some_form found _ h;
}

pub unasked_for_sets : {B P : Type 0} (place : B → P) (last : B → Option FormOffer) (sure : B → List ℤ → Type 0) (to_come : B → List ℤ → Option (List FormOffer)) (own : Type 0) (xs : List B) (conflicts : ℕ) (quantised : QuantisedView) (found : Outcome)
    → IsOfSets conflicts quantised found → IsAsked place last sure to_come own xs xs found
unasked_for_sets place last sure to_come own xs conflicts quantised (Ok (answer.Always candidate logs)) h =
    record { suffix = same_list place xs; unasked = λ n. refl; offered = tt; none_sure = tt; none_left = tt; blocks = tt }
unasked_for_sets place last sure to_come own xs conflicts quantised (Ok (answer.NoInvariant kept)) h =
    record { suffix = same_list place xs; unasked = λ n. refl; offered = tt; none_sure = tt; none_left = tt; blocks = tt }
unasked_for_sets place last sure to_come own xs conflicts quantised (Err (stop.JobSize size)) h = unasked place last sure to_come own xs (Err (stop.JobSize size)) tt
unasked_for_sets place last sure to_come own xs conflicts quantised (Err stop.NoMemory) h = unasked place last sure to_come own xs (Err stop.NoMemory) tt
unasked_for_sets place last sure to_come own xs conflicts quantised found h = absurd h

-- an offer that one job lets the command make, another does too
pub own_for : {B P : Type 0} (place : B → P) (last : B → Option FormOffer) (sure : B → List ℤ → Type 0) (to_come : B → List ℤ → Option (List FormOffer)) (R S : Type 0) (before after : List B) (found : Outcome)
    → (R → S) → IsAsked place last sure to_come R before after found → IsAsked place last sure to_come S before after found
own_for place last sure to_come R S before after found f h = record {
  suffix = h.suffix;
  unasked = h.unasked;
  offered = weaker found (λ poly offer k none. either (k none)) h.offered;
  none_sure = h.none_sure;
  none_left = h.none_left;
  blocks = h.blocks;
}
  where
    weaker : {P Q : List ℤ → FormOffer → Type 0} (found : Outcome) → ((poly : List ℤ) (offer : FormOffer) → P poly offer → Q poly offer) → IfOffered found P → IfOffered found Q
    weaker (Ok (answer.Falls poly offer fall)) g k = g poly (offered.Falls offer) k
    weaker (Ok (answer.KeptAway poly offer fall value)) g k = g poly (offered.KeptAway offer) k
    weaker found g k = tt

    either : {A C : Type 0} → (R × A) ⊎ C → (S × A) ⊎ C
    either (inl k) = inl (f k.0, k.1)
    either (inr k) = inr k

-- no proposer of sets is asked
same_sets : {B P : Type 0} (place : B → P) (last : B → Option Candidate) (to_come : B → Shape → Option (List Candidate)) (becomes : QuantisedView → Type 0) (xs : List B) (found : Outcome)
    → ((P : Candidate → Type 0) → IfAlways found P) → ((P : List KeptSet → Type 0) → IfNoInvariant found P) → AreSetsAsked place last to_come becomes xs xs found
same_sets place last to_come becomes xs found none_kept none_left = record {
  suffix = same_list place xs;
  unasked = λ n. refl;
  offered = none_kept _;
  none_left = none_left _;
  asked = none_left _;
}

pub sets_unasked : {B P : Type 0} (place : B → P) (last : B → Option Candidate) (to_come : B → Shape → Option (List Candidate)) (becomes : QuantisedView → Type 0) (xs : List B) (found : Outcome)
    → IsPlain found → AreSetsAsked place last to_come becomes xs xs found
sets_unasked place last to_come becomes xs found h = same_sets place last to_come becomes xs found (λ P. none_kept found P h) (λ P. none_left found P h)
  where
    none_kept : (found : Outcome) (P : Candidate → Type 0) → IsPlain found → IfAlways found P
    none_kept (Ok (answer.Always candidate logs)) P h = absurd h
    none_kept found P h = tt

    none_left : (found : Outcome) (P : List KeptSet → Type 0) → IsPlain found → IfNoInvariant found P
    none_left (Ok (answer.NoInvariant kept)) P h = absurd h
    none_left found P h = tt

pub sets_unasked_for_roots : {B P : Type 0} (place : B → P) (last : B → Option Candidate) (to_come : B → Shape → Option (List Candidate)) (becomes : QuantisedView → Type 0) (xs : List B) (property : RootProperty) (sc : Bool)
    (quantised : QuantisedView) (found : Outcome) → IsOfProperty property sc quantised found → AreSetsAsked place last to_come becomes xs xs found
sets_unasked_for_roots place last to_come becomes xs property sc quantised found h = same_sets place last to_come becomes xs found (λ P. none_kept found P h) (λ P. none_left found P h)
  where
    none_kept : (found : Outcome) (P : Candidate → Type 0) → IsOfProperty property sc quantised found → IfAlways found P
    none_kept (Ok (answer.Always candidate logs)) P h = absurd h.decision
    none_kept found P h = tt

    none_left : (found : Outcome) (P : List KeptSet → Type 0) → IsOfProperty property sc quantised found → IfNoInvariant found P
    none_left (Ok (answer.NoInvariant kept)) P h = absurd h.decision
    none_left found P h = tt

-- the words are those that the job's file becomes
pub sets_asked_for : {B P : Type 0} (place : B → P) (last : B → Option Candidate) (to_come : B → Shape → Option (List Candidate)) (R S : QuantisedView → Type 0) (before after : List B) (found : Outcome)
    → ((w : QuantisedView) → R w → S w) → AreSetsAsked place last to_come R before after found → AreSetsAsked place last to_come S before after found
sets_asked_for place last to_come R S before after found f h = record {
  suffix = h.suffix;
  unasked = h.unasked;
  offered = h.offered;
  none_left = h.none_left;
  asked = weaker found (λ kept t. (t.0, f t.0 t.1, t.2)) h.asked;
}
  where
    weaker : {P Q : List KeptSet → Type 0} (found : Outcome) → ((kept : List KeptSet) → P kept → Q kept) → IfNoInvariant found P → IfNoInvariant found Q
    weaker (Ok (answer.NoInvariant kept)) f h = f kept h
    weaker found f h = tt

-- of why there is no answer nothing is said for words
pub sets_of_stop : {B P : Type 0} (place : B → P) (last : B → Option Candidate) (to_come : B → Shape → Option (List Candidate)) (R S : QuantisedView → Type 0) (before after : List B) (why : Stop)
    → AreSetsAsked place last to_come R before after (Err why) → AreSetsAsked place last to_come S before after (Err why)
sets_of_stop place last to_come R S before after why h = record {
  suffix = h.suffix;
  unasked = h.unasked;
  offered = h.offered;
  none_left = h.none_left;
  asked = tt;
}

-- no form is in what needs no proposer, and in what sets decide
pub plain_places : (found : Outcome) → IsPlain found → IfOk found HasPlaces
plain_places (Ok (answer.Falls poly offer fall)) h = absurd h
plain_places (Ok (answer.KeptAway poly offer fall value)) h = absurd h
plain_places (Ok (answer.OfSections found)) h = h
plain_places (Ok (answer.StateFalls many offer fall)) h = h
plain_places (Ok (answer.InEllipsoid offer)) h = h
plain_places found h = tt

-- ---- low orders
without : (b : Bool) (offer : FormOffer) → (if b then Some offer else None) ≡ None → b ≡ false
without true offer h = absurd (cc)
without false offer h = refl

pub no_low : (poly : List ℤ) → closed_form_of poly ≡ None → is_low poly ≡ false
no_low [] h = refl
no_low (c0 ∷ []) h = absurd (cc)
no_low (c0 ∷ c1 ∷ []) h = absurd (cc)
no_low (c0 ∷ c1 ∷ c2 ∷ []) h = without (are_within second_limit (c0 ∷ c1 ∷ c2 ∷ [])) _ h
no_low (c0 ∷ c1 ∷ c2 ∷ c3 ∷ cs) h = refl
