-- What becomes of the lists of proposers, whatever they offer.
use Rattle.std.specs.Prelude.{◌≡◌, ◌⊎◌, ℕ, Bool, true, false, List, [], ◌∷◌, map}
use Rattle.std.specs.Prelude.{Option, Some, None, Ok, Err, ℤ}
use Rattle.dsv_forms.specs.declared.offers.FormOffer.{FormOffer}
use Rattle.dsv_forms.specs.declared.offers.FormOffer.TheVariants as offered
use Rattle.dsv_closed_forms.specs.ClosedForm.{closed_form_of, are_within, second_limit}
use Rattle.dsv_base.specs.Lists.{AreBlocks}
use Rattle.dsv_base.specs.Lists.{IsSuffix, IfFirst, HoldsOfNone}
use Rattle.dsv_command.specs.Table.{Task, decides, seeks_set, Request, does, kind_of}
use Rattle.dsv_command.specs.declared.kind.Kind.TheVariants as of_kind
use Rattle.dsv_names.specs.declared.property.RootProperty.{RootProperty}
use Rattle.dsv_lyapunov.specs.declared.kept.KeptForm.{KeptForm}
use Rattle.dsv_quantiser.specs.QuantisedView.{QuantisedView}
use Rattle.dsv_schur_cohn.specs.Offer.{IsSmall, HasNegativePlace}
use Rattle.dsv_template.specs.declared.candidate.Candidate.{Candidate}
use Rattle.dsv_template.specs.declared.kept.KeptSet.{KeptSet}
use Rattle.dsv_template.specs.declared.shape.Shape.{Shape}
use Rattle.dsv_cli.specs.Sets.{AreOfJob}
use Rattle.dsv_invariant.specs.Sets.{told_for}
use Rattle.dsv_report.specs.declared.answers.Answer.TheVariants as answer
use Rattle.dsv_report.specs.declared.stop.Stop.TheVariants as stop
use Rattle.dsv_report.specs.Stops.{Outcome}

abbrev pub HasClosedForm : List ℤ → Type 0
HasClosedForm poly = (offer : FormOffer) × (closed_form_of poly ≡ Some offer)

-- the answer needs no proposer of forms
abbrev pub NeedsNone : Outcome → Type 0
NeedsNone (Ok (answer.Falls poly offer fall)) = HasClosedForm poly
NeedsNone (Ok (answer.KeptAway poly offer fall value)) = HasClosedForm poly
NeedsNone (Ok (answer.NoForm poly kept verdict)) = ⊥
NeedsNone (Ok (answer.OfTable found)) = ⊥
NeedsNone (Err stop.NoMemory) = ⊥
NeedsNone other = Unit {0}

-- where the answer is a form for a polynomial, this is true of both
abbrev pub IfOffered : Outcome → (List ℤ → FormOffer → Type 0) → Type 0
IfOffered (Ok (answer.Falls poly offer fall)) P = P poly (offered.Falls offer)
IfOffered (Ok (answer.KeptAway poly offer fall value)) P = P poly (offered.KeptAway offer)
IfOffered other P = Unit {0}

-- where the answer is that no form was found, this is true of the polynomial and the kept offers
abbrev pub IfNoForm : Outcome → (List ℤ → List KeptForm → Type 0) → Type 0
IfNoForm (Ok (answer.NoForm poly kept verdict)) P = P poly kept
IfNoForm other P = Unit {0}

-- the offers that were kept
abbrev pub offers_in : List KeptForm → List FormOffer
offers_in kept = map (λ (k : KeptForm). k.offer) kept

-- what proposers tell for a polynomial
abbrev pub told_of : {B : Type 0} → (B → List ℤ → Option (List FormOffer)) → List ℤ → List B
    → List (Option (List FormOffer))
told_of to_come poly proposers = map (λ b. to_come b poly) proposers

-- The proposers of forms before and after a run with this answer: `place`, `last`, `sure` and
-- `to_come` are the address and the meanings of each; `own` says whether the command makes an offer
-- of its own before it asks any, the Schur-Cohn form.
pub record IsAsked {B P : Type 0} (place : B → P) (last : B → Option FormOffer)
    (sure : B → List ℤ → Type 0) (to_come : B → List ℤ → Option (List FormOffer)) (own : Type 0)
    (before after : List B) (found : Outcome) : Type 0 where
  -- the last of them are left, and only the first of these was asked
  pub suffix : IsSuffix place before after
  -- an answer that needs none leaves the list as it was
  pub unasked : NeedsNone found → after ≡ before
  -- a form that isn't the closed form is the command's own, for which nobody was asked, or what the
  -- first that is left gave last
  pub offered : IfOffered found (λ poly offer. closed_form_of poly ≡ None
      → (own × (after ≡ before)) ⊎ IfFirst after (λ b. last b ≡ Some offer))
  -- where no form was found, none was sure of the polynomial and none is left; the kept offers are
  -- a block of each in their order: the first 32 of what it tells, and else at most 32
  pub none_sure : IfNoForm found (λ poly kept. HoldsOfNone (λ b. sure b poly) before)
  pub none_left : IfNoForm found (λ poly kept. after ≡ [])
  pub blocks : IfNoForm found
      (λ poly kept. AreBlocks 32 (told_of to_come poly before) (offers_in kept))

-- the task decides a property of roots
abbrev pub Decides : Task → Type 0
Decides task =
    (property : RootProperty) × (schur_cohn : Bool) × (task ≡ decides property schur_cohn)

-- the task decides one, with the Schur-Cohn form before any proposer, and a table at last
abbrev pub AsksSchurCohn : Task → Type 0
AsksSchurCohn task = (property : RootProperty) × (task ≡ decides property true)

-- the request is a job of a controller alone, with such a task: proposers are asked for no other,
-- since all else is decided by closed forms, by tables or by searches
abbrev pub Wants : (Task → Type 0) → Option Request → Type 0
Wants Asks (Some (does job)) = (kind_of job.files ≡ of_kind.Controller) × Asks job.task
Wants Asks other = ⊥

-- The polynomial is none that its Schur-Cohn form is known to decide always.
abbrev pub IsBeyond : List ℤ → Type 0
IsBeyond poly = IsSmall poly → HasNegativePlace poly → ⊥

-- the order is 0 or 1, or 2 with all coefficients at most 2^23 in size
abbrev pub is_low : List ℤ → Bool
is_low [] = false
is_low (c0 ∷ []) = true
is_low (c0 ∷ c1 ∷ []) = true
is_low (c0 ∷ c1 ∷ c2 ∷ []) = are_within second_limit (c0 ∷ c1 ∷ c2 ∷ [])
is_low (c0 ∷ c1 ∷ c2 ∷ c3 ∷ cs) = false

-- ---- proposers of sets
-- the answer needs no proposer of sets
abbrev pub NeedsNoSet : Outcome → Type 0
NeedsNoSet (Ok (answer.Always candidate logs)) = ⊥
NeedsNoSet (Ok (answer.NoInvariant kept)) = ⊥
NeedsNoSet (Err stop.NoMemory) = ⊥
NeedsNoSet other = Unit {0}

-- where the answer is a set that is never left, this is true of it
abbrev pub IfAlways : Outcome → (Candidate → Type 0) → Type 0
IfAlways (Ok (answer.Always candidate logs)) P = P candidate
IfAlways other P = Unit {0}

-- where the answer is that no set was found, this is true of the kept offers
abbrev pub IfNoInvariant : Outcome → (List KeptSet → Type 0) → Type 0
IfNoInvariant (Ok (answer.NoInvariant kept)) P = P kept
IfNoInvariant other P = Unit {0}

-- The proposers of sets before and after a run with this answer: `place`, `last` and `to_come` are
-- the address and the meanings of each, and `becomes` says which words the job's controller
-- becomes.
pub record AreSetsAsked {B P : Type 0} (place : B → P) (last : B → Option Candidate)
    (to_come : B → Shape → Option (List Candidate)) (becomes : QuantisedView → Type 0)
    (before after : List B) (found : Outcome) : Type 0 where
  -- the last of them are left, and only the first of these was asked
  pub suffix : IsSuffix place before after
  -- an answer that needs none leaves the list as it was
  pub unasked : NeedsNoSet found → after ≡ before
  -- a set that is never left is what the first that is left gave last
  pub offered : IfAlways found (λ candidate. IfFirst after (λ b. last b ≡ Some candidate))
  -- where no set was found, none is left, and they were asked in their order
  pub none_left : IfNoInvariant found (λ kept. after ≡ [])
  pub asked : IfNoInvariant found
      (AreOfJob becomes (λ words. told_for to_come words before))

-- the task is to seek a set
abbrev pub Seeks : Task → Type 0
Seeks task = (conflicts : ℕ) × (task ≡ seeks_set conflicts)
