-- What is known of a controller where a candidate is good for it, where none was found, and where
-- proposers had one.
use Rattle.std.specs.Prelude.{◌≡◌, ℕ, List, Option, Some, slice_get, map, take}
use Rattle.std.specs.List.{All, Contains}
use Rattle.dsv_base.specs.Lists.{AreBlocks}
use Rattle.dsv_meaning.specs.Equations.{Past}
use Rattle.dsv_meaning.specs.Systems.{equations_of}
use Rattle.dsv_quantiser.specs.QuantisedView.{QuantisedView}
use Rattle.dsv_realise.specs.Controllers.{of_controller}
use Rattle.dsv_template.specs.declared.candidate.Candidate.{Candidate}
use Rattle.dsv_template.specs.declared.kept.KeptSet.{KeptSet}
use Rattle.dsv_template.specs.declared.shape.Shape.{Shape}
use Rattle.dsv_template.specs.declared.verdict.ThreeLogs.{ThreeLogs}
use Rattle.dsv_template.specs.declared.verdict.Why.{Why}
use Rattle.dsv_template.specs.declared.verdict.Why.TheVariants as why
use Rattle.dsv_template.specs.Kept.{IsKept}
use Rattle.dsv_bounded.specs.RunQuestions.{IsWithin}
use Rattle.dsv_invariant.specs.Causes.{IsShaped, IsCause}
use Rattle.dsv_invariant.specs.Shapes.{shape_of}
use Rattle.dsv_invariant.specs.Limits.{unbounded_samples}

-- The controller is no larger than what is asked of formulas, and the candidate is good for it,
-- which three logs show, each of a search with at most so many conflicts.
pub record KeepsTo (q : QuantisedView) (conflicts : ℕ) (candidate : Candidate) (logs : ThreeLogs) :
    Type 0 where
  pub within : IsWithin (of_controller q) unbounded_samples
  pub good : IsCause q conflicts candidate (why.Good logs)

abbrev pub IsGoodCause : Why → Type 0
IsGoodCause (why.Good logs) = Unit {0}
IsGoodCause other = ⊥

-- The candidate has its cause, and isn't good.
pub record IsNotGood (q : QuantisedView) (conflicts : ℕ) (kept : KeptSet) : Type 0 where
  pub cause : IsCause q conflicts kept.candidate kept.why
  pub not_good : IsGoodCause kept.why → ⊥

-- The controller is no larger than what is asked of formulas, and each of these candidates has its
-- cause, and none is good.
pub record NoneIsGood (q : QuantisedView) (conflicts : ℕ) (kept : List KeptSet) : Type 0 where
  pub within : IsWithin (of_controller q) unbounded_samples
  pub causes : All (IsNotGood q conflicts) kept

abbrev pub candidates : List KeptSet → List Candidate
candidates kept = map (λ (k : KeptSet). k.candidate) kept

-- the search for what is wrong with the candidate gave up
abbrev pub GaveUpOn : Why → Type 0
GaveUpOn (why.Spent part log) = Unit {0}
GaveUpOn other = ⊥

-- The candidate's numbers are as they have to be, and the controller keeps to its set.
pub record IsGoodSet (q : QuantisedView) (candidate : Candidate) : Type 0 where
  pub shaped : IsShaped q candidate
  pub kept : IsKept Past (equations_of q) q.xlo q.xhi candidate

-- Proposers that tell these lists were asked for the controller: one after another, at most 32
-- times each, and the offers of those that tell are the first of these. If there was a good set
-- among the first 32 of some list, a search for what is wrong with it gave up.
pub record WereOffered (q : QuantisedView) (told : List (Option (List Candidate)))
    (kept : List KeptSet) : Type 0 where
  pub blocks : AreBlocks 32 told (candidates kept)
  pub complete : (i : ℕ) (cs : List Candidate) (c : Candidate) → slice_get told i ≡ Some (Some cs)
      → Contains (take 32 cs) c → IsGoodSet q c
      → (k : KeptSet) × Contains kept k × (k.candidate ≡ c) × GaveUpOn k.why

-- what proposers tell for the controller
abbrev pub told_for : {B : Type 0} → (B → Shape → Option (List Candidate)) → QuantisedView → List B
    → List (Option (List Candidate))
told_for to_come q proposers = map (λ b. to_come b (shape_of q)) proposers
