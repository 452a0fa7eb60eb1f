-- What a list of one proposer had to offer, where nothing was found.
use Rattle.std.proofs.Common.{◌≡◌, List, [], ◌∷◌}
use Rattle.std.specs.Prelude.{Option, Some, Ok}
use Rattle.dsv_invariant.specs.Shapes.{shape_of}
use Rattle.dsv_quantiser.specs.QuantisedView.{QuantisedView}
use Rattle.dsv_report.specs.declared.answers.Answer.TheVariants as answer
use Rattle.dsv_report.specs.Stops.{Outcome}
use Rattle.dsv_template.specs.Boxes.{boxes}
use Rattle.dsv_template.specs.declared.candidate.Candidate.{Candidate}
use Rattle.dsv_template.specs.declared.shape.Shape.{Shape}
use Rattle.dsv_cli.specs.Proposers.{AreSetsAsked, IfNoInvariant}
use Rattle.dsv_cli.specs.Sets.{AreOfJob}

-- one proposer of sets that tells all boxes
pub boxes_offered : {B P : Type 0} {place : B → P} {last : B → Option Candidate} {to_come : B → Shape → Option (List Candidate)} {becomes : QuantisedView → Type 0} {before after : List B} {found : Outcome}
    → AreSetsAsked place last to_come becomes before after found → (b : B) → before ≡ b ∷ [] → ((shape : Shape) → to_come b shape ≡ Some (boxes shape))
    → IfNoInvariant found (AreOfJob becomes (λ quantised. Some (boxes (shape_of quantised)) ∷ []))
boxes_offered {found = Ok (answer.NoInvariant kept)} h b e t = (h.asked.0, h.asked.1, rw (t (shape_of h.asked.0)) at (rw e at h.asked.2))
boxes_offered {found = found} h b e t = tt
