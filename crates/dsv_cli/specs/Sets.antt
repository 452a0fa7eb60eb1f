-- What the answers on runs of any length say of a quantised controller.
use Rattle.std.specs.Prelude.{List, Option}
use Rattle.dsv_quantiser.specs.QuantisedView.{QuantisedView}
use Rattle.dsv_template.specs.declared.candidate.Candidate.{Candidate}
use Rattle.dsv_template.specs.declared.kept.KeptSet.{KeptSet}
use Rattle.dsv_invariant.specs.Sets.{WereOffered}

-- ---- where no set was found
-- ---- what proposers had to offer
-- These are the offers of proposers that tell `told`, for the words that the job's controller
-- becomes.
abbrev pub AreOfJob : (QuantisedView → Type 0) → (QuantisedView → List (Option (List Candidate)))
    → List KeptSet → Type 0
AreOfJob becomes told kept =
    (q : QuantisedView) × becomes q × WereOffered q (told q) kept
