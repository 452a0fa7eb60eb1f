-- What a search for an overflow came to is what is found of a controller's runs.
use Rattle.std.specs.Prelude.{Ok}
use Rattle.dsv_bounded.specs.Refusals.{IsSized}
use Rattle.dsv_bounded.specs.RunQuestions.{BreaksWithin, job_size_of, overflow_formula_of}
use Rattle.dsv_hints.specs.Lessons.{IsRefutation, IsSpent}
use Rattle.dsv_hints.specs.Searches.{IfNever, IfHappens, IfSpent}
use Rattle.dsv_hints.specs.declared.search.Searched.{Searched}
use Rattle.dsv_hints.specs.declared.search.Searched.TheVariants as searched
use Rattle.dsv_meaning.specs.declared.replays.Trace.{Trace}
use Rattle.dsv_quantiser.specs.QuantisedView.{QuantisedView}
use Rattle.dsv_realise.specs.Controllers.{of_controller}
use Rattle.dsv_realise.specs.Runs.{IsTrace}
use Rattle.dsv_generator.specs.Findings.{IsOfRuns}
use Rattle.dsv_generator.specs.Limits.{generated_samples, generated_conflicts}

pub runs_found : (q : QuantisedView) (found : Searched Trace) → IsSized (job_size_of (of_controller q) generated_samples) (Ok found) → IfNever (λ log. BreaksWithin (of_controller q) generated_samples → ⊥) found
    → IfNever (IsRefutation (overflow_formula_of (of_controller q) generated_samples) generated_conflicts) found → IfHappens (IsTrace (of_controller q) generated_samples) found
    → IfSpent (IsSpent (overflow_formula_of (of_controller q) generated_samples) generated_conflicts) found → IsOfRuns q found
runs_found q (searched.Never log) w n r t g = record { within = w; never = n; refuted = r }
runs_found q (searched.Happens trace) w n r t g = t
runs_found q (searched.Spent log) w n r t g = record { within = w; spent = g }
