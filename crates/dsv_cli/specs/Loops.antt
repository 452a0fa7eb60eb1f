-- What the loop of a controller with its plant comes to.
use Rattle.std.specs.Prelude.{◌≡◌, ◌≤◌, List, length}
use Rattle.std.specs.Prelude.{Result, Ok, Err, ℤ}
use Rattle.dsv_certfile.specs.Limits.{most_coefficients}
use Rattle.dsv_loop.specs.declared.refusal.LoopRefusal.{LoopRefusal}
use Rattle.dsv_table.specs.Findings.{IsFinding}
use Rattle.dsv_report.specs.declared.answers.Answer.TheVariants as answer
use Rattle.dsv_report.specs.declared.stop.Stop.TheVariants as stop
use Rattle.dsv_report.specs.Stops.{Outcome}

-- what the loop comes to, by its polynomial, whose table decides, or by why there is no loop
abbrev pub IsOfLoop : Result (List ℤ) LoopRefusal → Outcome → Type 0
IsOfLoop (Ok poly) (Ok (answer.OfTable found)) = IsFinding poly found
IsOfLoop (Ok poly) (Err stop.NoMemory) = Unit {0}
IsOfLoop (Err why) (Err (stop.LoopRefused r)) = r ≡ why
IsOfLoop (Err why) (Err stop.NoMemory) = Unit {0}
IsOfLoop came other = ⊥

-- the polynomial has at most 25 coefficients, if there is one
abbrev pub HasFewCoefficients : Outcome → Type 0
HasFewCoefficients (Ok (answer.OfTable found)) = length found.poly ≤ most_coefficients
HasFewCoefficients other = Unit {0}
