-- Options of other tasks, as they are looked for.
use Rattle.std.proofs.Common.{◌≡◌, ℕ, List, Option, ap, ◌∙◌}
use Rattle.std.specs.Prelude.{Result}
use Rattle.dsv_command.specs.Finding.{unless_given, first_other, task_part, check_own}
use Rattle.dsv_command.specs.Parts.{PartView}
use Rattle.dsv_command.specs.Reasons.{Reason}
use Rattle.dsv_command.specs.Table.{Task, task_options, all_task_options}

pub own_by : (parts : List PartView) (t : Task) (r : Result (Unit {0}) Reason) (p : PartView) (o : Option (List ℕ)) (xs ys : List (List ℕ)) → r ≡ unless_given p o → p ≡ task_part t → o ≡ first_other parts xs ys → xs ≡ task_options t → ys ≡ all_task_options
    → r ≡ check_own parts t
unfolding check_own
own_by parts t r p o xs ys e f g h k =
    e ∙ (ap (λ (q : PartView). unless_given q o) f
    ∙ ap (unless_given (task_part t)) (g ∙ (ap (λ (zs : List (List ℕ)). first_other parts zs ys) h ∙ ap (first_other parts (task_options t)) k)))
