use Rattle.std.proofs.Common.{◌≡◌, map}
use Rattle.dsv_forms.specs.Padded.{matrix_with}
use Rattle.dsv_forms.specs.Refusals.{places}
use Rattle.dsv_sums.specs.Elimination.{entries_of}
use Rattle.dsv_sums.specs.SumForms.{base_entry}
use Rattle.dsv_sums.proofs.partial_sums.first_form.Given as goal

abbrev pub invariant-loop-i : goal.invariant-loop-i
invariant-loop-i l = l.rows ≡ matrix_with (map (λ i. entries_of l.d (base_entry i)) (places l.i))
