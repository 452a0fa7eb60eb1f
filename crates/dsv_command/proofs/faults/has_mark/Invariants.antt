use Rattle.std.proofs.Common.{◌≡◌, map, drop}
use Rattle.std.specs.List.{list_any}
use Rattle.dsv_command.specs.Reasons.{is_key, key_of_mark}
use Rattle.dsv_command.specs.Views.{key_view, mark_view}
use Rattle.dsv_command.proofs.faults.has_mark.Given as goal

abbrev pub invariant-loop-mark : goal.invariant-loop-mark
invariant-loop-mark l = list_any (λ m. is_key (key_view l.key) (key_of_mark m)) (map mark_view (drop l.mark-index l.marks)) ≡ list_any (λ m. is_key (key_view l.key) (key_of_mark m)) (map mark_view l.marks)
