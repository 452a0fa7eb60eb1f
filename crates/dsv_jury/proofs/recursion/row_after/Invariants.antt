use Rattle.std.proofs.Common.{◌≡◌, false, pos, length, map, take}
use Rattle.std.specs.Int.RustNames.{int_div}
use Rattle.dsv_jury.specs.Jury.{is_wide}
use Rattle.dsv_jury.proofs.recursion.row_after.Given as goal

abbrev pub invariant-loop-number : goal.invariant-loop-number
invariant-loop-number l = record {
  length : length l.next.items ≡ l.number-index;
  same : l.next.items ≡ map (λ x. int_div x (pos l.factor)) (take l.number-index l.number-items);
  narrow : is_wide l.next.items ≡ false;
}
