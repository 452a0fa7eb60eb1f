use Rattle.std.proofs.Common.{◌≡◌, ◌≤◌, drop, take, All}
use Rattle.std.specs.Int.RustNames.{unsigned_abs}
use Rattle.dsv_forms.specs.Poly.{greatest_coefficient}
use Rattle.dsv_tested.specs.Tested.{first_over}
use Rattle.dsv_tested.proofs.list.coefficients.Given as goal

abbrev pub invariant-loop-c : goal.invariant-loop-c
invariant-loop-c l = record {
  same : l.found.items ≡ take l.c-index l.list;
  narrow : first_over l.c-index (drop l.c-index l.list) ≡ first_over 0 l.list;
  small : All (λ c. unsigned_abs c ≤ greatest_coefficient) l.found.items;
}
