use Rattle.std.proofs.Common.{◌≡◌, ◌+◌, ◌++◌, length, drop}
use Rattle.std.specs.List.{All}
use Rattle.dsv_meaning.specs.Lines.{summands}
use Rattle.dsv_meaning.specs.Summands.{IsSmall}
use Rattle.dsv_meaning.specs.Equations.{ago}
use Rattle.dsv_meaning.proofs.summands.push_products.Given as goal

abbrev pub invariant-loop-i : goal.invariant-loop-i
invariant-loop-i l = record {
  same : l.list.items ++ summands l.away (drop l.i l.coeffs) (ago l.words) l.i ≡ l.initial.list.items ++ summands l.away l.coeffs (ago l.words) 0;
  small : All IsSmall l.list.items;
  count : length l.list.items ≡ length l.initial.list.items + l.i;
}
