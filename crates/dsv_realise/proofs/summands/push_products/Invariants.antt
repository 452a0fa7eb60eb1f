use Rattle.std.proofs.Common.{◌≡◌, ◌+◌, ◌++◌, length, drop}
use Rattle.dsv_meaning.specs.Lines.{summands}
use Rattle.dsv_realise.proofs.summands.push_products.Given as goal

abbrev pub invariant-loop-coeff : goal.invariant-loop-coeff
invariant-loop-coeff l = record {
  same : l.list.items ++ summands l.away (drop l.coeff-index l.coeffs) (λ i. i) l.word ≡ l.initial.list.items ++ summands l.away l.coeffs (λ i. i) l.from;
  word : l.word ≡ l.from + l.coeff-index;
  count : length l.list.items ≡ length l.initial.list.items + l.coeff-index;
}
