use Rattle.std.proofs.Common.{◌≡◌, ◌+◌, ◌*◌, List, ◌++◌, drop}
use Rattle.dsv_meaning.specs.declared.summands.Summand.{Summand}
use Rattle.dsv_linear.specs.declared.range.Range.{Range}
use Rattle.dsv_forms.specs.Refusals.{first_of}
use Rattle.dsv_ellipsoid.specs.Walks.{HasSmallEnds, products, later_tests}
use Rattle.dsv_ellipsoid.proofs.intervals.walk_products.Given as goal

abbrev pub invariant-loop-i : goal.invariant-loop-i
invariant-loop-i l = record {
  same : (rest : List (Summand Range)) → first_of (later_tests l.format l.fn.walk (products l.away l.coeffs l.numbers ++ rest))
      ≡ first_of (later_tests l.format l.now (products l.away (drop l.i l.coeffs) l.numbers ++ rest));
  small : HasSmallEnds l.now.sum;
  count : l.now.value ≡ l.fn.walk.value + 2 * l.i;
}
