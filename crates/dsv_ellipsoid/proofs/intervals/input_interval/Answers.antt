use Rattle.std.proofs.Common.{◌≡◌, sym, subst, rules}
use Rattle.dsv_linear.specs.declared.range.Range.{Range}
use Rattle.dsv_ellipsoid.specs.Intervals.{input_interval}
use Rattle.dsv_ellipsoid.specs.Walks.{HasSmallEnds}
use Rattle.dsv_ellipsoid.proofs.SizeLemmas.{inputs_are_small}
use Rattle.dsv_ellipsoid.proofs.intervals.input_interval.Goals as goal

pub returns-clause-small : goal.returns-clause-small
returns-clause-small c =
    let q = c.args.quantised.now in
    let made : Range = record { low = c.lesser_of.result; high = c.greater_of.result } in
    let is : made ≡ input_interval q = search rules in
    subst HasSmallEnds (sym is) (inputs_are_small q c.xlo.ensures.quantised)
