use Rattle.std.proofs.Common.{◌≡◌, rules}
use Rattle.dsv_fraction.specs.Arithmetic.{over, bounded_ratio}
use Rattle.dsv_fraction.proofs.Values.{over_value}
use Rattle.dsv_fraction.proofs.fraction.Frac.new.Goals as goal

pub returns-clause-value : goal.returns-clause-value
returns-clause-value c =
    let e : c.bounded_fraction.result ≡ bounded_ratio (over c.args.num c.args.den) = search rules in
    rw e (over_value c.args.num c.args.den c.requires)
