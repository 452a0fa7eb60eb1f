use Rattle.std.proofs.Common.{◌≡◌, rules}
use Rattle.std.specs.Prelude.{Result, Ok}
use Rattle.dsv_fraction.specs.Ratio.{Ratio}
use Rattle.dsv_fraction.specs.Arithmetic.{sum_of}
use Rattle.dsv_fraction.specs.declared.fraction.TooWide.{TooWide}
use Rattle.dsv_fraction.proofs.Values.{sum_value}
use Rattle.dsv_fraction.proofs.fraction.Frac.add.Goals as goal

pub returns-clause-value : goal.returns-clause-value
returns-clause-value c =
    let e : ◌≡◌ {A = Result Ratio TooWide} (sum_of c.args.self.now c.args.other.now) (Ok c.in_lowest_terms.result) = search rules in
    let p = c.den_size.ensures in
    let q = c.den_size-2.ensures in
    rw e at (sum_value c.args.self.now c.args.other.now (rw (← p.value) p.positive) (rw (← q.value) q.positive))
