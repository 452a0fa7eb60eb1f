use Rattle.std.proofs.Common.{◌≡◌, ◌<◌, List, [], ◌∷◌, ◌++◌, length, ap, ◌∙◌, arith, length-append}
use Rattle.dsv_fraction.specs.Ratio.{Ratio, zero}
use Rattle.dsv_reader.specs.Reading.{padded_list}
use Rattle.dsv_reader.proofs.Padding.{padded_more}
use Rattle.dsv_reader.proofs.quotients.padded_list.Goals as goal

pub loop-preserved : goal.loop-preserved
loop-preserved c =
    let xs : List Ratio = c.loop.list.items in
    let e : c.push.new.self.items ≡ xs ++ zero ∷ [] = c.push.ensures.items ∙ ap (λ x. xs ++ x ∷ []) c.default.ensures in
    let room : length xs < c.args.count = omega (arith, c.loop.invariant.places, c.loop-test.true) in
    record {
      places = omega (arith, ap length e, length-append xs (zero ∷ []), c.loop.invariant.places);
      same = ap (padded_list c.args.count) e ∙ padded_more c.args.count xs room ∙ c.loop.invariant.same;
    }
