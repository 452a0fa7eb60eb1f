use Rattle.std.proofs.Common.{◌≡◌, ◌≤◌, ◌+◌, ◌-◌, ◌∷◌, IfOk, length, take, replicate, ap, ◌∙◌, arith}
use Rattle.std.specs.Prelude.{min, max}
use Rattle.dsv_lines.specs.Pieces.{pieces_of}
use Rattle.dsv_certfile.specs.Places.{line_numbers, inequality_places}
use Rattle.dsv_certfile.specs.Ranges.{AreOf}
use Rattle.dsv_certfile.specs.declared.keyword.Keyword.TheVariants as keyword
use Rattle.dsv_certfile.specs.declared.numbers.NumberRange.TheVariants as range
use Rattle.dsv_certfile.specs.declared.places.Place.TheVariants as place
use Rattle.dsv_certfile.proofs.BodyLemmas.{places_taken, some_entries, few_entries, small_entries}
use Rattle.dsv_certfile.proofs.invariant.inequality_numbers.Goals as goal

pub returns : goal.returns
returns c =
    let ps = pieces_of c.args.line.now in
    let n = c.max-count.result in
    let word = place.Word keyword.Inequality in
    let entry = place.Number range.Entry in
    let all : c.word_and_numbers-places.result ≡ word ∷ replicate 17 entry = c.word_and_numbers-places.ensures in
    let is : n ≡ max 1 (min (length ps - 1) 17) = omega (arith, c.max-count.ensures, c.min.ensures, c.spaces_in.ensures) in
    let some : 1 ≤ n = omega (arith, is) in
    let few : n ≤ 17 = omega (arith, is) in
    let taken : take (n + 1) c.word_and_numbers-places.result ≡ word ∷ replicate n entry = ap (take (n + 1)) all ∙ places_taken keyword.Inequality range.Entry n 17 few in
    let meant : take (n + 1) c.word_and_numbers-places.result ≡ inequality_places (length ps) = taken ∙ ap (λ k. word ∷ replicate k entry) is in
    let r = c.read_numbers.result in
    let ranges : IfOk r (λ zs. AreOf (word ∷ replicate n entry) zs) = rw taken at c.read_numbers.ensures.ranges in
    record {
      answer = c.read_numbers.ensures.answer ∙ ap (λ qs. line_numbers qs c.new.result) meant ∙ ap (λ qs. line_numbers (inequality_places (length ps)) qs) c.new.ensures;
      some = some_entries keyword.Inequality n r some ranges;
      few = few_entries keyword.Inequality n r few ranges;
      small = small_entries keyword.Inequality n r ranges;
    }
