use Rattle.std.proofs.Common.{◌≡◌, ◌≤◌, ◌+◌, ◌∷◌, take, replicate, ap, ◌∙◌, arith}
use Rattle.dsv_certfile.specs.Places.{row_places}
use Rattle.dsv_certfile.specs.declared.numbers.NumberRange.TheVariants as range
use Rattle.dsv_certfile.specs.declared.places.Place.TheVariants as place
use Rattle.dsv_certfile.proofs.BodyLemmas.{places_taken}
use Rattle.dsv_certfile.proofs.falls.read_word_rows.Goals as goal

pub returns-clause-answer : goal.returns-clause-answer
returns-clause-answer c =
    let a = c.args in
    let all : c.word_and_numbers-places.result ≡ place.Word a.word ∷ replicate 17 (place.Number range.Whole) = c.word_and_numbers-places.ensures in
    let few : a.n ≤ 17 = omega (arith, c.requires.numbers) in
    let meant : take (a.n + 1) c.word_and_numbers-places.result ≡ row_places a.word a.n = ap (take (a.n + 1)) all ∙ places_taken a.word range.Whole a.n 17 few in
    rw meant at c.read_rows.ensures.answer
