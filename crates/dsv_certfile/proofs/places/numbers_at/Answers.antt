use Rattle.std.proofs.Common.{◌≡◌, ◌+◌, length, drop, get_or, sym, ap, ◌∙◌, ◌∷◌, Err, add-one, rules, arith}
use Rattle.std.specs.Prelude.{◌&&◌}
use Rattle.std.proofs.Math.Seq.{drop-cons}
use Rattle.dsv_certfile.specs.Places.{number_at, line_numbers}
use Rattle.dsv_certfile.specs.declared.keyword.Keyword.TheVariants as keyword
use Rattle.dsv_certfile.specs.declared.places.Place.TheVariants as place
use Rattle.dsv_certfile.proofs.PlaceLemmas.{more_numbers, turn, turn_bad, turn_short}
use Rattle.dsv_certfile.proofs.places.numbers_at.Goals.{then-has_words, else-has_words}
use Rattle.dsv_certfile.proofs.places.numbers_at.Goals as goal

pub returns-in_default : goal.returns-in_default
returns-in_default c =
    let l = c.loop-place in
    let places = c.args.places.now in
    let i = l.place-index in
    let p = get_or places i (place.Word keyword.Job) in
    let at : drop i places ≡ p ∷ drop (i + 1) places = rw add-one (drop-cons places i (place.Word keyword.Job) c.loop-place-test.true) in
    turn_short l.has_words l.numbers (drop i places) (drop (i + 1) places) p l.pieces (line_numbers places c.args.pieces) at c.in_default.ensures.0 l.invariant.rest

pub returns-in_err-is_kept : goal.returns-in_err-is_kept
returns-in_err-is_kept c =
    let l = c.loop-place in
    let places = c.args.places.now in
    let i = l.place-index in
    let why = c.in_err-is_kept.field-0.0 in
    let p = get_or places i (place.Word keyword.Job) in
    let at : drop i places ≡ p ∷ drop (i + 1) places = rw add-one (drop-cons places i (place.Word keyword.Job) c.loop-place-test.true) in
    let e : c.from_residual.result ≡ Err why = search rules in
    e ∙ turn_bad l.has_words l.numbers (drop i places) (drop (i + 1) places) p c.in-Some.piece.now l.pieces c.next_piece.new.self why (line_numbers places c.args.pieces)
    at c.in-Some.ensures (sym c.in_err-is_kept.ensures.answer) l.invariant.rest

pub loop-place-preserved : goal.loop-place-preserved
loop-place-preserved c =
    let l = c.loop-place in
    let places = c.args.places.now in
    let i = l.place-index in
    let kept = c.in_ok-is_kept.is_kept in
    let p = get_or places i (place.Word keyword.Job) in
    let at : drop i places ≡ p ∷ drop (i + 1) places = rw add-one (drop-cons places i (place.Word keyword.Job) c.loop-place-test.true) in
    let numbers = c.in_ok-is_kept.ensures.numbers in
    let words : c.if-has_words.has_words ≡ l.has_words && kept =
    elim c.if-has_words.branch [
      | then-has_words w ↦ (w.has_words-is ∙ ap (λ b. b && kept) (sym w.if-has_words.true))
      | else-has_words w ↦ (w.has_words-is ∙ w.if-has_words.false ∙ ap (λ b. b && kept) (sym w.if-has_words.false))
    ] in
    record {
      few = omega (arith, ap length numbers, more_numbers l.numbers (number_at p c.in-Some.piece.now), l.invariant.few);
      rest = turn l.has_words kept c.if-has_words.has_words l.numbers c.read_place.new.numbers (drop i places) (drop (i + 1) places) p c.in-Some.piece.now l.pieces c.next_piece.new.self (line_numbers places c.args.pieces)
          at c.in-Some.ensures (sym c.in_ok-is_kept.ensures.answer) numbers words l.invariant.rest;
    }
