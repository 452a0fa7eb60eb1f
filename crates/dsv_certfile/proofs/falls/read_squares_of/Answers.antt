use Rattle.std.proofs.Common.{◌≡◌, ◌∙◌, ap, Ok, rules}
use Rattle.std.proofs.lemmas.Int.{to_z-of_z}
use mir.Syntax.{w128}
use mir.Val.{SFits, to_z, of_z}
use Rattle.dsv_lines.specs.Readings.{reading_of}
use Rattle.dsv_certfile.proofs.BodyLemmas.{squares_read, squares_made}
use Rattle.dsv_certfile.proofs.falls.read_squares_of.Goals as goal

pub returns : goal.returns
returns c =
    let a = c.args in
    let m = a.m.now in
    let fits : SFits w128 m = search rules in
    let bare : to_z w128 (of_z w128 m) ≡ m = simp to_z-of_z in
    let squares = c.in_ok-squares.squares in
    let rest = c.in_ok-rest.rest in
    squares_read a.d a.count m a.lines.now c.read_word_rows.new.lines c.read_word_rows-2.new.lines squares rest c.in_ok-squares.ensures.answer c.in_ok-rest.ensures.answer
    ∙ ap (λ s. Ok (reading_of s c.read_word_rows-2.new.lines))
    (squares_made (to_z w128 (of_z w128 m)) m a.count c.firsts.result c.matrix_from.result c.matrix_from-2.result squares rest bare c.in_ok-squares.ensures.many
    c.firsts.ensures c.matrix_from.ensures c.matrix_from-2.ensures)
