use Rattle.std.proofs.Common.{◌≡◌, sym, ap, ◌∙◌, Some, slice_get}
use Rattle.dsv_lines.specs.Pieces.{pieces_of, pieces_left}
use Rattle.dsv_lines.proofs.Cuts.{taken_piece}
use Rattle.dsv_lines.proofs.pieces.Pieces.first.Goals as goal

pub returns : goal.returns
returns c =
    let text = c.in_ok-text.text.now in
    let some : c.self.inside.rest ≡ Some c.in_ok-text.text = c.in_ok-text.was in
    let left : pieces_of text ≡ c.args.self.now = ap pieces_left (sym some) ∙ c.self.view_is in
    sym (ap (λ ps. slice_get ps 0) (sym left) ∙ taken_piece text c.length_before.result c.length_before.ensures.place c.length_before.ensures.within)
