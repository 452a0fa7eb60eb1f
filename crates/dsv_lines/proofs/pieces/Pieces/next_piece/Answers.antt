use Rattle.std.proofs.Common.{◌≡◌, ◌+◌, ◌-◌, length, take, drop, sym, ap, ◌∙◌, Some, [], ◌∷◌, arith}
use Rattle.dsv_lines.specs.Pieces.{pieces_of, pieces_left}
use Rattle.dsv_lines.proofs.Cuts.{cut_piece, last_is_whole}
use Rattle.dsv_lines.proofs.pieces.Pieces.next_piece.Goals.{then-end-text, else-end-text}
use Rattle.dsv_lines.proofs.pieces.Pieces.next_piece.Goals as goal

pub returns : goal.returns
returns c =
    let text = c.in_ok-text.text.now in
    let end = c.length_before-end.result in
    let some : c.self.inside.rest ≡ Some c.in_ok-text.text = c.in_ok-text.was in
    let left : c.args.self.now ≡ pieces_of text = sym c.self.view_is ∙ ap pieces_left some in
    elim c.if-end-text.branch [
      | then-end-text w ↦
          let e : pieces_left c.if-end-text.self ≡ pieces_of (take (length text - (end + 1)) (drop (end + 1) text)) = ap pieces_left w.self-is in
          left ∙ cut_piece text end c.length_before-end.ensures.place w.if-end-text.true ∙ ap (λ ps. take end text ∷ ps) (sym e)
      | else-end-text w ↦
          let e : pieces_left c.if-end-text.self ≡ [] = ap pieces_left w.self-is in
          let last : end ≡ length text = omega (arith, w.if-end-text.false, c.length_before-end.ensures.within) in
          left ∙ last_is_whole text end c.length_before-end.ensures.place last ∙ ap (λ ps. take end text ∷ ps) (sym e)
    ]
