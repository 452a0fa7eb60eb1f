use Rattle.std.proofs.Common.{◌≡◌, ap, sym, ◌∙◌, ◌==◌, length, rules, is_none}
use Rattle.dsv_lines.proofs.Cuts.{pieces_left-none}
use Rattle.dsv_lines.proofs.pieces.Pieces.is_empty.Goals as goal

pub returns : goal.returns
returns c =
    let e : c.is_none.result ≡ is_none c.self.inside.rest = search rules in
    e ∙ sym (pieces_left-none c.self.inside.rest) ∙ ap (λ ps. length ps == 0) c.self.view_is
