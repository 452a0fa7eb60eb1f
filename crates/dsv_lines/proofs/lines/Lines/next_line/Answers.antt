use Rattle.std.proofs.Common.{◌≡◌, refl, sym, ap, ◌∙◌, arith}
use Rattle.dsv_lines.specs.Pieces.{lines_of}
use Rattle.dsv_lines.proofs.Cuts.{no_line, taken_line}
use Rattle.dsv_lines.proofs.lines.Lines.next_line.Goals as goal

pub returns-then-end-self : goal.returns-then-end-self
returns-then-end-self c =
    let rest = c.self.inside.rest.now in
    let lines : lines_of rest ≡ c.args.self.now.lines = ap (λ l. l.lines) c.self.view_is in
    (refl, rest, sym lines ∙ no_line rest c.length_before-end.result c.length_before-end.ensures.place (omega arith))

pub returns : goal.returns
returns c =
    let rest = c.self.inside.rest.now in
    (sym c.self.view_is ∙ taken_line rest c.length_before-end.result c.self.inside.number c.length_before-end.ensures.place (omega (arith, c.length_before-end.ensures.within)), refl)
