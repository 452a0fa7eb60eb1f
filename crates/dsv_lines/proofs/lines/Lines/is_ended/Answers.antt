use Rattle.std.proofs.Common.{ap, sym, ◌∙◌}
use Rattle.dsv_lines.specs.Pieces.{is_ended}
use Rattle.dsv_lines.proofs.Cuts.{is_ended-lines_of}
use Rattle.dsv_lines.proofs.lines.Lines.is_ended.Goals as goal

pub returns : goal.returns
returns c =
    c.is_empty.ensures ∙ sym (is_ended-lines_of c.self.inside.rest.now) ∙ ap (λ l. is_ended l.lines) c.self.view_is
