use Rattle.std.specs.List.{flat_map}
use Rattle.dsv_base.proofs.TakingLemmas.{writes_after, writes_cut}
use Rattle.dsv_lines.specs.Texts.{line_text}
use Rattle.dsv_certfile.specs.Texts.{squares_body}
use Rattle.dsv_certfile.proofs.writer.put_squares.Goals as goal

pub returns-in_err-put_squares_head-clause-text : goal.returns-in_err-put_squares_head-clause-text
returns-in_err-put_squares_head-clause-text g c =
    writes_cut (flat_map line_text (squares_body c.args.d c.args.squares.now)) c.from_residual.ensures.0 c.in_err-put_squares_head.ensures.text.cut

pub returns-clause-text : goal.returns-clause-text
returns-clause-text g c = writes_after c.in_ok-put_squares_head.ensures.text.whole c.put_squares_body.ensures.text
