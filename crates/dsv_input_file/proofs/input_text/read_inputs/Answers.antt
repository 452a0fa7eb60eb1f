use Rattle.std.proofs.Common.{◌∙◌, sym, arith}
use Rattle.dsv_input_file.proofs.Pieces.{piece_read, piece_longer}
use Rattle.dsv_input_file.proofs.input_text.read_inputs.Goals.{then-is_between+in_ok-put_piece, else-is_between}
use Rattle.dsv_input_file.proofs.input_text.read_inputs.Goals as goal

pub loop-i-preserved : goal.loop-i-preserved
loop-i-preserved c =
    let bytes = c.args.bytes.now in
    let i = c.loop-i.i in
    let found = c.loop-i.found in
    elim c.if-is_between.branch [
      | then-is_between+in_ok-put_piece w ↦ record {
        begun = omega (arith, w.start-is);
        near = omega (arith, w.line-is, w.line_after-line.ensures.next, c.loop-i.invariant.near);
        few = rw w.found-is w.in_ok-put_piece.ensures.few;
        same = rw (w.found-is, w.start-is, w.line-is, w.line_after-line.ensures.value)
            (sym (piece_read c.loop-i.line c.loop-i.start i bytes found w.put_piece.new.found c.loop-i-test.true (sym w.if-is_between.ensures) w.in_ok-put_piece.ensures.number)
            ∙ c.loop-i.invariant.same);
      }
      | else-is_between w ↦ record {
        begun = omega (arith, w.start-is);
        near = omega (arith, w.line-is, c.loop-i.invariant.near);
        few = rw w.found-is c.loop-i.invariant.few;
        same = rw (w.found-is, w.start-is, w.line-is)
            (sym (piece_longer c.loop-i.line c.loop-i.start i bytes found c.loop-i.invariant.begun c.loop-i-test.true (sym w.if-is_between.ensures)) ∙ c.loop-i.invariant.same);
      }
    ]
