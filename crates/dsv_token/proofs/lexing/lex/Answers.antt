use Rattle.std.proofs.Common.{◌∙◌, ◌+◌, arith, length-drop}
use Rattle.dsv_token.proofs.Places.{in_order_later, in_order_push}
use Rattle.dsv_token.proofs.Skips.{gap_step, found_step}
use Rattle.dsv_token.proofs.lexing.lex.Goals as goal

pub pieces-preserved-in-Gap : goal.pieces-preserved-in-Gap
pieces-preserved-in-Gap c =
    let fits = rw c.rest.ensures at c.in-Gap.ensures.within in
    let piece = rw c.rest.ensures at c.in-Gap.ensures.value in
    record {
      within = omega (arith, fits.1, length-drop c.pieces.at c.args.text.now);
      same = gap_step c.args.text.now c.pieces.at c.in-Gap.len c.pieces.fresh c.in-Gap.next c.pieces.tokens c.pieces-test.true fits.0 piece ∙ c.pieces.invariant.same;
      placed = in_order_later c.pieces.tokens 0 c.pieces.at (c.pieces.at + c.in-Gap.len) (omega arith) c.pieces.invariant.placed;
    }

pub pieces-preserved : goal.pieces-preserved
pieces-preserved c =
    let fits = rw c.rest.ensures at c.in-Found.ensures.within in
    let piece = rw c.rest.ensures at c.in-Found.ensures.value in
    record {
      within = omega (arith, fits.1, length-drop c.pieces.at c.args.text.now);
      same = found_step c.args.text.now c.pieces.at c.in-Found.len c.pieces.fresh c.in-Found.kind c.pieces.tokens c.push.new.self c.pieces-test.true fits.0 piece c.in_ok-push-in-Found.ensures.ok ∙ c.pieces.invariant.same;
      placed = rw c.in_ok-push-in-Found.ensures.ok (in_order_push c.pieces.tokens (record { kind = c.in-Found.kind; at = c.pieces.at; len = c.in-Found.len }) 0 (c.pieces.at + c.in-Found.len) (omega arith) fits.0 (omega arith) c.pieces.invariant.placed);
    }
