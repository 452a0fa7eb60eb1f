use Rattle.std.proofs.Common.{◌≡◌, ◌<◌, [], take, length, ap, ◌∙◌, pos, rules, arith}
use Rattle.std.specs.List.{flat_map}
use Rattle.std.proofs.Math.Seq.{take-length}
use Rattle.dsv_base.proofs.TakingLemmas.{writes_err}
use Rattle.dsv_base.proofs.ListWrites.{wrote_item, cut_item}
use Rattle.dsv_certfile.proofs.LineTexts.{writes_as, writes_ok}
use Rattle.dsv_certfile.proofs.SquareLines.{pair_text, squares_of, squares-text, length-squares_of, square_at}
use Rattle.std.proofs.lemmas.List.Elements.{All-more}
use Rattle.dsv_certfile.specs.Typed.{IsTypedRow}
use Rattle.dsv_certfile.proofs.writer.put_all_squares.Goals as goal

pub returns-clause-text : goal.returns-clause-text
returns-clause-text g c =
    let s = c.args.squares.now in
    let d = c.args.d in
    let list = squares_of s.count s.weights s.rows in
    let weights : length s.weights ≡ 8 = search rules in
    let rows : length s.rows ≡ 8 = search rules in
    let whole : c.loop-i.i ≡ length list = omega (arith, length-squares_of s.count s.weights s.rows weights rows, c.min-i-end.ensures) in
    writes_ok (ap (λ n. flat_map (pair_text d) (take n list)) whole ∙ ap (flat_map (pair_text d)) (take-length list) ∙ squares-text d (take s.count s.weights) s.rows) c.loop-i.invariant.wrote

pub loop-i-preserved : goal.loop-i-preserved
loop-i-preserved g c =
    let s = c.args.squares.now in
    let list = squares_of s.count s.weights s.rows in
    let weights : length s.weights ≡ 8 = search rules in
    let rows : length s.rows ≡ 8 = search rules in
    let at = square_at s.count s.weights s.rows c.loop-i.i weights rows (omega (arith, c.min-i-end.ensures)) in
    let inside : c.loop-i.i < length list = omega (arith, length-squares_of s.count s.weights s.rows weights rows, c.min-i-end.ensures) in
    record {
      wrote = wrote_item (pair_text c.args.d) [] list c.loop-i.i (pos 0, []) inside c.loop-i.invariant.wrote (rw at c.in_ok-put_square.ensures.text.whole);
      typed = All-more IsTypedRow s.rows c.loop-i.i [] (omega (arith, rows, c.min-i-end.ensures)) c.loop-i.invariant.typed c.in_ok-put_square.ensures.typed;
    }

pub returns-in_err-put_square-clause-text : goal.returns-in_err-put_square-clause-text
returns-in_err-put_square-clause-text g c =
    let s = c.args.squares.now in
    let list = squares_of s.count s.weights s.rows in
    let weights : length s.weights ≡ 8 = search rules in
    let rows : length s.rows ≡ 8 = search rules in
    let at = square_at s.count s.weights s.rows c.loop-i.i weights rows (omega (arith, c.min-i-end.ensures)) in
    let inside : c.loop-i.i < length list = omega (arith, length-squares_of s.count s.weights s.rows weights rows, c.min-i-end.ensures) in
    writes_as (squares-text c.args.d (take s.count s.weights) s.rows) (writes_err c.from_residual.ensures.0
    (cut_item (pair_text c.args.d) [] list c.loop-i.i (pos 0, []) inside c.loop-i.invariant.wrote (rw at c.in_err-put_square.ensures.text.cut)))
