use Rattle.std.proofs.Common.{[], ◌∷◌, ◌++◌, codes}
use Rattle.dsv_base.proofs.TakingLemmas.{writes_after, writes_cut}
use Rattle.dsv_integer.specs.Numerals.{integer_text}
use Rattle.dsv_certfile.proofs.LineTexts.{writes_as, first-text}
use Rattle.dsv_certfile.proofs.writer.put_coefficient.Goals as goal

pub returns-in_err-put_all : goal.returns-in_err-put_all
returns-in_err-put_all g c =
    let z = c.args.coefficient.now in
    writes_as (first-text integer_text (codes "coefficient") z [])
    (writes_cut ((32 ∷ integer_text z) ++ 10 ∷ []) c.from_residual.ensures.0 (rw c.text.ensures at c.in_err-put_all.ensures.cut))

pub returns-in_err-put_piece : goal.returns-in_err-put_piece
returns-in_err-put_piece g c =
    let z = c.args.coefficient.now in
    writes_as (first-text integer_text (codes "coefficient") z []) (writes_after (rw c.text.ensures at c.in_ok-put_all.ensures.whole)
    (writes_cut (10 ∷ []) c.from_residual-in_err-put_piece.ensures.0 (rw c.text-2.ensures at c.in_err-put_piece.ensures.cut)))

pub returns : goal.returns
returns g c =
    let z = c.args.coefficient.now in
    writes_as (first-text integer_text (codes "coefficient") z []) (writes_after (rw c.text.ensures at c.in_ok-put_all.ensures.whole)
    (writes_after (rw c.text-2.ensures at c.in_ok-put_piece.ensures.whole) c.put_all-2.ensures))
