use Rattle.std.proofs.Common.{[], ◌∷◌, ◌++◌, decimal, codes}
use Rattle.dsv_base.proofs.TakingLemmas.{writes_after, writes_cut}
use Rattle.dsv_certfile.specs.Keywords.{deletion_text}
use Rattle.dsv_certfile.specs.Texts.{list_pieces}
use Rattle.dsv_certfile.proofs.LineTexts.{spaced, writes_as, piece_list-text}
use Rattle.dsv_certfile.proofs.output.put_deletion.Goals as goal

pub returns-in_err-put_number : goal.returns-in_err-put_number
returns-in_err-put_number g c =
    let a = c.args in
    let ids = list_pieces decimal a.ids.now in
    writes_as (piece_list-text (decimal a.id) deletion_text ids)
    (writes_cut (codes " d" ++ (spaced ids ++ 10 ∷ [])) c.from_residual.ensures.0 c.in_err-put_number.ensures.cut)

pub returns-in_err-put_all : goal.returns-in_err-put_all
returns-in_err-put_all g c =
    let a = c.args in
    let ids = list_pieces decimal a.ids.now in
    writes_as (piece_list-text (decimal a.id) deletion_text ids) (writes_after c.in_ok-put_number.ensures.whole
    (writes_cut (spaced ids ++ 10 ∷ []) c.from_residual-in_err-put_all.ensures.0 c.in_err-put_all.ensures.cut))

pub returns-in_err-put_ids : goal.returns-in_err-put_ids
returns-in_err-put_ids g c =
    let a = c.args in
    let ids = list_pieces decimal a.ids.now in
    writes_as (piece_list-text (decimal a.id) deletion_text ids) (writes_after c.in_ok-put_number.ensures.whole
    (writes_after c.in_ok-put_all.ensures.whole (writes_cut (10 ∷ []) c.from_residual-in_err-put_ids.ensures.0 c.in_err-put_ids.ensures.text.cut)))

pub returns : goal.returns
returns g c =
    let a = c.args in
    let ids = list_pieces decimal a.ids.now in
    writes_as (piece_list-text (decimal a.id) deletion_text ids) (writes_after c.in_ok-put_number.ensures.whole
    (writes_after c.in_ok-put_all.ensures.whole (writes_after c.in_ok-put_ids.ensures.text.whole c.put_all-2.ensures)))
