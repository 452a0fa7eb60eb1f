use Rattle.std.proofs.Common.{[], ◌∷◌, ◌++◌, decimal}
use Rattle.dsv_base.proofs.TakingLemmas.{writes_after, writes_cut}
use Rattle.dsv_certfile.specs.Texts.{list_pieces}
use Rattle.dsv_certfile.proofs.LineTexts.{spaced, writes_as, lists-text}
use Rattle.dsv_certfile.proofs.output.put_addition.Goals as goal
use Rattle.dsv_cnf.specs.Texts.{literal_piece}

pub returns-in_err-put_number-clause-text : goal.returns-in_err-put_number-clause-text
returns-in_err-put_number-clause-text g c =
    let a = c.args in
    let lits = list_pieces literal_piece a.literals.now in
    let hints = list_pieces decimal a.hints.now in
    writes_as (lists-text (decimal a.id) lits hints)
    (writes_cut (spaced lits ++ (spaced hints ++ 10 ∷ [])) c.from_residual.ensures.0 c.in_err-put_number.ensures.cut)

pub returns-in_err-put_literals-clause-text : goal.returns-in_err-put_literals-clause-text
returns-in_err-put_literals-clause-text g c =
    let a = c.args in
    let lits = list_pieces literal_piece a.literals.now in
    let hints = list_pieces decimal a.hints.now in
    writes_as (lists-text (decimal a.id) lits hints) (writes_after c.in_ok-put_number.ensures.whole
    (writes_cut (spaced hints ++ 10 ∷ []) c.from_residual-in_err-put_literals.ensures.0 c.in_err-put_literals.ensures.text.cut))

pub returns-in_err-put_ids-clause-text : goal.returns-in_err-put_ids-clause-text
returns-in_err-put_ids-clause-text g c =
    let a = c.args in
    let lits = list_pieces literal_piece a.literals.now in
    let hints = list_pieces decimal a.hints.now in
    writes_as (lists-text (decimal a.id) lits hints) (writes_after c.in_ok-put_number.ensures.whole
    (writes_after c.in_ok-put_literals.ensures.text.whole (writes_cut (10 ∷ []) c.from_residual-in_err-put_ids.ensures.0 c.in_err-put_ids.ensures.text.cut)))

pub returns-clause-text : goal.returns-clause-text
returns-clause-text g c =
    let a = c.args in
    let lits = list_pieces literal_piece a.literals.now in
    let hints = list_pieces decimal a.hints.now in
    writes_as (lists-text (decimal a.id) lits hints) (writes_after c.in_ok-put_number.ensures.whole
    (writes_after c.in_ok-put_literals.ensures.text.whole (writes_after c.in_ok-put_ids.ensures.text.whole c.put_all.ensures)))
