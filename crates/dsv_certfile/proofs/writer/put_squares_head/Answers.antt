use Rattle.std.proofs.Common.{[], ◌∷◌, ◌++◌, decimal}
use Rattle.std.specs.Fmt.{signed_decimal}
use Rattle.dsv_base.specs.Text.{spaced_text}
use Rattle.dsv_base.proofs.TakingLemmas.{writes_after, writes_cut}
use Rattle.dsv_certfile.specs.Keywords.{keyword_text}
use Rattle.dsv_certfile.proofs.LineTexts.{writes_as, two-text}
use Rattle.dsv_certfile.proofs.writer.put_squares_head.Goals as goal

pub returns-in_err-put_all-clause-text : goal.returns-in_err-put_all-clause-text
returns-in_err-put_all-clause-text g c =
    let s = c.args.s.now in
    writes_as (two-text (keyword_text c.args.word) (signed_decimal s.m) (decimal s.count))
    (writes_cut (spaced_text signed_decimal s.m ++ (spaced_text decimal s.count ++ 10 ∷ [])) c.from_residual.ensures.0 (rw c.text.ensures at c.in_err-put_all.ensures.cut))

pub returns-in_err-put_factor-clause-text : goal.returns-in_err-put_factor-clause-text
returns-in_err-put_factor-clause-text g c =
    let s = c.args.s.now in
    writes_as (two-text (keyword_text c.args.word) (signed_decimal s.m) (decimal s.count)) (writes_after (rw c.text.ensures at c.in_ok-put_all.ensures.whole)
    (writes_cut (spaced_text decimal s.count ++ 10 ∷ []) c.from_residual-in_err-put_factor.ensures.0 c.in_err-put_factor.ensures.text.cut))

pub returns-in_err-put_spaced-clause-text : goal.returns-in_err-put_spaced-clause-text
returns-in_err-put_spaced-clause-text g c =
    let s = c.args.s.now in
    writes_as (two-text (keyword_text c.args.word) (signed_decimal s.m) (decimal s.count)) (writes_after (rw c.text.ensures at c.in_ok-put_all.ensures.whole)
    (writes_after c.in_ok-put_factor.ensures.text.whole (writes_cut (10 ∷ []) c.from_residual-in_err-put_spaced.ensures.0 c.in_err-put_spaced.ensures.cut)))

pub returns-clause-text : goal.returns-clause-text
returns-clause-text g c =
    let s = c.args.s.now in
    writes_as (two-text (keyword_text c.args.word) (signed_decimal s.m) (decimal s.count)) (writes_after (rw c.text.ensures at c.in_ok-put_all.ensures.whole)
    (writes_after c.in_ok-put_factor.ensures.text.whole (writes_after c.in_ok-put_spaced.ensures.whole c.put_all-2.ensures)))
