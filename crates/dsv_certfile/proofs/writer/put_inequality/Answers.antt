use Rattle.std.proofs.Common.{[], ◌∷◌, ◌++◌, codes}
use Rattle.std.specs.Fmt.{signed_decimal}
use Rattle.std.specs.List.{flat_map}
use Rattle.dsv_base.specs.Text.{spaced_text}
use Rattle.dsv_base.proofs.TakingLemmas.{writes_after, writes_cut}
use Rattle.dsv_certfile.proofs.LineTexts.{writes_as, last-text}
use Rattle.dsv_certfile.proofs.writer.put_inequality.Goals as goal

pub returns-in_err-put_all-clause-text : goal.returns-in_err-put_all-clause-text
returns-in_err-put_all-clause-text g c =
    let i = c.args.inequality.now in
    writes_as (last-text signed_decimal (codes "ineq") i.coefficients.items i.bound)
    (writes_cut (flat_map (spaced_text signed_decimal) i.coefficients.items ++ (spaced_text signed_decimal i.bound ++ 10 ∷ [])) c.from_residual.ensures.0 (rw c.text.ensures at c.in_err-put_all.ensures.cut))

pub returns-in_err-put_entries-clause-text : goal.returns-in_err-put_entries-clause-text
returns-in_err-put_entries-clause-text g c =
    let i = c.args.inequality.now in
    writes_as (last-text signed_decimal (codes "ineq") i.coefficients.items i.bound) (writes_after (rw c.text.ensures at c.in_ok-put_all.ensures.whole)
    (writes_cut (spaced_text signed_decimal i.bound ++ 10 ∷ []) c.from_residual-in_err-put_entries.ensures.0 (rw c.as_slice.ensures.value at c.in_err-put_entries.ensures.cut)))

pub returns-in_err-put_entry-clause-text : goal.returns-in_err-put_entry-clause-text
returns-in_err-put_entry-clause-text g c =
    let i = c.args.inequality.now in
    writes_as (last-text signed_decimal (codes "ineq") i.coefficients.items i.bound) (writes_after (rw c.text.ensures at c.in_ok-put_all.ensures.whole)
    (writes_after (rw c.as_slice.ensures.value at c.in_ok-put_entries.ensures.whole) (writes_cut (10 ∷ []) c.from_residual-in_err-put_entry.ensures.0 c.in_err-put_entry.ensures.cut)))

pub returns-clause-text : goal.returns-clause-text
returns-clause-text g c =
    let i = c.args.inequality.now in
    writes_as (last-text signed_decimal (codes "ineq") i.coefficients.items i.bound) (writes_after (rw c.text.ensures at c.in_ok-put_all.ensures.whole)
    (writes_after (rw c.as_slice.ensures.value at c.in_ok-put_entries.ensures.whole) (writes_after c.in_ok-put_entry.ensures.whole c.put_all-2.ensures)))
