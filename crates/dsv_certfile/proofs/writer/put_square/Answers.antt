use Rattle.std.proofs.Common.{◌≡◌, [], ◌∷◌, ◌++◌, ap, ◌∙◌, take, codes}
use Rattle.std.specs.Fmt.{signed_decimal}
use Rattle.std.specs.List.{flat_map}
use Rattle.dsv_base.specs.Text.{spaced_text}
use Rattle.dsv_base.proofs.TakingLemmas.{writes_after, writes_cut}
use Rattle.dsv_certfile.proofs.LineTexts.{writes_as, first-text, take_least}
use Rattle.dsv_certfile.proofs.writer.put_square.Goals as goal

pub returns-in_err-put_all-clause-text : goal.returns-in_err-put_all-clause-text
returns-in_err-put_all-clause-text g c =
    let row = take c.args.d c.args.row.now in
    let w = c.args.weight.now in
    writes_as (first-text signed_decimal (codes "square") w row)
    (writes_cut (spaced_text signed_decimal w ++ (flat_map (spaced_text signed_decimal) row ++ 10 ∷ [])) c.from_residual.ensures.0 (rw c.text.ensures at c.in_err-put_all.ensures.cut))

pub returns-in_err-put_entry-clause-text : goal.returns-in_err-put_entry-clause-text
returns-in_err-put_entry-clause-text g c =
    let row = take c.args.d c.args.row.now in
    let w = c.args.weight.now in
    writes_as (first-text signed_decimal (codes "square") w row) (writes_after (rw c.text.ensures at c.in_ok-put_all.ensures.whole)
    (writes_cut (flat_map (spaced_text signed_decimal) row ++ 10 ∷ []) c.from_residual-in_err-put_entry.ensures.0 c.in_err-put_entry.ensures.cut))

pub returns-in_err-put_entries-clause-text : goal.returns-in_err-put_entries-clause-text
returns-in_err-put_entries-clause-text g c =
    let row = take c.args.d c.args.row.now in
    let w = c.args.weight.now in
    let e : take c.min.result c.args.row.now ≡ row = ap (λ n. take n c.args.row.now) c.min.ensures ∙ take_least 8 c.args.d c.args.row.now c.told-row in
    let cut = rw e at c.in_err-put_entries.ensures.cut in
    writes_as (first-text signed_decimal (codes "square") w row) (writes_after (rw c.text.ensures at c.in_ok-put_all.ensures.whole)
    (writes_after c.in_ok-put_entry.ensures.whole (writes_cut (10 ∷ []) c.from_residual-in_err-put_entries.ensures.0 cut)))

pub returns-clause-text : goal.returns-clause-text
returns-clause-text g c =
    let row = take c.args.d c.args.row.now in
    let w = c.args.weight.now in
    let e : take c.min.result c.args.row.now ≡ row = ap (λ n. take n c.args.row.now) c.min.ensures ∙ take_least 8 c.args.d c.args.row.now c.told-row in
    let whole = rw e at c.in_ok-put_entries.ensures.whole in
    writes_as (first-text signed_decimal (codes "square") w row) (writes_after (rw c.text.ensures at c.in_ok-put_all.ensures.whole)
    (writes_after c.in_ok-put_entry.ensures.whole (writes_after whole c.put_all-2.ensures)))
