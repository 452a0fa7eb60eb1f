use Rattle.std.proofs.Common.{[], ◌∷◌}
use Rattle.std.specs.List.{flat_map}
use Rattle.dsv_base.specs.Text.{spaced_text}
use Rattle.dsv_base.proofs.TakingLemmas.{writes_after, writes_err, cut_later, cut_more, wrote_more}
use Rattle.dsv_integer.specs.Numerals.{integer_text}
use Rattle.dsv_report.proofs.tables.put_polynomial.Goals as goal

pub returns-in_err-put_all : goal.returns-in_err-put_all
returns-in_err-put_all g c =
    writes_err c.from_residual.ensures.0 (cut_more (10 ∷ []) (cut_more (flat_map (spaced_text integer_text) c.args.poly.now) c.in_err-put_all.ensures.cut))

pub returns-in_err-put_numerals : goal.returns-in_err-put_numerals
returns-in_err-put_numerals g c =
    writes_err c.from_residual-in_err-put_numerals.ensures.0 (cut_more (10 ∷ []) (cut_later c.in_ok-put_all.ensures.whole c.in_err-put_numerals.ensures.cut))

pub returns : goal.returns
returns g c = writes_after (wrote_more c.in_ok-put_all.ensures.whole c.in_ok-put_numerals.ensures.whole) c.put_all-2.ensures
