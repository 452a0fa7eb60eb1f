use Rattle.std.proofs.Common.{◌≡◌, List, ℕ, [], ◌∷◌, ◌++◌, decimal}
use Rattle.std.specs.Fmt.{signed_decimal}
use Rattle.dsv_base.specs.Text.{spaced_text}
use Rattle.dsv_base.proofs.TakingLemmas.{writes_after, writes_cut}
use Rattle.dsv_lines.specs.Texts.{line_text}
use Rattle.dsv_certfile.specs.Ellipsoids.{first_line}
use Rattle.dsv_certfile.specs.Keywords.{keyword_text}
use Rattle.dsv_certfile.specs.declared.ellipsoid.Ellipsoid.{Ellipsoid}
use Rattle.dsv_certfile.specs.declared.keyword.Keyword.TheVariants as keyword
use Rattle.dsv_certfile.proofs.LineTexts.{writes_as, five-text}
use Rattle.dsv_certfile.proofs.ellipsoid_writer.put_first_line.Goals as goal

abbrev numbers : Ellipsoid → List ℕ
numbers o = spaced_text signed_decimal o.kappa ++ (spaced_text signed_decimal o.nu ++ spaced_text signed_decimal o.bound)

abbrev count : Ellipsoid → List ℕ
count o = spaced_text decimal o.first.count ++ 10 ∷ []

whole : (o : Ellipsoid) → keyword_text keyword.First ++ (numbers o ++ (spaced_text signed_decimal o.first.m ++ count o)) ≡ line_text (first_line o)
whole o = five-text (keyword_text keyword.First) (signed_decimal o.kappa) (signed_decimal o.nu) (signed_decimal o.bound) (signed_decimal o.first.m) (decimal o.first.count)

pub returns-in_err-put_all-clause-text : goal.returns-in_err-put_all-clause-text
returns-in_err-put_all-clause-text g c =
    let o = c.args.offer.now in
    writes_as (whole o) (writes_cut (numbers o ++ (spaced_text signed_decimal o.first.m ++ count o)) c.from_residual.ensures.0 (rw c.text.ensures at c.in_err-put_all.ensures.cut))

pub returns-in_err-put_first_numbers-clause-text : goal.returns-in_err-put_first_numbers-clause-text
returns-in_err-put_first_numbers-clause-text g c =
    let o = c.args.offer.now in
    writes_as (whole o) (writes_after (rw c.text.ensures at c.in_ok-put_all.ensures.whole)
    (writes_cut (spaced_text signed_decimal o.first.m ++ count o) c.from_residual-in_err-put_first_numbers.ensures.0 c.in_err-put_first_numbers.ensures.text.cut))

pub returns-in_err-put_factor-clause-text : goal.returns-in_err-put_factor-clause-text
returns-in_err-put_factor-clause-text g c =
    let o = c.args.offer.now in
    writes_as (whole o) (writes_after (rw c.text.ensures at c.in_ok-put_all.ensures.whole)
    (writes_after c.in_ok-put_first_numbers.ensures.text.whole (writes_cut (count o) c.from_residual-in_err-put_factor.ensures.0 c.in_err-put_factor.ensures.text.cut)))

pub returns-in_err-put_spaced-clause-text : goal.returns-in_err-put_spaced-clause-text
returns-in_err-put_spaced-clause-text g c =
    let o = c.args.offer.now in
    writes_as (whole o) (writes_after (rw c.text.ensures at c.in_ok-put_all.ensures.whole)
    (writes_after c.in_ok-put_first_numbers.ensures.text.whole (writes_after c.in_ok-put_factor.ensures.text.whole
    (writes_cut (10 ∷ []) c.from_residual-in_err-put_spaced.ensures.0 c.in_err-put_spaced.ensures.cut))))

pub returns-clause-text : goal.returns-clause-text
returns-clause-text g c =
    let o = c.args.offer.now in
    writes_as (whole o) (writes_after (rw c.text.ensures at c.in_ok-put_all.ensures.whole)
    (writes_after c.in_ok-put_first_numbers.ensures.text.whole (writes_after c.in_ok-put_factor.ensures.text.whole
    (writes_after c.in_ok-put_spaced.ensures.whole c.put_all-2.ensures))))
