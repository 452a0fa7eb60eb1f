use Rattle.std.proofs.Common.{◌≡◌, List, ℕ, [], ◌∷◌, ◌++◌}
use Rattle.std.specs.Fmt.{signed_decimal}
use Rattle.dsv_base.specs.Text.{spaced_text}
use Rattle.dsv_base.proofs.TakingLemmas.{writes_after, writes_cut}
use Rattle.dsv_lines.specs.Texts.{piece_text, line_text}
use Rattle.dsv_certfile.specs.Ellipsoids.{levels_line}
use Rattle.dsv_certfile.specs.Keywords.{keyword_text}
use Rattle.dsv_certfile.specs.declared.ellipsoid.Ellipsoid.{Ellipsoid}
use Rattle.dsv_certfile.specs.declared.keyword.Keyword.TheVariants as keyword
use Rattle.dsv_certfile.proofs.LineTexts.{writes_as, words-text}
use Rattle.dsv_certfile.proofs.ellipsoid_writer.put_levels.Goals as goal

abbrev mu : Ellipsoid → List ℕ
mu o = (spaced_text piece_text (keyword_text keyword.Mu) ++ spaced_text signed_decimal o.mu) ++ 10 ∷ []

abbrev lambda : Ellipsoid → List ℕ
lambda o = (spaced_text piece_text (keyword_text keyword.Lambda) ++ spaced_text signed_decimal o.lambda) ++ mu o

whole : (o : Ellipsoid) → keyword_text keyword.Level ++ (spaced_text signed_decimal o.level ++ lambda o) ≡ line_text (levels_line o)
whole o = words-text (keyword_text keyword.Level) (signed_decimal o.level) (keyword_text keyword.Lambda) (signed_decimal o.lambda) (keyword_text keyword.Mu) (signed_decimal o.mu)

pub returns-in_err-put_all-clause-text : goal.returns-in_err-put_all-clause-text
returns-in_err-put_all-clause-text g c =
    let o = c.args.offer.now in
    writes_as (whole o) (writes_cut (spaced_text signed_decimal o.level ++ lambda o) c.from_residual.ensures.0 (rw c.text.ensures at c.in_err-put_all.ensures.cut))

pub returns-in_err-put_factor-clause-text : goal.returns-in_err-put_factor-clause-text
returns-in_err-put_factor-clause-text g c =
    let o = c.args.offer.now in
    writes_as (whole o) (writes_after (rw c.text.ensures at c.in_ok-put_all.ensures.whole)
    (writes_cut (lambda o) c.from_residual-in_err-put_factor.ensures.0 c.in_err-put_factor.ensures.text.cut))

pub returns-in_err-put_term-clause-text : goal.returns-in_err-put_term-clause-text
returns-in_err-put_term-clause-text g c =
    let o = c.args.offer.now in
    writes_as (whole o) (writes_after (rw c.text.ensures at c.in_ok-put_all.ensures.whole)
    (writes_after c.in_ok-put_factor.ensures.text.whole (writes_cut (mu o) c.from_residual-in_err-put_term.ensures.0 c.in_err-put_term.ensures.text.cut)))

pub returns-in_err-put_term-2-clause-text : goal.returns-in_err-put_term-2-clause-text
returns-in_err-put_term-2-clause-text g c =
    let o = c.args.offer.now in
    writes_as (whole o) (writes_after (rw c.text.ensures at c.in_ok-put_all.ensures.whole)
    (writes_after c.in_ok-put_factor.ensures.text.whole (writes_after c.in_ok-put_term.ensures.text.whole
    (writes_cut (10 ∷ []) c.from_residual-in_err-put_term-2.ensures.0 c.in_err-put_term-2.ensures.text.cut))))

pub returns-clause-text : goal.returns-clause-text
returns-clause-text g c =
    let o = c.args.offer.now in
    writes_as (whole o) (writes_after (rw c.text.ensures at c.in_ok-put_all.ensures.whole)
    (writes_after c.in_ok-put_factor.ensures.text.whole (writes_after c.in_ok-put_term.ensures.text.whole
    (writes_after c.in_ok-put_term-2.ensures.text.whole c.put_all-2.ensures))))
