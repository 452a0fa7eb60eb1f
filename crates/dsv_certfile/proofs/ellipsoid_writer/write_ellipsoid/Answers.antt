use Rattle.std.proofs.Common.{◌≡◌, List, ℕ, [], ◌++◌, ap}
use Rattle.std.specs.List.{flat_map}
use Rattle.dsv_base.proofs.TakingLemmas.{writes_after, writes_cut}
use Rattle.dsv_lines.specs.Texts.{line_text}
use Rattle.dsv_certfile.specs.Ellipsoids.{ellipsoid_version_line, states_line, ellipsoid_body, ellipsoid_text}
use Rattle.dsv_certfile.specs.Texts.{word_line}
use Rattle.dsv_certfile.specs.declared.ellipsoid.Ellipsoid.{Ellipsoid}
use Rattle.dsv_certfile.specs.declared.keyword.Keyword.TheVariants as keyword
use Rattle.dsv_certfile.proofs.LineTexts.{writes_as, framed-text}
use Rattle.dsv_certfile.proofs.ellipsoid_writer.write_ellipsoid.Goals as goal

abbrev last : List ℕ
last = line_text (word_line keyword.End)

abbrev body : Ellipsoid → List ℕ
body o = flat_map line_text (ellipsoid_body o)

whole : (o : Ellipsoid) → line_text ellipsoid_version_line ++ (line_text (states_line o.form.d) ++ (body o ++ last)) ≡ ellipsoid_text o
whole o = ap (λ t. line_text ellipsoid_version_line ++ t) (framed-text [] (states_line o.form.d) (word_line keyword.End) (ellipsoid_body o))

pub returns-in_err-put_all-clause-text : goal.returns-in_err-put_all-clause-text
returns-in_err-put_all-clause-text g c =
    let o = c.args.offer.now in
    writes_as (whole o) (writes_cut (line_text (states_line o.form.d) ++ (body o ++ last)) c.from_residual.ensures.0 c.in_err-put_all.ensures.cut)

pub returns-in_err-put_states-clause-text : goal.returns-in_err-put_states-clause-text
returns-in_err-put_states-clause-text g c =
    let o = c.args.offer.now in
    writes_as (whole o) (writes_after c.in_ok-put_all.ensures.whole (writes_cut (body o ++ last) c.from_residual-in_err-put_states.ensures.0 c.in_err-put_states.ensures.cut))

pub returns-in_err-put_body-clause-text : goal.returns-in_err-put_body-clause-text
returns-in_err-put_body-clause-text g c =
    let o = c.args.offer.now in
    writes_as (whole o) (writes_after c.in_ok-put_all.ensures.whole (writes_after c.in_ok-put_states.ensures.whole
    (writes_cut last c.from_residual-in_err-put_body.ensures.0 c.in_err-put_body.ensures.text.cut)))

pub returns-clause-text : goal.returns-clause-text
returns-clause-text g c =
    let o = c.args.offer.now in
    writes_as (whole o) (writes_after c.in_ok-put_all.ensures.whole (writes_after c.in_ok-put_states.ensures.whole
    (writes_after c.in_ok-put_body.ensures.text.whole c.put_word.ensures)))
