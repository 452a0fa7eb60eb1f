use Rattle.std.proofs.Common.{◌∙◌, ap, Ok, List, ℤ}
use Rattle.dsv_text.specs.Stages.{◌>>=◌}
use Rattle.dsv_forms.specs.Padded.{form_with}
use Rattle.dsv_lines.specs.Readings.{Reading, reading_of}
use Rattle.dsv_certfile.proofs.BodyLemmas.{form_made}
use Rattle.dsv_certfile.proofs.falls.read_form.Goals as goal

pub returns : goal.returns
returns c =
    let d = c.args.d in
    let rows = c.in_ok-rows.rows in
    ap (λ r. r >>= λ (rows : Reading (List (List ℤ))). Ok (reading_of (form_with rows.value) rows.left)) c.in_ok-rows.ensures.answer
    ∙ ap (λ form. Ok (reading_of form c.read_word_rows.new.lines)) (form_made d rows c.matrix_from.result c.in_ok-rows.ensures.many c.matrix_from.ensures)
