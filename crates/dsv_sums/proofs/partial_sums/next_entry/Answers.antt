use Rattle.std.proofs.Common.{◌-◌, length, sym, ◌∙◌, ◌+ℤ◌}
use Rattle.dsv_algebra.specs.Vectors.{vector_of, matrix_of}
use Rattle.dsv_sums.proofs.StepLemmas.{image_had, image_lost, entry_lost, entry_had, entry_is}
use Rattle.dsv_sums.proofs.partial_sums.next_entry.Goals as goal

pub returns-in_err-negative : goal.returns-in_err-negative
returns-in_err-negative c =
    c.from_residual.ensures
    ∙ image_lost c.args.c.now (matrix_of c.args.form.now.rows) c.args.i c.args.j c.requires.poly (sym c.in_err-negative.was ∙ c.negative_image_entry.ensures)

pub scaled_image-image-requires-clause-narrow : goal.scaled_image-image-requires-clause-narrow
scaled_image-image-requires-clause-narrow c =
    (image_had c.args.c.now (matrix_of c.args.form.now.rows) c.args.i c.args.j c.in_ok-negative.negative c.requires.poly (sym c.in_ok-negative.was ∙ c.negative_image_entry.ensures)).narrow

pub returns-in_err-entry : goal.returns-in_err-entry
returns-in_err-entry c =
    let xs = c.args.c.now in
    let P = matrix_of c.args.form.now.rows in
    let image = image_had xs P c.args.i c.args.j c.in_ok-negative.negative c.requires.poly (sym c.in_ok-negative.was ∙ c.negative_image_entry.ensures) in
    c.from_residual-in_err-entry.ensures
    ∙ entry_lost (length xs - 1) (vector_of xs) P c.args.i c.args.j (c.base_entry.result +ℤ c.scaled_image-image.result)
    (entry_is (length xs - 1) (vector_of xs) P c.args.i c.args.j c.in_ok-negative.negative c.base_entry.result c.scaled_image-image.result image c.base_entry.ensures c.scaled_image-image.ensures)
    (sym c.in_err-entry.was ∙ c.checked_add.ensures)

pub returns : goal.returns
returns c =
    let xs = c.args.c.now in
    let P = matrix_of c.args.form.now.rows in
    let image = image_had xs P c.args.i c.args.j c.in_ok-negative.negative c.requires.poly (sym c.in_ok-negative.was ∙ c.negative_image_entry.ensures) in
    c.small_number.ensures
    ∙ entry_had (length xs - 1) (vector_of xs) P c.args.i c.args.j (c.base_entry.result +ℤ c.scaled_image-image.result) c.in_ok-entry.entry image.numbers
    (entry_is (length xs - 1) (vector_of xs) P c.args.i c.args.j c.in_ok-negative.negative c.base_entry.result c.scaled_image-image.result image c.base_entry.ensures c.scaled_image-image.ensures)
    (sym c.in_ok-entry.was ∙ c.checked_add.ensures)
