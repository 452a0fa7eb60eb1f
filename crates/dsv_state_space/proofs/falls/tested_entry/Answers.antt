use Rattle.std.proofs.Common.{◌≡◌, sym, ◌∙◌}
use Rattle.dsv_algebra.specs.Vectors.{matrix_of}
use Rattle.dsv_forms.specs.Refusals.{any_wide}
use Rattle.dsv_forms.specs.declared.refusal.OfferPart.TheVariants as part
use Rattle.dsv_forms.specs.declared.refusal.FormRefusal.TheVariants as refusal
use Rattle.dsv_forms.proofs.Places.{passed, refused}
use Rattle.dsv_state_space.specs.StateForms.{one_of, loss_numbers}
use Rattle.dsv_state_space.specs.StateView.{states}
use Rattle.dsv_state_space.proofs.LossLemmas.{entry_given, entry_wide}
use Rattle.dsv_state_space.proofs.falls.tested_entry.Goals as goal

pub returns-in-Some-clause-refusal : goal.returns-in-Some-clause-refusal
returns-in-Some-clause-refusal c =
    let s = c.args.system.now in
    let at = c.args.at in
    let wide = any_wide (loss_numbers (states s) (one_of s) (matrix_of s.a) (matrix_of c.args.form.now.rows) at.row at.column) in
    let entry = entry_given (states s) (one_of s) (matrix_of s.a) (matrix_of c.args.form.now.rows) at.row at.column c.in-Some.entry (sym c.loss_entry.ensures ∙ c.in-Some.is) in
    sym (passed wide (refusal.Wide part.Fall at.row at.column) entry.narrow)

pub returns-in-Some-clause-entry : goal.returns-in-Some-clause-entry
returns-in-Some-clause-entry c =
    let s = c.args.system.now in
    (entry_given (states s) (one_of s) (matrix_of s.a) (matrix_of c.args.form.now.rows) c.args.at.row c.args.at.column c.in-Some.entry (sym c.loss_entry.ensures ∙ c.in-Some.is)).is

pub returns-in-None-clause-refusal : goal.returns-in-None-clause-refusal
returns-in-None-clause-refusal c =
    let s = c.args.system.now in
    let at = c.args.at in
    let wide = any_wide (loss_numbers (states s) (one_of s) (matrix_of s.a) (matrix_of c.args.form.now.rows) at.row at.column) in
    sym (refused wide (refusal.Wide part.Fall at.row at.column)
    (entry_wide (states s) (one_of s) (matrix_of s.a) (matrix_of c.args.form.now.rows) at.row at.column (sym c.loss_entry.ensures ∙ c.in-None.is)))
