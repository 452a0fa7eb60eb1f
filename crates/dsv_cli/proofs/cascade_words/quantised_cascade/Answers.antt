use Rattle.std.proofs.Common.{rules, ◌≡◌}
use Rattle.std.specs.Prelude.{Err}
use Rattle.dsv_report.specs.declared.stop.Stop.TheVariants as stop
use Rattle.dsv_cli.proofs.CascadeRows.{no_later}
use Rattle.dsv_cli.proofs.cascade_words.quantised_cascade.Goals as goal

pub returns-in_err-later-clause-refused : goal.returns-in_err-later-clause-refused
returns-in_err-later-clause-refused c =
    let files = c.args.controllers.now in
    let why = c.in_err-later.field-0.0 in
    let is : c.from_residual-in_err-later.result ≡ Err why = search rules in
    rw is (no_later c.args.design files.first files.later.items c.in_ok-first.first why c.in_ok-first.ensures.words (rw c.as_slice.ensures.value at c.in_err-later.ensures.refused))

pub returns-in_err-cascade-clause-refused : goal.returns-in_err-cascade-clause-refused
returns-in_err-cascade-clause-refused c =
    let r = c.in_err-cascade.field-0.0 in
    let is : c.from_residual-in_err-cascade.result ≡ Err (stop.CascadeRefused r) = search rules in
    rw is (c.in_ok-first.first, c.in_ok-later.later.items, c.in_ok-first.ensures.words, (rw c.as_slice.ensures.value at c.in_ok-later.ensures.words), c.in_err-cascade.ensures.refused)
