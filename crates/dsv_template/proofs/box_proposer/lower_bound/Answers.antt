use Rattle.std.proofs.Common.{rules}
use Rattle.dsv_template.proofs.BoxLemmas.{inputs_fit}
use Rattle.dsv_template.proofs.box_proposer.lower_bound.Goals as goal

pub overflow_sub-result : goal.overflow_sub-result
overflow_sub-result c =
    let f = inputs_fit c.args.shape.now c.requires.lawful in
    let e = c.or_less.ensures in
    search (rules, e, f.0, f.1)

pub returns-then-register-shape : goal.returns-then-register-shape
returns-then-register-shape c =
    let f = inputs_fit c.args.shape.now c.requires.lawful in
    let e = c.or_less.ensures in
    let b = c.if-register-shape.true in
    search (rules, e, f.0, f.1, b)
