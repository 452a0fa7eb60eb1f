use Rattle.dsv_word.specs.Words.{width}
use Rattle.dsv_unroll.proofs.InputTests.{bits_kept}
use Rattle.dsv_unroll.proofs.inputs.put_low_test.Goals as goal

pub sle-requires-clause-first : goal.sle-requires-clause-first
sle-requires-clause-first c = c.in_ok-least.ensures.made.stands

pub sle-requires-clause-second : goal.sle-requires-clause-second
sle-requires-clause-second c = c.in_ok-least.ensures.made.kept.longer c.args.x c.requires.stands

pub returns-clause-x : goal.returns-clause-x
returns-clause-x c =
    let a = c.in_ok-least.ensures.made.kept in
    let b = c.in_ok-test.ensures.made.kept in
    bits_kept c.constant.new.self c.sle.new.self c.args.x (width c.args.format.now) b (bits_kept c.args.terms.now c.constant.new.self c.args.x (width c.args.format.now) a c.requires)
