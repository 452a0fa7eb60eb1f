use Rattle.std.proofs.Common.{take}
use Rattle.dsv_cli.specs.Cascades.{BecomeWords}
use Rattle.dsv_cli.proofs.cascade_words.quantise_later.Given as goal

abbrev pub invariant-loop-i : goal.invariant-loop-i
invariant-loop-i l = BecomeWords l.design (take l.i l.controllers) l.sections.items
