use Rattle.std.proofs.Common.{◌≡◌, drop}
use Rattle.std.specs.List.{list_any}
use Rattle.dsv_loop.specs.Loops.{is_accumulating}
use Rattle.dsv_loop.proofs.loops.some_accumulates.Given as goal

abbrev pub invariant-loop-section : goal.invariant-loop-section
invariant-loop-section l = list_any is_accumulating (drop l.section-index l.sections) ≡ list_any is_accumulating l.sections
