use Rattle.std.proofs.Common.{◌≡◌, drop}
use Rattle.std.specs.List.{list_all}
use Rattle.dsv_loop.specs.Loops.{answers_at_once}
use Rattle.dsv_loop.proofs.loops.all_answer_at_once.Given as goal

abbrev pub invariant-loop-section : goal.invariant-loop-section
invariant-loop-section l = list_all answers_at_once (drop l.section-index l.sections) ≡ list_all answers_at_once l.sections
