use Rattle.std.proofs.Common.{◌≡◌, ◌++◌, map, drop}
use Rattle.std.specs.Prelude.{string_bytes}
use Rattle.dsv_command.specs.Options.{command_options}
use Rattle.dsv_command.specs.Reasons.{marks_from, marks_of}
use Rattle.dsv_command.specs.Views.{mark_view, walk_view}
use Rattle.dsv_command.proofs.marks.find_marks.Given as goal

abbrev pub invariant-loop-argument : goal.invariant-loop-argument
invariant-loop-argument l = map mark_view l.marks ++ marks_from command_options (walk_view l.walk) (map string_bytes (drop l.argument-index l.arguments)) ≡ marks_of command_options (map string_bytes l.arguments)
