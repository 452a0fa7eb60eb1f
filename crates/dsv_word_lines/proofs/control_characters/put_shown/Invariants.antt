use Rattle.std.proofs.Common.{take}
use Rattle.std.specs.List.{flat_map}
use Rattle.dsv_base.specs.Taking.{Wrote}
use Rattle.dsv_word_lines.specs.ControlCharacters.{shown_bytes}
use Rattle.dsv_word_lines.proofs.control_characters.put_shown.Given as goal

abbrev pub invariant-loop-byte : goal.invariant-loop-byte
invariant-loop-byte g l = Wrote (g.K.Sink.seen l.fn.sink) (g.K.Sink.seen l.sink) (flat_map shown_bytes (take l.byte-index l.text))
