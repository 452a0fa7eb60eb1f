use Rattle.std.proofs.Common.{◌≡◌, length, map}
use denote.Text.{Utf8}
use denote.Shadow.{shadow}
use Rattle.dsv_command.specs.SectionNames.{names_of}
use Rattle.dsv_command.specs.Inputs.{pieces}
use Rattle.dsv_command.proofs.NameLemmas.{with_names}
use Rattle.dsv_command.proofs.section_names.find_names.Given as goal

abbrev pub invariant-loop-first : goal.invariant-loop-first
invariant-loop-first l = shadow (Utf8 l.rest) × (with_names (map (λ name. name.now) l.names.items) (pieces l.rest) ≡ names_of l.fn.text)

abbrev pub decreases-loop-first : goal.decreases-loop-first
decreases-loop-first l = length l.rest
