use Rattle.std.proofs.Common.{◌≡◌, length}
use denote.Text.{Utf8}
use denote.Shadow.{shadow}
use Rattle.dsv_command.specs.Inputs.{pieces, inputs_of}
use Rattle.dsv_command.proofs.InputLemmas.{with_prefix}
use Rattle.dsv_command.proofs.inputs.find_inputs.Given as goal

abbrev pub invariant-loop-first : goal.invariant-loop-first
invariant-loop-first l = shadow (Utf8 l.rest) × (with_prefix l.inputs.items (pieces l.rest) ≡ inputs_of l.fn.text)

abbrev pub decreases-loop-first : goal.decreases-loop-first
decreases-loop-first l = length l.rest
