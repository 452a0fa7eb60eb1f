use Rattle.std.proofs.Common.{◌≡◌, drop}
use Rattle.dsv_reader.specs.Fields.{values_from, values_of}
use Rattle.dsv_reader.proofs.fields.values_of.Given as goal

abbrev pub invariant-loop-entry : goal.invariant-loop-entry
invariant-loop-entry l = values_from l.bytes (drop l.entry-index l.entries) l.values ≡ values_of l.bytes l.entries
